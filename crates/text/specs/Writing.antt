-- Writing bytes into a list that is lent: all of them from a place on, or none.
use Rattle.std.specs.Prelude.{◌≡◌, Bool, cond, List, ◌++◌, ℕ, ◌+◌, leb, length, take, drop, Option}
use Rattle.std.specs.Bool.{then_some}

-- the bytes fit into the list from the place on
abbrev pub fits_at : List ℕ → ℕ → List ℕ → Bool
fits_at old at bytes = leb (at + length bytes) (length old)

-- the list with the bytes from the place on, if they fit; else the list as it was
unfoldable pub pasted : List ℕ → ℕ → List ℕ → List ℕ
pasted old at bytes = cond (fits_at old at bytes) (take at old ++ (bytes ++ drop (at + length bytes) old)) old

-- a write of the bytes at the place: what the list is afterwards, and the answer, the place behind them.
-- Where they don't fit, the list is as it was, and the answer is `None`
pub record Wrote (old : List ℕ) (at : ℕ) (bytes new : List ℕ) (r : Option ℕ) : Type 0 where
  pub is_text : new ≡ pasted old at bytes
  pub is_answer : r ≡ then_some (fits_at old at bytes) (at + length bytes)
