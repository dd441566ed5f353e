-- Putting a text into a list that is known to have room: writes in a row, of which none need be undone.
use Rattle.std.specs.Prelude.{List, ℕ, ◌+◌, ◌≤◌, length, Option}
use Rattle.text.specs.Writing.{Wrote}

-- where the bytes fit from the place on, they are written there
pub record Puts (old : List ℕ) (at : ℕ) (bytes new : List ℕ) (r : Option ℕ) : Type 0 where
  pub in_room : at + length bytes ≤ length old → Wrote old at bytes new r
