-- Root and rest: the greatest a whose power is at most n, and n less that power.
use Rattle.std.specs.Prelude.{◌≡◌, true, false, cond, ℕ, zero, suc, ◌+◌, ◌*◌, ◌-◌, ◌/◌, ◌^◌, ◌≤◌, leb, eqb}
use Rattle.defs.specs.Kinds.{Kind, pow, degree}

-- a is the root of n: its power is at most n, and no greater number's is
pub record IsRoot (k : Kind) (n a : ℕ) : Type 0 where
  pub fits : pow k a ≤ n
  pub greatest : (b : ℕ) → pow k b ≤ n → b ≤ a

-- root and rest of n: the rest is what the root's power leaves of n
pub record RootRem (k : Kind) (n root rest : ℕ) : Type 0 where
  pub is_root : IsRoot k n root
  pub is_rest : rest ≡ n - pow k root

-- the root as a number that computes: twice the root of n / 2^degree, or one more where that still fits.
-- That it is the root of every n is the theorem `root_is` of the crate laws
abbrev pub one_more : Kind → ℕ → ℕ → ℕ
one_more k n a = cond (leb (pow k (a + 1)) n) (a + 1) a

unfoldable pub root_within : Kind → ℕ → ℕ → ℕ
root_within k zero n = 0
root_within k (suc fuel) n = elim (eqb n 0) [ true ↦ 0 | false ↦ one_more k n (2 * root_within k fuel (n / 2 ^ degree k)) ]

unfoldable pub root_of : Kind → ℕ → ℕ
root_of k n = root_within k n n

-- the rest as a number
unfoldable pub rest_of : Kind → ℕ → ℕ
rest_of k n = n - pow k (root_of k n)
