-- A test that is computed over a range of numbers, and the fact at each of them. Assumes nothing.
use mathlib.Core.Path.{◌≡◌, subst}
use mathlib.Core.Logic.{◌⊎◌, inl, inr}
use mathlib.Core.Bool.{Bool, true}
use Prim.Native.Nat.{ℕ, zero, suc, ◌+◌, ◌≤◌, ◌<◌}
use native.Mathlib.Nat.{eq-or-lt_of_le}
use native.Mathlib.Omega.{arith}
use lib.Dec.{T}
use Rattle.laws.proofs.Sweeps.{both, both_left, both_right}

-- the test f passes at the c numbers from i on
abbrev pub range : (ℕ → Bool) → ℕ → ℕ → Bool
range f zero i = true
range f (suc c) i = both (f i) (range f c (suc i))

pub between : (f : ℕ → Bool) (c i : ℕ) → T (range f c i) → (x : ℕ) → i ≤ x → x < i + c → T (f x)
between f zero i t x low high = absurd (omega arith)
between f (suc c) i t x low high = at_first (eq-or-lt_of_le low) (between f c (suc i) (both_right (f i) (range f c (suc i)) t) x)
  where
    at_first : (i ≡ x) ⊎ (i < x) → (suc i ≤ x → x < suc i + c → T (f x)) → T (f x)
    at_first (inl e) later = subst (λ (y : ℕ). T (f y)) e (both_left (f i) (range f c (suc i)) t)
    at_first (inr l) later = later l (omega arith)
