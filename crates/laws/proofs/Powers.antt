-- Powers over the kind: they rise, by the gap that a fix-up step takes off. Assumes nothing.
use mathlib.Core.Path.{◌≡◌, refl}
use mathlib.Core.Bool.{Bool, true, false}
use mathlib.Core.Logic.{◌⊎◌, inl, inr}
use Prim.Native.Nat.{ℕ, ◌+◌, ◌*◌, ◌≤◌, ◌<◌}
use native.Mathlib.Nat.{mul-pos, mul-le-mul, lt_of_not-le, lt_of_lt_of_le, lt_irrefl}
use native.Mathlib.Omega.{arith}
use lib.Dec.{leb}
use borrow.Author.Tests.{leb-true, leb-false}
use Rattle.defs.specs.Kinds.{Kind, square, cube, pow}
use Rattle.defs.specs.Parts.{gap}

-- either way round: a test that goes by cases
pub le_or_lt : (a b : ℕ) → (a ≤ b) ⊎ (b < a)
le_or_lt a b = by_test (leb a b) refl
  where
    by_test : (t : Bool) → leb a b ≡ t → (a ≤ b) ⊎ (b < a)
    by_test true e = inl (leb-true a b e)
    by_test false e = inr (leb-false a b e)

-- the gap is what leads from one power to the next
pub next_power : (k : Kind) (s : ℕ) → pow k (s + 1) ≡ pow k s + gap k s
next_power square s = omega arith
next_power cube s = omega arith

pub rises : (k : Kind) {a b : ℕ} → a ≤ b → pow k a ≤ pow k b
rises square h = mul-le-mul h h
rises cube h = mul-le-mul (mul-le-mul h h) h

-- the power of a is below that of b, so a is below b
pub below : (k : Kind) (a b : ℕ) → pow k a < pow k b → a < b
below k a b h = lt_of_not-le (λ (g : b ≤ a). lt_irrefl (pow k a) (lt_of_lt_of_le h (rises k g)))

-- the power of a product, and of what is not 0
pub pow_product : (k : Kind) (a b : ℕ) → pow k (a * b) ≡ pow k a * pow k b
pow_product square a b = omega arith
pow_product cube a b = omega arith

pub pow_positive : (k : Kind) {d : ℕ} → 0 < d → 0 < pow k d
pow_positive square h = mul-pos h h
pow_positive cube h = mul-pos (mul-pos h h) h
