-- No two refusals have one number, and none has that of no refusal: so a result is known by its numbers. Assumes nothing.
use mathlib.Core.Path.{◌≡◌, refl, ap}
use mathlib.Core.List.{[], ◌∷◌}
use Prim.Native.Nat.{ℕ}
use lib.ListN.{get_or}
use Rattle.std.specs.Prelude.{Option, Some, None, Result, Ok, Err}
use Rattle.std.specs.Result.{result_unwrap_or}
use Rattle.defs.specs.Refusals.{no_refusal}
use Rattle.refusals.specs.Refusal.{number_of, number_in, part_in}
use Rattle.refusals.specs.declared.Refusal.{Refusal}
use Rattle.refusals.specs.declared.Refusal.TheVariants.{NotNormalised, FirstBeyond, CountBeyond, LengthsDiffer, RestBeyond, ValueBeyond}

-- the refusal of a number, if there is one
refusal_at : ℕ → Option Refusal
refusal_at n =
    get_or (None ∷ Some NotNormalised ∷ Some FirstBeyond ∷ Some CountBeyond ∷ Some LengthsDiffer ∷ Some RestBeyond ∷ Some ValueBeyond ∷ []) n None

-- the refusal of its number is itself
refusal_is : (a : Refusal) → refusal_at (number_of a) ≡ Some a
unfolding refusal_at
refusal_is NotNormalised = refl
refusal_is FirstBeyond = refl
refusal_is CountBeyond = refl
refusal_is LengthsDiffer = refl
refusal_is RestBeyond = refl
refusal_is ValueBeyond = refl

-- the refusal of the number of none is none
none_at : refusal_at no_refusal ≡ None
unfolding refusal_at
none_at = refl

-- no second result has the same number and, or a default in its place, the same value
pub one_result : {T : Type 0} (default : T) (a b : Result T Refusal) → number_in a ≡ number_in b → result_unwrap_or a default ≡ result_unwrap_or b default →
    a ≡ b
one_result default (Ok x) (Ok y) number value = ap Ok value
one_result default (Ok x) (Err b) number value = absurd (cc (none_at, refusal_is b, number))
one_result default (Err a) (Ok y) number value = absurd (cc (none_at, refusal_is a, number))
one_result default (Err a) (Err b) number value = cc (refusal_is a, refusal_is b, number)

part_is : (a : Result ℕ Refusal) → part_in (λ value. value) a ≡ result_unwrap_or a 0
part_is (Ok value) = refl
part_is (Err refusal) = refl

-- nor does a second result of a number have the same number of a refusal and the same part
pub one_value : (a b : Result ℕ Refusal) → number_in a ≡ number_in b → part_in (λ value. value) a ≡ part_in (λ value. value) b → a ≡ b
one_value a b number part = one_result 0 a b number (cc (part_is a, part_is b, part))
