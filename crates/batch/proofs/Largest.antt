-- The largest number of values that a budget affords: it is reached where the next value would pass the budget, and is one number.
-- Assumes nothing.
use mathlib.Core.Path.{◌≡◌}
use mathlib.Core.List.{List}
use Prim.Native.Nat.{ℕ, suc, ◌<◌}
use native.Mathlib.Nat.{le_antisymm, le_of_suc-le-suc, lt_of_lt_of_le, lt_of_not-le}
use native.Mathlib.Omega.{arith}
use lib.ListN.{length, take}
use Rattle.batch.specs.Batch.{costs, Affords, Largest}
use Rattle.batch.proofs.Costs.{costs_rise}

-- a number that is afforded is the largest where the list ends there, or the next value would pass the budget
pub stops : {l : List ℕ} {budget k : ℕ} → Affords l budget k → (k < length l → budget < costs (take (suc k) l)) → Largest l budget k
stops {l} {budget} {k} a next = record {
  affords = a;
  largest = λ j b.
      le_of_suc-le-suc (lt_of_not-le (λ (above : k < j).
      omega (arith, next (lt_of_lt_of_le above b.within), costs_rise l (suc k) j above, b.in_budget)));
}

-- no second number is the largest
pub one_largest : {l : List ℕ} {budget j k : ℕ} → Largest l budget j → Largest l budget k → j ≡ k
one_largest {j = j} {k = k} a b = le_antisymm (b.largest j a.affords) (a.largest k b.affords)
