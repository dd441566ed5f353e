-- A run over a part: where it stands after each value, and what it has done where it stops. Assumes nothing.
use mathlib.Core.Path.{◌≡◌, refl, ap, ◌∙◌}
use mathlib.Core.List.{List, [], ◌∷◌, ◌++◌, map}
use Prim.Native.Nat.{ℕ, zero, suc, ◌+◌, ◌≤◌, ◌<◌, zero-le}
use native.Mathlib.Nat.{le_of_suc-le-suc, not-suc-le-zero, zero-add}
use native.Mathlib.Numerals.{add-one}
use native.Mathlib.Omega.{arith}
use lib.ListN.{length, take, drop, get_or, set, length-set}
use Rattle.defs.specs.Kinds.{square, u32}
use Rattle.defs.specs.Roots.{root_of}
use Rattle.defs.specs.Answers.{Full}
use Rattle.laws.proofs.Roots.{one_root, root_is}
use Rattle.batch.specs.Batch.{cost_of, costs, Ran}
use Rattle.batch.proofs.Costs.{costs_next}
use Rattle.batch.proofs.Largest.{stops}

-- where a run stands: `done` values are paid for, and their roots stand in the first places
pub record Going (values before : List ℕ) (budget : ℕ) (roots : List ℕ) (done spent : ℕ) : Type 0 where
  pub within : done ≤ length values
  pub is_spent : spent ≡ costs (take done values)
  pub in_budget : spent ≤ budget
  pub is_roots : roots ≡ map (root_of square) (take done values) ++ drop done before
  pub same_length : length roots ≡ length before

pub begins : {values before : List ℕ} {budget : ℕ} → Going values before budget before 0 0
begins = record { within = zero-le; is_spent = refl; in_budget = zero-le; is_roots = refl; same_length = refl }

-- a root stored in the next place
stored : (f : ℕ → ℕ) (l before : List ℕ) (k : ℕ) → k < length l → k < length before →
    set (map f (take k l) ++ drop k before) k (f (get_or l k 0)) ≡ map f (take (suc k) l) ++ drop (suc k) before
stored f [] before k h g = absurd (not-suc-le-zero h)
stored f (n ∷ l) [] k h g = absurd (not-suc-le-zero g)
stored f (n ∷ l) (b ∷ before) zero h g = refl
stored f (n ∷ l) (b ∷ before) (suc k) h g = ap (λ (r : List ℕ). f n ∷ r) (stored f l before k (le_of_suc-le-suc h) (le_of_suc-le-suc g))

-- a value that what is left pays for: its root is written, and its steps are charged
pub goes_on : {values before roots : List ℕ} {budget done spent root rest start steps : ℕ} → length values ≡ length before →
    Going values before budget roots done spent → done < length values → Full square u32 (get_or values done 0) root rest start steps →
    spent + steps ≤ budget → Going values before budget (set roots done root) (done + 1) (spent + steps)
goes_on {values} {before} {roots} {budget} {done} {spent} {root} {rest} {start} {steps} same at more answer fits =
    let is_root : root ≡ root_of square (get_or values done 0) = one_root square answer.root_rem.is_root (root_is square (get_or values done 0)) in
    rw add-one (record {
      within = more;
      is_spent = omega (arith, costs_next values done more, at.is_spent, answer.is_steps);
      in_budget = fits;
      is_roots = rw (at.is_roots, is_root) (stored (root_of square) values before done more (omega arith));
      same_length = length-set roots done root ∙ at.same_length;
    })

-- no value is left, or the next would pass the budget: that is the promise
pub ends : {values before roots : List ℕ} {budget done spent : ℕ} → Going values before budget roots done spent →
    (done < length values → budget < spent + cost_of (get_or values done 0)) → Ran values before 0 budget done spent roots
ends {values} {before} {roots} {budget} {done} {spent} at next = record {
  is_done = stops (record { within = at.within; in_budget = omega (arith, at.is_spent, at.in_budget) }) (λ more.
      omega (arith, costs_next values done more, next more, at.is_spent));
  is_spent = at.is_spent;
  in_budget = at.in_budget;
  is_after = rw zero-add at.is_roots;
}
