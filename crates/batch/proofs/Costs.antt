-- What values cost: one more of them, more of them, and u32 values at most, by the ceiling of their cell. Assumes nothing.
use mathlib.Core.Path.{◌≡◌}
use mathlib.Core.List.{List}
use Prim.Native.Nat.{ℕ, suc, ◌+◌, ◌*◌, ◌≤◌, ◌<◌}
use native.Mathlib.Omega.{arith}
use lib.ListN.{length, take, drop, get_or}
use lib.Seq.{get_or-drop, take-take}
use Rattle.std.specs.Prelude.{All}
use Rattle.std.proofs.Common.{add-one}
use Rattle.std.proofs.lemmas.List.{length-take}
use Rattle.std.proofs.lemmas.List.Elements.{All-from_get_or, All-take}
use Rattle.std.proofs.lemmas.List.Sums.{sum_by-le, sum_by-take-le, sum_by_more}
use Rattle.defs.specs.Kinds.{square, u32}
use Rattle.starts.proofs.Calls.{full_counts}
use Rattle.batch.specs.Batch.{cost_of, costs, part, U32s}

-- one value more costs what that value costs
pub costs_next : (l : List ℕ) (k : ℕ) → k < length l → costs (take (suc k) l) ≡ costs (take k l) + cost_of (get_or l k 0)
costs_next l k h = rw (← add-one) (sum_by_more cost_of l k 0 h)

-- more values cost no less
pub costs_rise : (l : List ℕ) (j k : ℕ) → j ≤ k → costs (take j l) ≤ costs (take k l)
costs_rise l j k h = rw (take-take j k l h) at (sum_by-take-le cost_of (take k l) j)

-- the first k of a list of u32 values cost at most 2k
costs_most : (l : List ℕ) → U32s l → (k : ℕ) → costs (take k l) ≤ 2 * k
costs_most l u k =
    let Few : ℕ → Type 0 = λ n. cost_of n ≤ 2 in
    let each : All Few (take k l) = All-take Few k l (All-from_get_or Few l 0 (λ i within. (full_counts square u32 (get_or l i 0) (u i)).1)) in
    omega (arith, sum_by-le cost_of 2 (take k l) each, length-take k l)

-- and so do those of a part of it
pub part_most : (first count : ℕ) (l : List ℕ) → U32s l → (k : ℕ) → k ≤ count → costs (take k (part first count l)) ≤ 2 * k
part_most first count l u k h = rw take-take (costs_most (drop first l) (λ i. rw get_or-drop (u (first + i))) k)
