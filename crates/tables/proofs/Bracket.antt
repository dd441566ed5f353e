-- The table rule at every entry of both tables: one computed test over each whole table, and one lemma. Assumes nothing.
use mathlib.Core.Bool.{Bool}
use Prim.Native.Nat.{ℕ, ◌+◌, ◌*◌, ◌<◌}
use lib.Dec.{T, leb, leb→le}
use lib.ListN.{length}
use Rattle.defs.specs.Kinds.{Kind, square, cube, pow}
use Rattle.defs.specs.Tables.{rsqrt_tab, rcbrt_tab, table_of, entry, first_of, target, Bracketed}
use Rattle.laws.proofs.Sweeps.{both, both_left, both_right, every, at_each}

-- the rule at place i, as a test
below : Kind → ℕ → ℕ → Bool
below k i e = leb (pow k (256 + e) * (first_of k + i)) (target k)

above : Kind → ℕ → ℕ → Bool
above k i e = leb (target k) (pow k (256 + e) * (first_of k + 1 + i))

in_bracket : Kind → ℕ → ℕ → Bool
in_bracket k i e = both (below k i e) (above k i e)

tested : (k : Kind) → T (every (in_bracket k) 0 (table_of k))
unfolding below above in_bracket rsqrt_tab rcbrt_tab
tested square = tt
tested cube = tt

pub bracketed : (k : Kind) (i : ℕ) → i < length (table_of k) → Bracketed k i (entry k i)
unfolding below above in_bracket
bracketed k i h =
    let e = entry k i in
    let t = at_each (in_bracket k) (table_of k) (tested k) i h in
    record {
      below = leb→le _ _ (both_left (below k i e) (above k i e) t);
      above = leb→le _ _ (both_right (below k i e) (above k i e) t);
    }
