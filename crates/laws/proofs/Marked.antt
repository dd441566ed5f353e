-- Each marked answer of the scope document comes out of the definitions: one table, one statement. Assumes nothing.
use mathlib.Core.Path.{◌≡◌, sym, subst₂}
use mathlib.Core.Bool.{Bool}
use Prim.Native.Nat.{ℕ}
use lib.Dec.{T, eqb, eqb→eq}
use lib.Count.{count_leading_zeros}
use Rattle.defs.specs.Roots.{RootRem, root_of, root_within, rest_of}
use Rattle.defs.specs.Tables.{rsqrt_tab, rcbrt_tab}
use Rattle.defs.specs.Starts.{start8}
use Rattle.defs.specs.Starts.Square16 as sq16
use Rattle.defs.specs.Starts.Cube16 as cb16
use Rattle.defs.specs.Starts.Square32 as sq32
use Rattle.defs.specs.Starts.Cube32 as cb32
use Rattle.defs.specs.Starts.Cube64 as cb64
use Rattle.defs.specs.Cells.{start_of, steps_of, shift_of, raised, full_start, full_steps}
use Rattle.defs.specs.Answers.{Full}
use Rattle.defs.specs.Marked.{Row, rows}
use Rattle.laws.proofs.Roots.{answer_is}
use Rattle.laws.proofs.Sweeps.{both, both_left, both_right, all, All, to_all}

-- the row is what the full call on its value answers
abbrev pub Holds : Row → Type 0
Holds r = Full r.kind r.width r.value r.root r.rest r.start r.steps

roots : Row → Bool
roots r = both (eqb r.root (root_of r.kind r.value)) (eqb r.rest (rest_of r.kind r.value))

bill : Row → Bool
bill r = both (eqb r.start (full_start r.kind r.width r.value)) (eqb r.steps (full_steps r.kind r.width r.value))

two_equal : (a b c d : ℕ) → T (both (eqb a b) (eqb c d)) → (a ≡ b) × (c ≡ d)
two_equal a b c d t = (eqb→eq a b (both_left (eqb a b) (eqb c d) t), eqb→eq c d (both_right (eqb a b) (eqb c d) t))

holds : (r : Row) → T (both (roots r) (bill r)) → Holds r
unfolding roots bill
holds r t =
    let k = r.kind in
    let n = r.value in
    let a = two_equal r.root (root_of k n) r.rest (rest_of k n) (both_left (roots r) (bill r) t) in
    let b = two_equal r.start (full_start k r.width n) r.steps (full_steps k r.width n) (both_right (roots r) (bill r) t) in
    record { root_rem = subst₂ (RootRem k n) (sym a.0) (sym a.1) (answer_is k n); is_start = b.0; is_steps = b.1 }

tested : T (all (λ r. both (roots r) (bill r)) rows)
unfolding rows roots bill root_of root_within rest_of rsqrt_tab rcbrt_tab start8 sq16.r sq16.cell_start cb16.top cb16.q cb16.d cb16.r cb16.cell_start sq32.h sq32.p sq32.r sq32.a sq32.cell_start cb32.top cb32.g cb32.p cb32.t cb32.y cb32.r cb32.cell_start cb64.top cb64.g cb64.p cb64.x cb64.t cb64.y cb64.r cb64.cell_start start_of steps_of shift_of raised full_start full_steps count_leading_zeros
tested = tt

pub marked : All Holds rows
marked = to_all (λ r. both (roots r) (bill r)) Holds holds rows tested
