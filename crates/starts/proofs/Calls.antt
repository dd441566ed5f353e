-- From a cell to its calls: what the fix-up is owed, what a normalised call then answers, and that no call takes more steps than the
-- ceiling. Assumes nothing.
use mathlib.Core.Path.{◌≡◌, refl}
use mathlib.Core.Bool.{Bool, true, false, cond}
use Prim.Native.Nat.{ℕ, ◌+◌, ◌^◌, ◌≤◌, ◌<◌, zero-le}
use native.Mathlib.Nat.{zero-mul, lt_of_lt_of_le, lt_of_le_of_lt, lt_irrefl}
use native.Mathlib.Omega.{arith}
use lib.Dec.{eqb}
use borrow.Author.Tests.{eqb-true, eqb-false}
use Rattle.defs.specs.Kinds.{Kind, Width, pow, bits_of}
use Rattle.defs.specs.Roots.{root_of}
use Rattle.defs.specs.Starts.{cell_start}
use Rattle.defs.specs.Cells.{HasTopBits, bound, ceiling, start_of, steps_of, shift_of, raised, full_start, full_steps}
use Rattle.defs.specs.Answers.{Answered, Normalised}
use Rattle.defs.specs.Parts.{Starts, Fixed}
use Rattle.laws.proofs.Powers.{below}
use Rattle.laws.proofs.Roots.{one_root, root_is, root_of_zero}
use Rattle.laws.proofs.Bills.{billed}
use Rattle.laws.proofs.Shift.{raised_top}
use Rattle.starts.proofs.Cells.{cells}

-- S is a start that the fix-up can be handed
pub starts : (k : Kind) (w : Width) {n start : ℕ} → bound k w ≤ n → n < 2 ^ bits_of w → start ≡ cell_start k w n → Starts k w n start
starts k w {n} b h e = record { is_cell_start = e; fits = rw e ((cells k w).near n (record { from_bound = b; in_width = h })).low }

-- a root is at most the ceiling above S
within : (k : Kind) (w : Width) {n : ℕ} (root : ℕ) → HasTopBits k w n → pow k root ≤ n → root < cell_start k w n + ceiling k w + 1
within k w {n} root h low = below k root (cell_start k w n + ceiling k w + 1) (lt_of_le_of_lt low ((cells k w).near n h).high)

-- from the bound on a fix-up from S answers
answered : (k : Kind) (w : Width) {n start root rest steps : ℕ} → HasTopBits k w n → Starts k w n start →
    Fixed k n start root rest steps → Answered k w n 0 root rest start steps
answered k w {root = root} h s f =
    let bill = billed k w s f in
    record {
      not_refused = refl;
      root_rem = f.root_rem;
      is_start = bill.0;
      is_steps = bill.1;
      counted = f.counted;
      in_ceiling = omega (arith, s.is_cell_start, within k w root h f.root_rem.is_root.fits, f.counted);
    }

pub answers : (k : Kind) (w : Width) {n start root rest steps : ℕ} → bound k w ≤ n → n < 2 ^ bits_of w → Starts k w n start →
    Fixed k n start root rest steps → Normalised k w n 0 root rest start steps
answers k w {n} b h s f = record {
  below_bound = λ low. absurd (lt_irrefl n (lt_of_lt_of_le low b));
  from_bound = λ high. answered k w (record { from_bound = b; in_width = h }) s f;
}

-- the start and the steps of a normalised value add up to its root, and the steps are at most the ceiling
pub counts : (k : Kind) (w : Width) (n : ℕ) → HasTopBits k w n →
    (start_of k w n + steps_of k w n ≡ root_of k n) × (steps_of k w n ≤ ceiling k w)
unfolding steps_of
counts k w n h =
    let near : root_of k n < cell_start k w n + ceiling k w + 1 = within k w (root_of k n) h (root_is k n).fits in
    (omega (arith, (cells k w).not_above n h), omega (arith, (cells k w).never_lowered n h, near))

raised_zero : (k : Kind) (w : Width) (n : ℕ) → n ≡ 0 → raised k w n ≡ 0
unfolding raised
raised_zero k w n e = rw e (zero-mul (2 ^ shift_of k w 0))

-- so do those of a full call, to the root of the value brought to its top bits; the value 0 pays nothing
pub full_counts : (k : Kind) (w : Width) (n : ℕ) → n < 2 ^ bits_of w →
    (full_start k w n + full_steps k w n ≡ root_of k (raised k w n)) × (full_steps k w n ≤ ceiling k w)
unfolding full_start full_steps
full_counts k w n h = by_test (eqb n 0) refl
  where
    top : ℕ
    top = raised k w n

    by_test : (t : Bool) → eqb n 0 ≡ t → (cond t 0 (start_of k w top) + cond t 0 (steps_of k w top) ≡ root_of k top) × (cond t 0 (steps_of k w top) ≤ ceiling k w)
    by_test true e = (one_root k (root_of_zero k top (raised_zero k w n (eqb-true n 0 e))) (root_is k top), zero-le)
    by_test false e = counts k w top (raised_top k w (omega (arith, eqb-false n 0 e)) h)
