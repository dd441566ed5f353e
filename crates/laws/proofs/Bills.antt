-- Starts and steps: what a route shows of its own start and count, and the answer that follows. Assumes nothing.
use mathlib.Core.Path.{◌≡◌, refl, sym, ◌∙◌}
use mathlib.Core.Bool.{Bool, true, false}
use mathlib.Core.Logic.{◌⊎◌, inl, inr}
use Prim.Native.Nat.{ℕ, ◌≤◌, ◌<◌, zero-le}
use native.Mathlib.Omega.{arith}
use lib.Dec.{eqb}
use borrow.Author.Tests.{le-leb, eq-eqb, ne_eqb, eqb-true, eqb-false}
use Rattle.defs.specs.Kinds.{Kind, square, cube, pow, Width, u8}
use Rattle.defs.specs.Roots.{RootRem, root_of}
use Rattle.defs.specs.Starts.{cell_start, start8}
use Rattle.defs.specs.Cells.{bound, start_of, steps_of, raised, full_start, full_steps}
use Rattle.defs.specs.Answers.{Full, Normalised}
use Rattle.defs.specs.Parts.{Starts, Fixed}
use Rattle.laws.proofs.Powers.{le_or_lt}
use Rattle.laws.proofs.Shift.{raised_8}
use Rattle.laws.proofs.Roots.{one_root, one_answer, root_is, root_of_zero}

-- where the power of S is at most n the start is S
pub not_lowered : (k : Kind) (w : Width) (n : ℕ) → pow k (cell_start k w n) ≤ n → start_of k w n ≡ cell_start k w n
unfolding start_of
not_lowered k w n h = rw (le-leb (pow k (cell_start k w n)) n h)

-- a fix-up from S starts and pays as defined
pub billed : (k : Kind) (w : Width) {n start root rest steps : ℕ} → Starts k w n start → Fixed k n start root rest steps →
    (start ≡ start_of k w n) × (steps ≡ steps_of k w n)
unfolding steps_of
billed k w {n} {start} {root} s f =
    let is_start : start ≡ start_of k w n = s.is_cell_start ∙ sym (not_lowered k w n (rw s.is_cell_start at s.fits)) in
    let is_root : root ≡ root_of k n = one_root k f.root_rem.is_root (root_is k n) in
    (is_start, omega (arith, is_start, is_root, f.counted))

-- no second answer fits a full call
pub one_full : {k : Kind} {w : Width} {n a b c d a' b' c' d' : ℕ} → Full k w n a b c d → Full k w n a' b' c' d' →
    (a ≡ a') × (b ≡ b') × (c ≡ c') × (d ≡ d')
one_full {k} x y =
    let same = one_answer k x.root_rem y.root_rem in
    (same.0, same.1, x.is_start ∙ sym y.is_start, x.is_steps ∙ sym y.is_steps)

-- nor a normalised call
pub one_normalised : {k : Kind} {w : Width} {n a b c d e a' b' c' d' e' : ℕ} → Normalised k w n a b c d e →
    Normalised k w n a' b' c' d' e' → (a ≡ a') × (b ≡ b') × (c ≡ c') × (d ≡ d') × (e ≡ e')
one_normalised {k} {w} {n} {a} {b} {c} {d} {e} {a'} {b'} {c'} {d'} {e'} x y = by_bound (le_or_lt (bound k w) n)
  where
    by_bound : (bound k w ≤ n) ⊎ (n < bound k w) → (a ≡ a') × (b ≡ b') × (c ≡ c') × (d ≡ d') × (e ≡ e')
    by_bound (inl h) =
        let p = x.from_bound h in
        let q = y.from_bound h in
        let same = one_answer k p.root_rem q.root_rem in
        (p.not_refused ∙ sym q.not_refused, same.0, same.1, p.is_start ∙ sym q.is_start, p.is_steps ∙ sym q.is_steps)
    by_bound (inr h) =
        let p = x.below_bound h in
        let q = y.below_bound h in
        (p.is_number ∙ sym q.is_number, p.no_root ∙ sym q.no_root, p.no_rest ∙ sym q.no_rest, p.no_start ∙ sym q.no_start, p.no_steps ∙ sym q.no_steps)

-- the value 0 answers 0 throughout
pub full_zero : (k : Kind) (w : Width) {n : ℕ} → n ≡ 0 → Full k w n 0 0 0 0
unfolding full_start full_steps
full_zero k w {n} e = record {
  root_rem = record { is_root = root_of_zero k n e; is_rest = omega arith };
  is_start = rw (eq-eqb n 0 e);
  is_steps = rw (eq-eqb n 0 e);
}

-- any other value answers with the start and the steps of the value brought to its top bits
pub full_raised : (k : Kind) (w : Width) {n root rest start steps : ℕ} → (n ≡ 0 → ⊥) → RootRem k n root rest →
    start ≡ start_of k w (raised k w n) → steps ≡ steps_of k w (raised k w n) → Full k w n root rest start steps
unfolding full_start full_steps
full_raised k w {n} p answer started stepped = record {
  root_rem = answer;
  is_start = rw (ne_eqb n 0 p) started;
  is_steps = rw (ne_eqb n 0 p) stepped;
}

-- a search of a u8 starts at S, which is 0
pub starts_8 : (k : Kind) {n start : ℕ} → start ≡ 0 → Starts k u8 n start
unfolding start8
starts_8 square e = record { is_cell_start = e; fits = rw e zero-le }
starts_8 cube e = record { is_cell_start = e; fits = rw e zero-le }

-- the u8 bill: a search from S, which is 0, answers with the steps that it took
pub searched_8 : (k : Kind) {n start root rest steps : ℕ} → Starts k u8 n start → Fixed k n start root rest steps →
    Full k u8 n root rest start steps
unfolding start8
searched_8 k {n} {start} {root} {rest} {steps} s f = by_test (eqb n 0) refl
  where
    from_zero : start ≡ 0
    from_zero = s.is_cell_start

    by_test : (t : Bool) → eqb n 0 ≡ t → Full k u8 n root rest start steps
    by_test true e =
        let z = full_zero k u8 (eqb-true n 0 e) in
        record {
          root_rem = f.root_rem;
          is_start = from_zero ∙ z.is_start;
          is_steps = omega (arith, f.counted, from_zero, (one_answer k f.root_rem z.root_rem).0, z.is_steps);
        }
    by_test false e =
        let bill = billed k u8 s f in
        full_raised k u8 (eqb-false n 0 e) f.root_rem (rw (raised_8 k n) bill.0) (rw (raised_8 k n) bill.1)
