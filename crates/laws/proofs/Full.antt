-- A full call, from a start and a fix-up on its value brought to the top bits. Assumes nothing.
use mathlib.Core.Path.{◌≡◌}
use Prim.Native.Nat.{ℕ, ◌*◌, ◌-◌, ◌/◌, ◌%◌, ◌^◌, ◌≤◌, ◌<◌}
use native.Mathlib.Nat.{lt_irrefl}
use Rattle.defs.specs.Kinds.{Kind, Width, u8, u16, u32, u64, pow, bits_of}
use Rattle.defs.specs.Roots.{IsRoot}
use Rattle.defs.specs.Cells.{bound}
use Rattle.defs.specs.Answers.{Full}
use Rattle.defs.specs.Parts.{Shifts, Starts, Fixed}
use Rattle.laws.proofs.Bills.{billed, full_raised, searched_8}
use Rattle.laws.proofs.Shift.{Wide, raises, root_shifted_back, top_positive, unraised}

-- a value that is not 0 is none
not_zero : {n : ℕ} → 0 < n → n ≡ 0 → ⊥
not_zero p e = lt_irrefl 0 (rw e at p)

-- a value with its top bits answers what its own fix-up gives
own_answer : (k : Kind) (w : Width) → Wide w → {n start root rest steps : ℕ} → bound k w ≤ n → n < 2 ^ bits_of w →
    Starts k w n start → Fixed k n start root rest steps → Full k w n root rest start steps
own_answer k w v {n} b h s f =
    let same = unraised k w v (record { from_bound = b; in_width = h }) in
    let bill = billed k w s f in
    full_raised k w (not_zero (top_positive k w v b)) f.root_rem (rw same bill.0) (rw same bill.1)

-- the same at every width: at 8 bits each value has its top bits
pub own_full : (k : Kind) (w : Width) {n start root rest steps : ℕ} → bound k w ≤ n → n < 2 ^ bits_of w → Starts k w n start →
    Fixed k n start root rest steps → Full k w n root rest start steps
own_full k u8 b h s f = searched_8 k s f
own_full k u16 b h s f = own_answer k u16 tt b h s f
own_full k u32 b h s f = own_answer k u32 tt b h s f
own_full k u64 b h s f = own_answer k u64 tt b h s f

-- any other value that is not 0 has its root by shifting back
module _ (k : Kind) (w : Width) (v : Wide w) {n shift back : ℕ} (p : 0 < n) (h : n < 2 ^ bits_of w) (s : Shifts k w n shift back) where
  pub root_back_of : {top root : ℕ} → IsRoot k ((n * 2 ^ shift) % 2 ^ bits_of w) top → root ≡ top / 2 ^ back → IsRoot k n root
  root_back_of r e = rw (e, s.is_back, s.is_shift) (root_shifted_back k w (rw (raises k w v p h s) at r))

  -- and its rest worked out anew
  pub answer_back : {start top left steps root rest : ℕ} → Starts k w ((n * 2 ^ shift) % 2 ^ bits_of w) start →
      Fixed k ((n * 2 ^ shift) % 2 ^ bits_of w) start top left steps → root ≡ top / 2 ^ back → rest ≡ n - pow k root →
      Full k w n root rest start steps
  answer_back t f e anew =
      let bill = rw (raises k w v p h s) at (billed k w t f) in
      full_raised k w (not_zero p) (record { is_root = root_back_of f.root_rem.is_root e; is_rest = anew }) bill.0 bill.1
