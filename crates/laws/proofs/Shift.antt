-- Bringing a value to its top bits, and its root back: left by a multiple of the degree, right by that many bits. Assumes nothing.
use mathlib.Core.Path.{◌≡◌, refl, sym, ap, ◌∙◌}
use mathlib.Core.Logic.{◌⊎◌, inl, inr}
use Prim.Native.Nat.{ℕ, suc, ◌+◌, ◌*◌, ◌-◌, ◌/◌, ◌%◌, ◌^◌, ◌≤◌, ◌<◌, zero-le}
use native.Mathlib.Nat.{not-suc-le-zero, mul-one, lt_irrefl, lt_of_le_of_lt, le_trans, lt_of_lt_of_le, le_of_eq, mul-le-mul_right, le_of_mul-le-mul_right, lt_of_mul-lt-mul_right, div-mul-le_self, lt-div-mul-add, mod-lt, mod-eq_of_lt, div-add-mod, mul-div_right}
use native.Mathlib.Omega.{arith}
use lib.Dec.{lit≤, lit<}
use lib.Count.{count_leading_zeros, leading_top}
use lib.Pow.{pow_pos, pow-add, pow_mono, shl_lt}
use Rattle.defs.specs.Kinds.{Kind, square, cube, Width, u8, u16, u32, u64, pow, degree, bits_of, root_bits}
use Rattle.defs.specs.Roots.{IsRoot}
use Rattle.defs.specs.Cells.{HasTopBits, bound, lowered, shift_of, raised}
use Rattle.defs.specs.Parts.{Shifts}
use Rattle.laws.proofs.Powers.{le_or_lt, rises, pow_product, pow_positive}
use Rattle.laws.proofs.Roots.{is_root, root_above}

-- the power of a power of two
pow_two : (k : Kind) (j : ℕ) → pow k (2 ^ j) ≡ 2 ^ (degree k * j)
pow_two square j = sym (pow-add 2 j j) ∙ ap (λ (m : ℕ). 2 ^ m) (omega arith)
pow_two cube j = ap (λ (m : ℕ). m * 2 ^ j) (sym (pow-add 2 j j)) ∙ sym (pow-add 2 (j + j) j) ∙ ap (λ (m : ℕ). 2 ^ m) (omega arith)

-- the root of n times the power of d, divided by d, is the root of n
root_divided : (k : Kind) (n d a : ℕ) → 0 < d → IsRoot k (n * pow k d) a → IsRoot k n (a / d)
root_divided k n d a pos r =
    let low : pow k (a / d) * pow k d ≤ n * pow k d = rw (← (pow_product k (a / d) d)) (le_trans (rises k (div-mul-le_self a d)) r.fits) in
    let next : a + 1 ≤ (a / d + 1) * d = omega (arith, lt-div-mul-add {a = a} {b = d} pos) in
    let high : n * pow k d < pow k (a / d + 1) * pow k d = rw (← (pow_product k (a / d + 1) d)) (lt_of_lt_of_le (root_above k r) (rises k next)) in
    is_root k (le_of_mul-le-mul_right low (pow_positive k pos)) (lt_of_mul-lt-mul_right (pow k d) high)

pub root_back : (k : Kind) (n j a : ℕ) → IsRoot k (n * 2 ^ (degree k * j)) a → IsRoot k n (a / 2 ^ j)
root_back k n j a r =
    root_divided k n (2 ^ j) a (pow_pos j) (rw (pow_two k j) r)

-- a value below 2^b that is not 0, shifted left by its leading zeros lowered to a multiple of d, has one of its top d bits set
record Lifted (d b n s : ℕ) : Type 0 where
  topped : 2 ^ (b - d) ≤ n * 2 ^ s
  kept : n * 2 ^ s < 2 ^ b
  short : s < b

lift : (d b n : ℕ) → 0 < d → d ≤ b → 0 < n → n < 2 ^ b → Lifted d b n (lowered d (count_leading_zeros b n))
lift d b n pos room p h =
    let t = leading_top b n p h in
    let z : ℕ = count_leading_zeros b n in
    let s : ℕ = lowered d z in
    let off : z % d < d = mod-lt z pos in
    record {
      topped = le_trans (pow_mono (omega (arith, t.1, off))) (le_trans (le_of_eq (pow-add 2 t.0 s)) (mul-le-mul_right (2 ^ s) t.2));
      kept = lt_of_lt_of_le (shl_lt {a = n} (suc t.0) s t.3) (pow_mono (omega (arith, t.1)));
      short = omega (arith, t.1);
    }

-- the widths above u8, which are brought to their top bits
abbrev pub Wide : Width → Type 0
Wide u8 = ⊥
Wide u16 = Unit {0}
Wide u32 = Unit {0}
Wide u64 = Unit {0}

degree_small : (k : Kind) → (0 < degree k) × (degree k ≤ 3)
degree_small square = (lit< tt, lit≤ tt)
degree_small cube = (lit< tt, lit≤ tt)

lifted : (k : Kind) (w : Width) → Wide w → (n : ℕ) → 0 < n → n < 2 ^ bits_of w → Lifted (degree k) (bits_of w) n (shift_of k w n)
unfolding shift_of
lifted k u8 v n p h = elim v [ ]
lifted k u16 v n p h = lift (degree k) 16 n (degree_small k).0 (omega (arith, (degree_small k).1)) p h
lifted k u32 v n p h = lift (degree k) 32 n (degree_small k).0 (omega (arith, (degree_small k).1)) p h
lifted k u64 v n p h = lift (degree k) 64 n (degree_small k).0 (omega (arith, (degree_small k).1)) p h

bound_is : (k : Kind) (w : Width) → Wide w → 2 ^ (bits_of w - degree k) ≡ bound k w
bound_is square u8 v = elim v [ ]
bound_is square u16 v = refl
bound_is square u32 v = refl
bound_is square u64 v = refl
bound_is cube u8 v = elim v [ ]
bound_is cube u16 v = refl
bound_is cube u32 v = refl
bound_is cube u64 v = refl

-- the shift is a multiple of the degree, and taken off the root it stays within the root's bits
lowered_is : (d m : ℕ) → lowered d m ≡ d * (m / d)
lowered_is d m = omega (arith, div-add-mod m d)

multiple : (d m : ℕ) → 0 < d → d * (lowered d m / d) ≡ lowered d m
multiple d m pos = rw (lowered_is d m, mul-div_right (m / d) pos)

shift_multiple : (k : Kind) (w : Width) (n : ℕ) → degree k * (shift_of k w n / degree k) ≡ shift_of k w n
unfolding shift_of
shift_multiple square u8 n = refl
shift_multiple cube u8 n = refl
shift_multiple k u16 n = multiple (degree k) (count_leading_zeros 16 n) (degree_small k).0
shift_multiple k u32 n = multiple (degree k) (count_leading_zeros 32 n) (degree_small k).0
shift_multiple k u64 n = multiple (degree k) (count_leading_zeros 64 n) (degree_small k).0

half_of_bits : (k : Kind) (w : Width) (s : ℕ) → Wide w → s < bits_of w → s / degree k < root_bits w
half_of_bits square u8 s v h = elim v [ ]
half_of_bits square u16 s v h = omega arith
half_of_bits square u32 s v h = omega arith
half_of_bits square u64 s v h = omega arith
half_of_bits cube u8 s v h = elim v [ ]
half_of_bits cube u16 s v h = omega arith
half_of_bits cube u32 s v h = omega arith
half_of_bits cube u64 s v h = omega arith

-- a width whose bound is not 0 is one of them
pub bound_wide : (k : Kind) (w : Width) → 0 < bound k w → Wide w
bound_wide square u8 h = not-suc-le-zero h
bound_wide cube u8 h = not-suc-le-zero h
bound_wide k u16 h = tt
bound_wide k u32 h = tt
bound_wide k u64 h = tt

is_shift_of : (k : Kind) (w : Width) → Wide w → (n : ℕ) → degree k * (count_leading_zeros (bits_of w) n / degree k) ≡ shift_of k w n
unfolding shift_of
is_shift_of k u8 v n = elim v [ ]
is_shift_of k u16 v n = sym (lowered_is (degree k) (count_leading_zeros 16 n))
is_shift_of k u32 v n = sym (lowered_is (degree k) (count_leading_zeros 32 n))
is_shift_of k u64 v n = sym (lowered_is (degree k) (count_leading_zeros 64 n))

-- what a full call knows once it has the shift of a value that is not 0
pub shifts : (k : Kind) (w : Width) → Wide w → {n shift back : ℕ} → 0 < n → n < 2 ^ bits_of w → shift ≡ shift_of k w n →
    back ≡ shift / degree k → Shifts k w n shift back
shifts k w v {n} {shift} p h e b =
    let l = lifted k w v n p h in
    record {
      is_shift = e;
      is_back = b;
      in_width = rw e l.short;
      back_in_width = rw (b, e) (half_of_bits k w (shift_of k w n) v l.short);
      to_bound = rw (e, mod-eq_of_lt l.kept, ← (bound_is k w v)) l.topped;
    }

-- such a shift is as much for each factor of the power as the leading zeros have room for
pub shifts_by : (k : Kind) (w : Width) → Wide w → {n back : ℕ} → 0 < n → n < 2 ^ bits_of w →
    back ≡ count_leading_zeros (bits_of w) n / degree k → Shifts k w n (degree k * back) back
shifts_by k w v {n} {back} p h b =
    shifts k w v p h (rw b (is_shift_of k w v n)) (rw (mul-div_right back (degree_small k).0))

-- the machine's shift is the value brought to its top bits: nothing is cut off
pub raises : (k : Kind) (w : Width) → Wide w → {n shift back : ℕ} → 0 < n → n < 2 ^ bits_of w → Shifts k w n shift back →
    (n * 2 ^ shift) % 2 ^ bits_of w ≡ raised k w n
unfolding raised
raises k w v {n} p h s = rw s.is_shift (mod-eq_of_lt (lifted k w v n p h).kept)

lifted_top : (k : Kind) (w : Width) → Wide w → {n : ℕ} → 0 < n → n < 2 ^ bits_of w → HasTopBits k w (raised k w n)
unfolding raised
lifted_top k w v {n} p h =
    let l = lifted k w v n p h in
    record { from_bound = rw (← (bound_is k w v)) l.topped; in_width = l.kept }

-- a u8 is not shifted
pub raised_8 : (k : Kind) (n : ℕ) → raised k u8 n ≡ n
unfolding raised shift_of
raised_8 k n = mul-one n

-- at every width the value brought to its top bits is normalised
pub raised_top : (k : Kind) (w : Width) {n : ℕ} → 0 < n → n < 2 ^ bits_of w → HasTopBits k w (raised k w n)
raised_top k u8 {n} p h = rw (raised_8 k n) (record { from_bound = zero-le; in_width = h })
raised_top k u16 p h = lifted_top k u16 tt p h
raised_top k u32 p h = lifted_top k u32 tt p h
raised_top k u64 p h = lifted_top k u64 tt p h

-- the root of the value brought to its top bits, shifted back, is the value's root
pub root_shifted_back : (k : Kind) (w : Width) {n a : ℕ} → IsRoot k (raised k w n) a → IsRoot k n (a / 2 ^ (shift_of k w n / degree k))
unfolding raised
root_shifted_back k w {n} {a} r = root_back k n (shift_of k w n / degree k) a (rw (shift_multiple k w n) r)

-- a value that has its top bits is not 0
pub top_positive : (k : Kind) (w : Width) → Wide w → {n : ℕ} → bound k w ≤ n → 0 < n
top_positive k w v h = lt_of_lt_of_le (pow_pos (bits_of w - degree k)) (rw (bound_is k w v) h)

-- and is where its shift would bring it: one more step to the left would not fit the width
no_step : (k : Kind) (s : ℕ) → s < degree k → degree k * (s / degree k) ≡ s → s ≡ 0
no_step square s h e = omega arith
no_step cube s h e = omega arith

unshifted : (k : Kind) (w : Width) → Wide w → {n : ℕ} → HasTopBits k w n → shift_of k w n ≡ 0
unshifted k w v {n} h = by_size (le_or_lt (degree k) (shift_of k w n))
  where
    by_size : (degree k ≤ shift_of k w n) ⊎ (shift_of k w n < degree k) → shift_of k w n ≡ 0
    by_size (inl far) =
        let s : ℕ = shift_of k w n in
        let low : 2 ^ (bits_of w - degree k) * 2 ^ s ≤ n * 2 ^ s = mul-le-mul_right (2 ^ s) (rw (bound_is k w v) h.from_bound) in
        let all : 2 ^ bits_of w ≤ 2 ^ (bits_of w - degree k) * 2 ^ s = le_trans (pow_mono (omega (arith, far))) (le_of_eq (pow-add 2 (bits_of w - degree k) s)) in
        absurd (lt_irrefl (2 ^ bits_of w) (lt_of_le_of_lt (le_trans all low) (lifted k w v n (top_positive k w v h.from_bound) h.in_width).kept))
    by_size (inr near) = no_step k (shift_of k w n) near (shift_multiple k w n)

pub unraised : (k : Kind) (w : Width) → Wide w → {n : ℕ} → HasTopBits k w n → raised k w n ≡ n
unfolding raised
unraised k w v {n} h = rw (unshifted k w v h) (mul-one n)
