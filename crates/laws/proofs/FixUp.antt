-- The fix-up, one fact over the kind's power and the width: it begins, goes on, ends at the root, and nothing in it overflows.
-- The code, which is over width and kind too, cites it once. Assumes nothing.
use mathlib.Core.Path.{◌≡◌, refl}
use mathlib.Core.Logic.{◌⊎◌, inl, inr}
use Prim.Native.Nat.{ℕ, ◌+◌, ◌*◌, ◌-◌, ◌^◌, ◌≤◌, ◌<◌}
use native.Mathlib.Nat.{mul-le-mul, mul-le-mul_left, le_trans, lt_of_le_of_lt, lt_of_lt_of_le}
use native.Mathlib.Omega.{arith}
use lib.Dec.{lit≤}
use Rattle.defs.specs.Kinds.{Kind, square, cube, pow, Width, u8, u16, u32, u64, bits_of, root_bits}
use Rattle.defs.specs.Parts.{Fixed, gap, widened}
use Rattle.laws.proofs.Powers.{le_or_lt, next_power, below}
use Rattle.laws.proofs.Roots.{is_root}

-- where a fix-up from `start` stands: at s, with what the power of s leaves of n, and the gap to the next power
pub record Walk (k : Kind) (w : Width) (n start s left next : ℕ) : Type 0 where
  pub in_width : n < 2 ^ bits_of w
  pub passed : start ≤ s
  pub leaves : pow k s + left ≡ n
  pub is_gap : next ≡ gap k s

gap_widens : (k : Kind) (s : ℕ) → widened k (gap k s) (s + 1) ≡ gap k (s + 1)
gap_widens square s = omega arith
gap_widens cube s = omega arith

pub begins : (k : Kind) (w : Width) {n start : ℕ} → pow k start ≤ n → n < 2 ^ bits_of w →
    Walk k w n start start (n - pow k start) (gap k start)
begins k w {n} {start} low high = record { in_width = high; passed = omega arith; leaves = omega arith; is_gap = refl }

pub goes_on : {k : Kind} {w : Width} {n start s left next : ℕ} → Walk k w n start s left next → next ≤ left →
    Walk k w n start (s + 1) (left - next) (widened k next (s + 1))
goes_on {k} {w} {n} {start} {s} {left} {next} at h = record {
  in_width = at.in_width;
  passed = omega arith;
  leaves = omega (arith, next_power k s);
  is_gap = rw at.is_gap (gap_widens k s);
}

pub ends : {k : Kind} {w : Width} {n start s left next steps : ℕ} → Walk k w n start s left next → left < next → start + steps ≡ s →
    Fixed k n start s left steps
ends {k} {w} {n} {start} {s} {left} {next} at h counted = record {
  root_rem = record { is_root = is_root k (omega arith) (omega (arith, next_power k s)); is_rest = omega arith };
  counted = counted;
}

-- a step takes something off
gap_some : (k : Kind) (s : ℕ) → 0 < gap k s
gap_some square s = omega arith
gap_some cube s = omega arith

pub steps_down : {k : Kind} {w : Width} {n start s left next : ℕ} → Walk k w n start s left next → next ≤ left → left - next < left
steps_down {k} {s = s} at h = omega (arith, h, at.is_gap, gap_some k s)

-- from 4 on a gap is at most its power, and below it is small: it fits wherever the power's value does
gap_small : (k : Kind) (s : ℕ) → s ≤ 3 → gap k s < 256
gap_small square s h = omega arith
gap_small cube s h = omega (arith, mul-le-mul h h)

gap_below : (k : Kind) (s : ℕ) → 4 ≤ s → gap k s ≤ pow k s
gap_below square s h = omega (arith, mul-le-mul_left s h)
gap_below cube s h = omega (arith, mul-le-mul_left s h, mul-le-mul_left (s * s) h)

byte_or_more : (w : Width) → 256 ≤ 2 ^ bits_of w
byte_or_more u8 = lit≤ tt
byte_or_more u16 = lit≤ tt
byte_or_more u32 = lit≤ tt
byte_or_more u64 = lit≤ tt

gap_fits : (k : Kind) (w : Width) (s n : ℕ) → pow k s ≤ n → n < 2 ^ bits_of w → gap k s < 2 ^ bits_of w
gap_fits k w s n low high = by_size (le_or_lt 4 s)
  where
    by_size : (4 ≤ s) ⊎ (s < 4) → gap k s < 2 ^ bits_of w
    by_size (inl h) = lt_of_le_of_lt (le_trans (gap_below k s h) low) high
    by_size (inr h) = lt_of_lt_of_le (gap_small k s (omega arith)) (byte_or_more w)

-- a root fits the type of the width's roots
power_of_top : (k : Kind) (w : Width) → 2 ^ bits_of w ≤ pow k (2 ^ root_bits w)
power_of_top square u8 = lit≤ tt
power_of_top square u16 = lit≤ tt
power_of_top square u32 = lit≤ tt
power_of_top square u64 = lit≤ tt
power_of_top cube u8 = lit≤ tt
power_of_top cube u16 = lit≤ tt
power_of_top cube u32 = lit≤ tt
power_of_top cube u64 = lit≤ tt

pub root_fits : (k : Kind) (w : Width) (s n : ℕ) → pow k s ≤ n → n < 2 ^ bits_of w → s < 2 ^ root_bits w
root_fits k w s n low high = below k s (2 ^ root_bits w) (lt_of_le_of_lt low (lt_of_lt_of_le high (power_of_top k w)))

-- wherever a fix-up stands, its root and its gap fit: the power of the root is at most n
pub walk_fits : {k : Kind} {w : Width} {n start s left next : ℕ} → Walk k w n start s left next →
    (s < 2 ^ root_bits w) × (next < 2 ^ bits_of w)
walk_fits {k} {w} {n} {start} {s} {left} {next} at =
    let low : pow k s ≤ n = omega (arith, at.leaves) in
    (root_fits k w s n low at.in_width, rw at.is_gap (gap_fits k w s n low at.in_width))
