-- The second step of a 64-bit square root, from the x of the first: y = x·t/2^32 with t = 3·2^28 − hi(x, hi(x, h)). It is a Newton step
-- with c = 2^92 that three floors disturb, and 16·y comes near 2^47/√h. Assumes nothing.
use mathlib.Core.Path.{◌≡◌, sym, ap, subst}
use Prim.Native.Nat.{ℕ, ◌+◌, ◌*◌, ◌-◌, ◌/◌, ◌^◌, ◌≤◌, ◌<◌}
use native.Mathlib.Nat.{lt_of_not-le, sub-add_cancel, mul-le-mul, mul-le-mul_left, mul-le-mul_right}
use native.Mathlib.Omega.{arith, by_contra}
use lib.Dec.{lit≤}
use Rattle.defs.specs.Kinds.{square}
use Rattle.defs.specs.Starts.Letters.{hi}
use Rattle.starts.proofs.Newton.{never_large, never_small}
use Rattle.starts.proofs.SquareFinish.{root_rises}

-- what the three floors can add to y·2^64
abbrev pub excess : ℕ → ℕ
excess x = x * 2 ^ 32 + x * x

-- what the first step leaves: x² is near 2^92/h
pub record Near92 (x h : ℕ) : Type 0 where
  pub x_high : x ≤ 2 ^ 31 + 1
  pub v_low : 1023 * 2 ^ 82 ≤ x * x * h
  pub v_high : x * x * h ≤ 2 ^ 92 + 2 ^ 65
  pub excess_small : h ≤ 2 ^ 32 - 2 ^ 17 → excess x * h ≤ 5 * 2 ^ 92

-- so it is, as the first step is at most one too large: here x is w + 1
from_first : (w h : ℕ) → 2 ^ 30 ≤ h → h < 2 ^ 32 → w * w * h ≤ 2 ^ 92 → 1023 * 2 ^ 82 ≤ (w + 1) * (w + 1) * h → Near92 (w + 1) h
from_first w h low high below above =
    let small : w < 2 ^ 31 + 1 = lt_of_not-le (λ (l : 2 ^ 31 + 1 ≤ w). omega (arith, mul-le-mul (mul-le-mul l l) low)) in
    let product : w * h ≤ 2 ^ 62 = root_rises (w * h) (2 ^ 62) (omega (arith, mul-le-mul_right h below)) in
    record {
      x_high = omega (arith, small);
      v_low = above;
      v_high = omega arith;
      excess_small = λ l.
          let closer : w * h ≤ 2 ^ 62 - 2 ^ 46 = root_rises (w * h) (2 ^ 62 - 2 ^ 46) (omega (arith, mul-le-mul_right h below)) in
          omega arith;
    }

-- and here x − 1 is what is not too large
pub near_92 : (x h : ℕ) → 2 ^ 30 ≤ h → h < 2 ^ 32 → (x - 1) * (x - 1) * h ≤ 2 ^ 92 → 1023 * 2 ^ 82 ≤ x * x * h → Near92 x h
near_92 x h low high below above =
    let some : 0 < x = lt_of_not-le (λ (none : x ≤ 0). omega (arith, mul-le-mul_right h (mul-le-mul none none))) in
    let same : x - 1 + 1 ≡ x = omega arith in
    subst (λ (z : ℕ). Near92 z h) same
    (from_first (x - 1) h low high below (subst (λ (z : ℕ). 1023 * 2 ^ 82 ≤ z * z * h) (sym same) above))

-- what is shown of the step y: it is hardly below 2^43/√h, and but for the excess it is not above it
pub record Second (x h t y : ℕ) : Type 0 where
  pub t_stays : hi 32 x (hi 32 x h) ≤ 3 * 2 ^ 28
  pub t_fits : t < 2 ^ 32
  pub y_least : 2 ^ 26 ≤ y
  pub excess_fits : excess x ≤ 13 * 2 ^ 60
  pub hardly_below : (2 ^ 20 - 1) * 2 ^ 66 ≤ (y + 1) * (y + 1) * h
  pub not_above : (y * 2 ^ 64 - excess x) * (y * 2 ^ 64 - excess x) * h ≤ 2 ^ 214
  pub rounded_not_above : (16 * y - 13) * (16 * y - 13) * h ≤ 2 ^ 94

module _ {x h t y : ℕ} (high : h < 2 ^ 32) (at : Near92 x h) (t_is : t ≡ 3 * 2 ^ 28 - hi 32 x (hi 32 x h))
    (y_is : y ≡ hi 32 x t) where
  -- two floors, one inside the other
  floors : (hi 32 x (hi 32 x h) * 2 ^ 64 ≤ x * x * h) × (x * x * h ≤ hi 32 x (hi 32 x h) * 2 ^ 64 + 2 ^ 64 + x * 2 ^ 32)
  floors =
      let inner_low : x * h / 2 ^ 32 * 2 ^ 32 ≤ x * h = omega arith in
      let inner_high : x * h ≤ x * h / 2 ^ 32 * 2 ^ 32 + 2 ^ 32 = omega arith in
      omega (arith, mul-le-mul_left x inner_low, mul-le-mul_left x inner_high)

  -- t does not go below 0
  t_stays : hi 32 x (hi 32 x h) ≤ 3 * 2 ^ 28
  t_stays = omega (arith, floors, at.v_high)

  -- t·2^64 is 3·2^92 − x²·h, rounded up
  t_bounds : (3 * 2 ^ 92 ≤ t * 2 ^ 64 + x * x * h) × (t * 2 ^ 64 + x * x * h ≤ 3 * 2 ^ 92 + 2 ^ 64 + x * 2 ^ 32)
  t_bounds = omega (arith, floors, t_stays)

  -- the step before it is rounded, times 2^96
  abbrev exact : ℕ
  exact = x * (3 * 2 ^ 92 - x * x * h)

  -- with no subtraction
  exact_is : exact + x * (x * x * h) ≡ x * (3 * 2 ^ 92)
  exact_is =
      let inside : 3 * 2 ^ 92 - x * x * h + x * x * h ≡ 3 * 2 ^ 92 = sub-add_cancel (omega (arith, at.v_high)) in
      omega (arith, ap (λ (z : ℕ). x * z) inside)

  -- y·2^96 is that, within one step and the excess
  y_low : exact ≤ (y + 1) * 2 ^ 96
  y_low = omega (arith, exact_is, mul-le-mul_left x t_bounds.0)

  y_high : y * 2 ^ 96 ≤ exact + excess x * 2 ^ 32
  y_high = omega (arith, exact_is, mul-le-mul_left x t_bounds.1)

  -- Newton: y is hardly too small
  hardly_below : (2 ^ 20 - 1) * 2 ^ 66 ≤ (y + 1) * (y + 1) * h
  hardly_below =
      never_small square (y + 1) (2 ^ 96) x (2 ^ 92) h ((2 ^ 20 - 1) * 2 ^ 66) (1023 * 2 ^ 82) (2 ^ 92 + 2 ^ 65) (lit≤ tt) y_low
      at.v_low at.v_high (lit≤ tt) (lit≤ tt)

  -- the excess is less than y's unit
  excess_fits : excess x ≤ 13 * 2 ^ 60
  excess_fits = omega (arith, at.x_high, mul-le-mul at.x_high at.x_high)

  -- Newton: y is not too large
  pub second : Second x h t y
  second = record {
    t_stays = t_stays;
    t_fits = omega arith;
    y_least = by_contra (2 ^ 26) y (λ (l : y < 2 ^ 26). omega (arith, hardly_below, mul-le-mul (mul-le-mul l l) high));
    excess_fits = excess_fits;
    hardly_below = hardly_below;
    not_above = never_large square (y * 2 ^ 64 - excess x) (2 ^ 32) x (2 ^ 92) h (2 ^ 214) (lit≤ tt) (omega (arith, y_high)) (lit≤ tt);
    rounded_not_above =
        never_large square (16 * y - 13) (2 ^ 92) x (2 ^ 92) h (2 ^ 94) (lit≤ tt) (omega (arith, y_high, excess_fits)) (lit≤ tt);
  }
