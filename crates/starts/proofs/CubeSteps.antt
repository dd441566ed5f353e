-- The two steps of Newton in cube 64, with their floors: x and then y, a root of 1/g that is never too large and never too small.
-- Assumes nothing.
use mathlib.Core.Bool.{Bool, true, false, cond}
use Prim.Native.Nat.{ℕ, ◌+◌, ◌*◌, ◌-◌, ◌/◌, ◌^◌, ◌≤◌}
use native.Mathlib.Nat.{mul_assoc, mul-le-mul, mul-le-mul_left, mul-le-mul_right, le_trans}
use native.Mathlib.Omega.{arith}
use lib.Dec.{lit≤}
use Rattle.defs.specs.Kinds.{cube, pow}
use Rattle.defs.specs.Starts.Letters.{hi}
use Rattle.laws.proofs.Powers.{rises}
use Rattle.starts.proofs.Newton.{phi, never_large, never_small}
use Rattle.starts.proofs.Spans.{least, greatest}

-- the first step, from the guess p to x
abbrev third : ℕ → ℕ → ℕ
third p g = (2 ^ 25 - hi 32 g (p * p * p)) / 3

abbrev pub x_of : ℕ → ℕ → ℕ
x_of p g = p * third p g

-- 2^124 and what the floors of x may add
abbrev pub most_x : ℕ
most_x = 2 ^ 124 + 2 ^ 102

-- x³·g is at most that
pub x_most : (p g : ℕ) → pow cube (x_of p g) * g ≤ most_x
x_most p g =
    let step : third p g * (3 * 2 ^ 32) ≤ 4 * (2 ^ 55 + 2 ^ 30) - p * p * p * g = omega arith in
    never_large cube (x_of p g) (3 * 2 ^ 32) p (2 ^ 55 + 2 ^ 30) g most_x (lit≤ tt)
    (rw (mul_assoc p (third p g) (3 * 2 ^ 32)) (mul-le-mul_left p step)) (lit≤ tt)

-- 2^55 less what the floors of x may lose
abbrev pub centre : ℕ
centre = 2 ^ 55 - 2 ^ 31

-- x³·g is at least L, where phi about that centre is large enough at both ends of g's entry
pub x_least : (p g L lo hi : ℕ) → lo ≤ g → g ≤ hi →
    L * pow cube (3 * 2 ^ 32) ≤ phi cube centre (p * p * p * lo) →
    L * pow cube (3 * 2 ^ 32) ≤ phi cube centre (p * p * p * hi) →
    L ≤ pow cube (x_of p g) * g
x_least p g L lo hi from to at_lo at_hi =
    let step : 4 * centre - p * p * p * g ≤ third p g * (3 * 2 ^ 32) = omega arith in
    never_small cube (x_of p g) (3 * 2 ^ 32) p centre g L (p * p * p * lo) (p * p * p * hi) (lit≤ tt)
    (rw (mul_assoc p (third p g) (3 * 2 ^ 32)) (mul-le-mul_left p step))
    (mul-le-mul_left (p * p * p) from) (mul-le-mul_left (p * p * p) to) at_lo at_hi

-- x falls as g rises
pub x_falls : (p a g : ℕ) → a ≤ g → x_of p g ≤ x_of p a
x_falls p a g h =
    let less : third p g ≤ third p a = omega (arith, mul-le-mul_right (p * p * p) h) in
    mul-le-mul_left p less

-- three floors of a product with x, one in the other, each of them in units of B: what they leave out
deep : (B x g a b d : ℕ) → a * B ≤ x * g → x * g ≤ a * B + B → b * B ≤ x * a → x * a ≤ b * B + B →
    d * B ≤ x * b → x * b ≤ d * B + B → x ≤ B → (d * (B * B * B) ≤ x * x * x * g) × (x * x * x * g ≤ (d + 3) * (B * B * B))
deep B x g a b d a_low a_high b_low b_high d_low d_high small = (
  omega (arith, mul-le-mul_left (x * x) a_low, mul-le-mul_left (x * B) b_low, mul-le-mul_left (B * B) d_low),
  omega (
    arith,
    mul-le-mul_left (x * x) a_high,
    mul-le-mul_left (x * B) b_high,
    mul-le-mul_left (B * B) d_high,
    mul-le-mul_left (B * B) small,
    mul-le-mul_left B (mul-le-mul small small),
  ),
)

-- the second step, from x to y
abbrev deepest : ℕ → ℕ → ℕ
deepest x g = hi 32 x (hi 32 x (hi 32 x g))

abbrev pub y_of : ℕ → ℕ → ℕ
y_of x g = hi 32 x (2 ^ 30 - deepest x g) / 3

-- its floors at 64 bits
floors : (x g : ℕ) → x ≤ 2 ^ 32 → (deepest x g * 2 ^ 96 ≤ x * x * x * g) × (x * x * x * g ≤ (deepest x g + 3) * 2 ^ 96)
floors x g small = deep (2 ^ 32) x g (hi 32 x g) (hi 32 x (hi 32 x g)) (deepest x g)
    (omega arith) (omega arith) (omega arith) (omega arith) (omega arith) (omega arith) small

-- with t in units of E at least w, y + 1 is not below the step; and with t little above w, z is not above it
below_step : (B E x t w y : ℕ) → w ≤ t * E → x * t ≤ (y + 1) * (3 * B) → x * w ≤ (y + 1) * (3 * (B * E))
below_step B E x t w y in_t in_y = omega (arith, mul-le-mul_left x in_t, mul-le-mul_right E in_y)

above_step : (B E x t w z : ℕ) → t * E ≤ w + 3 * E → (z + 1) * (3 * B) ≤ x * t → x ≤ B → z * (3 * (B * E)) ≤ x * w
above_step B E x t w z in_t in_z small = omega (arith, mul-le-mul_left x in_t, mul-le-mul_right E in_z, mul-le-mul_right (3 * E) small)

module _ (x g : ℕ) (small : x ≤ 2 ^ 32) where
  -- what the step multiplies x by, in full and in units of 2^96
  w : ℕ
  w = 4 * 2 ^ 124 - x * x * x * g

  t : ℕ
  t = 2 ^ 30 - deepest x g

  -- t takes off no more than there is
  pub deepest_small : pow cube x * g ≤ most_x → deepest x g ≤ 2 ^ 30
  deepest_small most = omega (arith, floors x g small)

  -- (y + 1)³·g is at least K, where phi is large enough at both ends, L and most_x, of x³·g
  pub y_least : (K L : ℕ) → L ≤ pow cube x * g → pow cube x * g ≤ most_x →
      K * pow cube (3 * 2 ^ 128) ≤ phi cube (2 ^ 124) L → K * pow cube (3 * 2 ^ 128) ≤ phi cube (2 ^ 124) most_x →
      K ≤ pow cube (y_of x g + 1) * g
  unfolding w t
  y_least K L from to at_lo at_hi =
      let near : w ≤ t * 2 ^ 96 = omega (arith, floors x g small) in
      never_small cube (y_of x g + 1) (3 * 2 ^ 128) x (2 ^ 124) g K L most_x (lit≤ tt)
      (below_step (2 ^ 32) (2 ^ 96) x t w (y_of x g) near (omega arith)) from to at_lo at_hi

  -- (y − 1)³·g is at most 2^112
  pub y_most : 1 ≤ y_of x g → pow cube (y_of x g - 1) * g ≤ 2 ^ 112
  unfolding w t
  y_most some =
      let near : t * 2 ^ 96 ≤ w + 3 * 2 ^ 96 = omega (arith, floors x g small) in
      never_large cube (y_of x g - 1) (3 * 2 ^ 128) x (2 ^ 124) g (2 ^ 112) (lit≤ tt)
      (above_step (2 ^ 32) (2 ^ 96) x t w (y_of x g - 1) near (omega arith) small) (lit≤ tt)

-- r, from y halved or not
abbrev pub r_of : Bool → ℕ → ℕ
r_of b y = cond b (y / 2) y - 1

-- with (y − 1)³·g at most M, r³·h is at most M
pub r_most : (b : Bool) (g h y M : ℕ) → h ≤ greatest b g → 2 ≤ y → y ≤ g + 1 → pow cube (y - 1) * g ≤ M → pow cube (r_of b y) * h ≤ M
r_most false g h y M in_h two small most = le_trans (mul-le-mul_left (pow cube (y - 1)) in_h) most
r_most true g h y M in_h two small most =
    le_trans (mul-le-mul_left (pow cube (r_of true y)) in_h) (le_trans (odd (r_of true y) (omega arith))
    (le_trans (mul-le-mul_right g (rises cube twice)) most))
  where
    twice : 2 * r_of true y + 1 ≤ y - 1
    twice = omega arith

    odd : (r : ℕ) → r ≤ g → r * r * r * (8 * g + 7) ≤ pow cube (2 * r + 1) * g
    odd r le = omega (arith, mul-le-mul_left (r * r) le)

-- with (y + 1)³·g at least K, (r + 2)³·h is at least K
pub r_least : (b : Bool) (g h y K : ℕ) → least b g ≤ h → 2 ≤ y → K ≤ pow cube (y + 1) * g → K ≤ pow cube (r_of b y + 2) * h
r_least false g h y K in_h two large =
    let up : y + 1 ≤ y - 1 + 2 = omega arith in
    le_trans large (mul-le-mul (rises cube up) in_h)
r_least true g h y K in_h two large =
    let up : y + 1 ≤ 2 * (r_of true y + 2) = omega arith in
    let eighth = mul-le-mul_left (pow cube (r_of true y + 2)) in_h in
    le_trans large (le_trans (mul-le-mul_right g (rises cube up)) (omega arith))

-- S, two floors of a product with r: in units of B-as-B it is r·r·h, less at most one unit and r·B
pub start_between : (B h r a S : ℕ) → a * B ≤ r * h → r * h ≤ a * B + B → S * B ≤ r * a → r * a ≤ S * B + B →
    (S * (B * B) ≤ r * r * h) × (r * r * h ≤ (S + 1) * (B * B) + r * B)
start_between B h r a S a_low a_high s_low s_high =
    (omega (arith, mul-le-mul_left r a_low, mul-le-mul_right B s_low), omega (arith, mul-le-mul_left r a_high, mul-le-mul_right B s_high))
