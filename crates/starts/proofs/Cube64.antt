-- The start of cube 64 is near the root of every normalised n: two steps of Newton, the finish of cubes, and one test over the
-- table. Assumes nothing.
use mathlib.Core.Path.{◌≡◌, refl}
use mathlib.Core.Bool.{Bool, cond}
use mathlib.Core.List.{List, [], ◌∷◌}
use Prim.Native.Nat.{ℕ, suc, ◌+◌, ◌*◌, ◌-◌, ◌/◌, ◌^◌, ◌≤◌, ◌<◌, min}
use native.Mathlib.Nat.{le_trans, le_of_lt, lt_of_le_of_lt, lt_of_lt_of_le, lt_of_not-le, add-sub_of_le, sub-add_cancel}
use native.Mathlib.Nat.{mul-le-mul, mul-le-mul_left, lt_of_mul-lt-mul_right}
use native.Mathlib.Omega.{arith}
use lib.Dec.{lit≤, T, ltb}
use Rattle.defs.specs.Kinds.{cube, pow}
use Rattle.defs.specs.Roots.{root_of, root_within}
use Rattle.defs.specs.Tables.{rcbrt_tab}
use Rattle.defs.specs.Starts.Letters.{hi, guess}
use Rattle.defs.specs.Starts.Cube64.{top, g, p, x, t, y, r, cell_start}
use Rattle.laws.proofs.Powers.{below, rises}
use Rattle.laws.proofs.Roots.{root_is, root_above}
use Rattle.laws.proofs.Sweeps.{every, at_each}
use Rattle.starts.specs.Near.{Near}
use Rattle.starts.proofs.Runs.{ordered, Ordered, orders}
use Rattle.starts.proofs.Spans.{least, Spanned, least_rises, greatest_below, halved_below, halved_some}
use Rattle.starts.proofs.Sides.{sided}
use Rattle.laws.proofs.Products.{guess_powers}
use Rattle.starts.proofs.Guesses.{in_table, guess_fits}
use Rattle.starts.proofs.Newton.{phi}
use Rattle.starts.proofs.CubeFinish.{Sharp, never_above, never_far}
use Rattle.starts.proofs.CubeSteps.{most_x, centre, x_of, x_most, x_least, x_falls, deepest_small, y_least, y_most}
use Rattle.starts.proofs.CubeSteps.{r_most, r_least, start_between}

-- the ends of entry i: g is from `from i` up to `from (i + 1)`, h from `least_h i` up to `most_h i`
from : ℕ → ℕ
from i = 2 ^ 25 * (8 + i)

least_h : ℕ → ℕ
least_h i = least (ltb i 8) (from i)

most_h : ℕ → ℕ
most_h i = least (ltb i 8) (from (i + 1))

-- the least and the greatest root, and the greatest r
least_root : ℕ → ℕ
least_root i = root_of cube (least_h i * 2 ^ 32)

most_root : ℕ → ℕ
most_root i = root_of cube (most_h i * 2 ^ 32)

most_r : ℕ → ℕ
most_r i = 2 ^ 48 / least_root i

-- what x³·g and then (r + 2)³·h are at least, for the guess p
least_x : ℕ → ℕ → ℕ
least_x i p = min (phi cube centre (p * p * p * from i)) (phi cube centre (p * p * p * from (i + 1))) / pow cube (3 * 2 ^ 32)

least_r : ℕ → ℕ → ℕ
least_r i p = min (phi cube (2 ^ 124) (least_x i p)) (phi cube (2 ^ 124) most_x) / pow cube (3 * 2 ^ 128)

-- the finish: how far the area of r + 2 lies below s·2^64 for an s above S + 6, and the area at the greatest root
off : ℕ → ℕ
off i = 6 * 2 ^ 64 - (most_r i * 2 ^ 32 + 2 * 2 * (most_r i + 2) * most_h i)

top_area : ℕ → ℕ
top_area i = most_root i * 2 ^ 64 - off i

-- what is tested of entry i with the guess p: what the steps need at its ends, what fits, and what the finish needs
abbrev ends : ℕ → ℕ → List (ℕ × ℕ)
ends i p =
    (least_x i p * pow cube (3 * 2 ^ 32), phi cube centre (p * p * p * from i)) ∷
    (least_x i p * pow cube (3 * 2 ^ 32), phi cube centre (p * p * p * from (i + 1))) ∷
    (least_r i p * pow cube (3 * 2 ^ 128), phi cube (2 ^ 124) (least_x i p)) ∷
    (least_r i p * pow cube (3 * 2 ^ 128), phi cube (2 ^ 124) most_x) ∷ []

abbrev sizes : ℕ → ℕ → List (ℕ × ℕ)
sizes i p =
    (p * p * p * from (i + 1), 2 ^ 57) ∷
    (suc (x_of p (from i)), 2 ^ 32) ∷
    (2 ^ 111, least_r i p) ∷
    (suc (2 ^ 112), pow cube (most_r i + 1) * least_h i) ∷ []

abbrev finish : ℕ → ℕ → List (ℕ × ℕ)
finish i p =
    (most_r i * 2 ^ 32 + 2 * 2 * (most_r i + 2) * most_h i, 6 * 2 ^ 64) ∷
    (off i, most_root i * 2 ^ 64) ∷ (
      suc (2 ^ 32 * pow cube (top_area i) * pow cube (least_root i) + least_r i p * least_r i p * pow cube (most_root i) * 2 ^ 32),
      least_r i p * least_r i p * pow cube (most_root i) * pow cube (least_root i),
    ) ∷ []

-- a list of these is in order at each entry
passes : (ℕ → ℕ → List (ℕ × ℕ)) → Bool
passes f = every (λ i e. ordered (f i (256 + e))) 0 rcbrt_tab

-- all three are
tested : T (passes ends) × T (passes sizes) × T (passes finish)
unfolding passes from least_h most_h least_root most_root most_r least_x least_r off top_area root_of root_within rcbrt_tab
tested = (tt, tt, tt)

-- so they are at place i
at_guess : (f : ℕ → ℕ → List (ℕ × ℕ)) → T (passes f) → (i : ℕ) → i < 56 → Ordered (f i (guess cube i))
unfolding passes
at_guess f t i h = orders (f i (guess cube i)) (at_each (λ i e. ordered (f i (256 + e))) rcbrt_tab t i (in_table cube i h))

-- a number whose cube times g is at most 2^112 is at most 2^28
root_small : (z g : ℕ) → 2 ^ 28 ≤ g → pow cube z * g ≤ 2 ^ 112 → z ≤ 2 ^ 28
root_small z g from most =
    let cubed : pow cube z ≤ 2 ^ 84 = omega (arith, mul-le-mul_left (z * z * z) from) in
    let less : z < 2 ^ 28 + 1 = below cube z (2 ^ 28 + 1) (omega arith) in
    omega arith

-- and one whose cube times g is at least 2^111 is at least 3
root_large : (z g : ℕ) → g ≤ 2 ^ 31 → 2 ^ 111 ≤ pow cube z * g → 3 ≤ z
root_large z g to large = lt_of_not-le (λ (h : z ≤ 2). omega (arith, mul-le-mul (rises cube h) to))

-- what the machine arithmetic of the start needs
pub record Safe (n : ℕ) : Type 0 where
  pub from_first : 8 ≤ g n / 2 ^ 25
  pub in_table : g n / 2 ^ 25 - 8 < 56
  pub g_fits : g n < 2 ^ 32
  pub guess_small : p n < 512
  pub cube_small : p n * p n * p n < 2 ^ 32
  pub first_fits : hi 32 (g n) (p n * p n * p n) ≤ 2 ^ 25
  pub x_fits : x n < 2 ^ 32
  pub second_fits : hi 32 (x n) (hi 32 (x n) (hi 32 (x n) (g n))) ≤ 2 ^ 30
  pub t_fits : t n < 2 ^ 32
  pub y_fits : y n < 2 ^ 32
  pub at_least_one : 1 ≤ cond (top n) (y n / 2) (y n)
  pub r_fits : r n < 2 ^ 32
  pub fits : cell_start n < 2 ^ 32

module _ (n : ℕ) (at_least_lem : 2 ^ 61 ≤ n) (in_width : n < 2 ^ 64) where
  -- the place of n's g in the table, and its side
  spanned : Spanned (2 ^ 25) (top n) (g n) (n / 2 ^ 32) × (ltb (g n / 2 ^ 25 - 8) 8 ≡ top n)
  unfolding top g
  spanned =
      sided (λ b g. Spanned (2 ^ 25) b g (n / 2 ^ 32)) (λ g. g / 2 ^ 25 - 8) 8 (2 ^ 63) n (n / 2 ^ 35) (n / 2 ^ 32) (omega arith) (omega arith)

  -- the place i of n's g, and the ends there
  i : ℕ
  i = g n / 2 ^ 25 - 8

  g_low : from i ≤ g n
  unfolding from i
  g_low = omega (arith, spanned.0)

  g_high : g n < from (i + 1)
  unfolding from i
  g_high = omega (arith, spanned.0)

  h_low : least_h i ≤ n / 2 ^ 32
  unfolding least_h i
  h_low = rw spanned.1 (le_trans (least_rises (top n) (from i) (g n) g_low) spanned.0.low)

  h_high : n / 2 ^ 32 < most_h i
  unfolding most_h i
  h_high = rw spanned.1 (lt_of_le_of_lt spanned.0.high (greatest_below (top n) (g n) (from (i + 1)) g_high))

  -- what was tested there
  at_ends : Ordered (ends i (p n))
  unfolding p i
  at_ends = at_guess ends tested.0 i spanned.0.in_table

  fitting : Ordered (sizes i (p n))
  unfolding p i
  fitting = at_guess sizes tested.1 i spanned.0.in_table

  at_finish : Ordered (finish i (p n))
  unfolding p i
  at_finish = at_guess finish tested.2 i spanned.0.in_table

  -- how small and how large g is
  g_least : 2 ^ 28 ≤ g n
  g_least = omega (arith, spanned.0)

  g_most : g n ≤ 2 ^ 31
  g_most = omega (arith, spanned.0)

  -- the letter x: it fits, and x³·g has its bounds
  x_below : x n < 2 ^ 32
  unfolding x
  x_below = lt_of_le_of_lt (x_falls (p n) (from i) (g n) g_low) fitting.1.0

  x_high : pow cube (x n) * g n ≤ most_x
  unfolding x
  x_high = x_most (p n) (g n)

  x_low : least_x i (p n) ≤ pow cube (x n) * g n
  unfolding x
  x_low = x_least (p n) (g n) (least_x i (p n)) (from i) (from (i + 1)) g_low (le_of_lt g_high) at_ends.0 at_ends.1.0

  -- the letter y: (y + 1)³·g and (y − 1)³·g have their bounds, and y fits
  y_low : least_r i (p n) ≤ pow cube (y n + 1) * g n
  unfolding t y
  y_low = y_least (x n) (g n) (le_of_lt x_below) (least_r i (p n)) (least_x i (p n)) x_low x_high at_ends.1.1.0 at_ends.1.1.1.0

  y_some : 2 ≤ y n
  y_some = omega (arith, root_large (y n + 1) (g n) g_most (le_trans fitting.1.1.0 y_low))

  y_high : pow cube (y n - 1) * g n ≤ 2 ^ 112
  unfolding t y
  y_high = y_most (x n) (g n) (le_of_lt x_below) (omega (arith, y_some))

  y_small : y n ≤ 2 ^ 28 + 1
  y_small = omega (arith, root_small (y n - 1) (g n) g_least y_high)

  -- the letter r: r³·h and (r + 2)³·h have their bounds, and r is within its entry's
  r_high : pow cube (r n) * (n / 2 ^ 32) ≤ 2 ^ 112
  unfolding r
  r_high = r_most (top n) (g n) (n / 2 ^ 32) (y n) (2 ^ 112) spanned.0.high y_some (omega (arith, y_small, g_least)) y_high

  r_low : least_r i (p n) ≤ pow cube (r n + 2) * (n / 2 ^ 32)
  unfolding r
  r_low = r_least (top n) (g n) (n / 2 ^ 32) (y n) (least_r i (p n)) spanned.0.low y_some y_low

  r_within : r n ≤ most_r i
  r_within =
      let scaled = lt_of_le_of_lt (le_trans (mul-le-mul_left (pow cube (r n)) h_low) r_high) fitting.1.1.1.0 in
      let less : r n < most_r i + 1 = below cube (r n) (most_r i + 1) (lt_of_mul-lt-mul_right (least_h i) scaled) in
      omega arith

  -- the start, in units of 2^64
  cell_start_between : (cell_start n * 2 ^ 64 ≤ r n * r n * (n / 2 ^ 32)) × (r n * r n * (n / 2 ^ 32) ≤ (cell_start n + 1) * 2 ^ 64 + r n * 2 ^ 32)
  unfolding cell_start
  cell_start_between = start_between (2 ^ 32) (n / 2 ^ 32) (r n) (hi 32 (r n) (n / 2 ^ 32)) (cell_start n) (omega arith) (omega arith) (omega arith) (omega arith)

  -- what the finish was tested for
  sharp : Sharp (2 ^ 32) (2 ^ 64) 6 2 (least_r i (p n)) (most_h i) (most_r i) (off i) (top_area i) (least_root i) (most_root i)
  unfolding off top_area
  sharp = record { split = add-sub_of_le at_finish.0; scaled = sub-add_cancel at_finish.1.0; steep = at_finish.1.1.0 }

  -- so the root of n is at most 6 above the start
  root_near : root_of cube n ≤ cell_start n + 6
  unfolding least_root most_root
  root_near =
      let root = root_is cube n in
      never_far (n / 2 ^ 32) (r n) (cell_start n) (root_of cube n) sharp cell_start_between.1 (le_of_lt h_high) r_within r_low
      (root.greatest (least_root i) (le_trans (root_is cube (least_h i * 2 ^ 32)).fits (omega (arith, h_low))))
      ((root_is cube (most_h i * 2 ^ 32)).greatest (root_of cube n) (le_trans root.fits (omega (arith, h_high))))
      (lt_of_le_of_lt root.fits (omega arith))

  -- the start is at most 6 below the root
  pub near : Near cube 6 n (cell_start n)
  near =
      let low = never_above (2 ^ 32) (2 ^ 64) (2 ^ 112) (n / 2 ^ 32) (r n) (cell_start n) (lit≤ tt) refl cell_start_between.0 r_high in
      record {
        low = omega arith;
        high = lt_of_lt_of_le (root_above cube (root_is cube n)) (rises cube (omega (arith, root_near)));
      }

  -- and its arithmetic is safe
  pub safe : Safe n
  unfolding p t r
  safe =
      let small : p n < 512 = guess_fits cube (g n / 2 ^ 25 - 8) spanned.0.in_table in
      record {
        from_first = spanned.0.from_first;
        in_table = spanned.0.in_table;
        g_fits = omega (arith, g_most);
        guess_small = small;
        cube_small = omega (arith, (guess_powers small).1);
        first_fits = omega (arith, mul-le-mul_left (p n * p n * p n) (le_of_lt g_high), fitting.0);
        x_fits = x_below;
        second_fits = deepest_small (x n) (g n) (le_of_lt x_below) x_high;
        t_fits = omega arith;
        y_fits = omega (arith, y_small);
        at_least_one = halved_some (top n) (y n) y_some;
        r_fits = omega (arith, halved_below (top n) (y n), y_small);
        fits = below cube (cell_start n) (2 ^ 32) (lt_of_le_of_lt near.low (omega arith));
      }
