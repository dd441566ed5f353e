-- The start of a 64-bit square root is not above the root and at most two below it, and nothing in it overflows. Assumes nothing.
use mathlib.Core.Path.{◌≡◌, refl, ap, subst}
use mathlib.Core.Bool.{Bool, true, false}
use Prim.Native.Nat.{ℕ, ◌+◌, ◌*◌, ◌-◌, ◌/◌, ◌^◌, ◌≤◌, ◌<◌}
use native.Mathlib.Nat.{lt_of_not-le, lt_of_le_of_lt, le_trans, mul-le-mul, mul-le-mul_right}
use native.Mathlib.Omega.{arith}
use lib.Dec.{T, leb, ltb, lit≤, leb→le, ltb→lt}
use borrow.Author.Tests.{leb-true, leb-false}
use Rattle.defs.specs.Kinds.{square}
use Rattle.defs.specs.Tables.{rsqrt_tab}
use Rattle.defs.specs.Starts.Letters.{hi, guess}
use Rattle.defs.specs.Starts.Square64.{h, p, x, t, r, a, cell_start}
use Rattle.laws.proofs.Powers.{below}
use Rattle.laws.proofs.Sweeps.{both, both_left, both_right}
use Rattle.starts.specs.Near.{Near}
use Rattle.starts.proofs.Ranges.{range, between}
use Rattle.starts.proofs.SquareGuess.{Guessed, guessed, Stepped, stepped}
use Rattle.starts.proofs.SquareSecond.{Near92, near_92, excess, Second, second}
use Rattle.starts.proofs.SquareFinish.{Figures, Aimed, a_below}
use Rattle.starts.proofs.Resonance.{scan}
use Rattle.starts.proofs.Resonance as resonance

-- the width's numbers are in order
figures : Figures (2 ^ 32) (2 ^ 63) (2 ^ 60) 10 13 16 44 4096 (2 ^ 20 - 1) 4187
figures = record {
  some = (lit≤ tt, lit≤ tt, lit≤ tt);
  halves = refl;
  shares = refl;
  small = (lit≤ tt, lit≤ tt, lit≤ tt);
  high_left = lit≤ tt;
  low_left = lit≤ tt;
  bound_left = lit≤ tt;
}

-- from h to h·B, over variables, as the numbers are too large for `omega`
times_width : (u h m B : ℕ) → u * u * h ≤ m → u * u * (h * B) ≤ m * B
times_width u h m B l = omega (arith, mul-le-mul_right B l)

times_sixteen : (y h m k B : ℕ) → m ≤ (y + 1) * (y + 1) * h → m * (256 * k * B) ≤ k * ((16 * y + 16) * (16 * y + 16) * (h * B))
times_sixteen y h m k B l = omega (arith, mul-le-mul_right (256 * k * B) l)

-- r and a go by h alone
same : (n m : ℕ) → h n ≡ h m → (r n ≡ r m) × (a n ≡ a m)
unfolding p x t r a
same n m e = (cc, cc)

-- n with its low half struck out has the same h
struck : (n : ℕ) → h (h n * 2 ^ 32) ≡ h n
unfolding h
struck n = omega arith

-- r fits at the h with this number, and at the first nine it does
r_small : ℕ → Bool
r_small z = ltb (r (z * 2 ^ 32)) (2 ^ 32)

first_nine : T (range r_small 9 (2 ^ 30))
unfolding r_small rsqrt_tab h p x t r
first_nine = tt

-- the guess of the last table entry, and x near its end
last_guess : (n : ℕ) → h n < 2 ^ 32 → 2 ^ 32 - 2 ^ 17 < h n → p n ≡ 257
unfolding p rsqrt_tab
last_guess n high low =
    let last : h n / 2 ^ 25 - 32 ≡ 95 = omega arith in
    ap (guess square) last

last_step : (n : ℕ) → h n < 2 ^ 32 → 2 ^ 32 - 2 ^ 17 < h n → x n ≤ 2 ^ 30
unfolding x
last_step n high low = rw (last_guess n high low) (omega arith)

module _ (n : ℕ) (low : 2 ^ 62 ≤ n) (high : n < 2 ^ 64) where
  -- h is n at 32 bits
  h_low : 2 ^ 30 ≤ h n
  unfolding h
  h_low = omega arith

  h_high : h n < 2 ^ 32
  unfolding h
  h_high = omega arith

  -- the table's guess
  guess_at : Guessed (p n) (h n)
  unfolding p
  guess_at = guessed (h n) h_low h_high

  -- x is the first step
  x_is : x n ≡ 3 * 2 ^ 21 * p n - p n * p n * p n * h n / 2 ^ 27
  unfolding x
  x_is = omega arith

  -- the first step from it
  step_at : Stepped (2 ^ 27) (3 * 2 ^ 21) (2 ^ 82) (p n) (h n) (x n)
  step_at = stepped (2 ^ 27) (3 * 2 ^ 21) (lit≤ tt) refl guess_at x_is (2 ^ 82) refl

  -- it is near 2^46/√h
  x_at : Near92 (x n) (h n)
  x_at = near_92 (x n) (h n) h_low h_high step_at.not_above step_at.hardly_below

  -- the second step
  second_at : Second (x n) (h n) (t n) (hi 32 (x n) (t n))
  unfolding t
  second_at = second h_high x_at refl refl

  -- r is large, and hardly above 2^47/√h
  r_least : 2 ^ 30 ≤ r n
  unfolding r
  r_least = omega (arith, second_at.y_least)

  r_rounded : (r n - 13) * (r n - 13) * h n ≤ 2 ^ 94
  unfolding r
  r_rounded = second_at.rounded_not_above

  -- r fits: at the first nine h as computed, and above by what it is near to
  r_fits : r n < 2 ^ 32
  unfolding r_small
  r_fits = by_size (leb (2 ^ 30 + 9) (h n)) refl
    where
      by_size : (t : Bool) → leb (2 ^ 30 + 9) (h n) ≡ t → r n < 2 ^ 32
      by_size true e =
          lt_of_not-le
          (λ (l : 2 ^ 32 ≤ r n).
          let l' : 2 ^ 32 - 13 ≤ r n - 13 = omega arith in
          omega (arith, r_rounded, mul-le-mul (mul-le-mul l' l') (leb-true (2 ^ 30 + 9) (h n) e)))
      by_size false e =
          subst (λ (z : ℕ). z < 2 ^ 32) (same (h n * 2 ^ 32) n (struck n)).0
          (ltb→lt (r (h n * 2 ^ 32)) (2 ^ 32)
          (between r_small 9 (2 ^ 30) first_nine (h n) h_low (leb-false (2 ^ 30 + 9) (h n) e)))

  -- what r has too much is small: at the last table entry by that entry, and below by what x is near to
  excess_at : excess (x n) * h n ≤ 5 * 2 ^ 92
  excess_at = by_size (leb (h n) (2 ^ 32 - 2 ^ 17)) refl
    where
      by_size : (t : Bool) → leb (h n) (2 ^ 32 - 2 ^ 17) ≡ t → excess (x n) * h n ≤ 5 * 2 ^ 92
      by_size true e = x_at.excess_small (leb-true (h n) (2 ^ 32 - 2 ^ 17) e)
      by_size false e =
          let l = last_step n h_high (leb-false (h n) (2 ^ 32 - 2 ^ 17) e) in
          omega (arith, mul-le-mul l h_high, mul-le-mul (mul-le-mul l l) h_high)

  -- a is r·h/2^31 less something from 10 to 12
  a_at : (10 ≤ 2 * hi 32 (r n) (h n)) × ((a n + 10) * 2 ^ 31 ≤ r n * h n) × (r n * h n ≤ (a n + 12) * 2 ^ 31)
  unfolding a
  a_at = omega (arith, mul-le-mul r_least h_low)

  -- all that the last step needs
  aimed :
      Aimed (2 ^ 32) (2 ^ 63) (2 ^ 60) 10 13 16 44 (2 ^ 20 - 1) (h n * 2 ^ 32) n (a n) (r n)
      (hi 32 (x n) (t n) * 2 ^ 64 - excess (x n)) (excess (x n))
  unfolding h r
  aimed = record {
    g_low = omega arith;
    g_high = omega arith;
    in_width = high;
    r_fits = r_fits;
    parts = omega (arith, second_at.y_least, second_at.excess_fits);
    not_above = times_width (hi 32 (x n) (t n) * 2 ^ 64 - excess (x n)) (h n) (2 ^ 214) (2 ^ 32) second_at.not_above;
    excess = omega (arith, excess_at);
    excess_small = second_at.excess_fits;
    hardly_below = times_sixteen (hi 32 (x n) (t n)) (h n) ((2 ^ 20 - 1) * 2 ^ 66) (2 ^ 20) (2 ^ 32) second_at.hardly_below;
    a_low = omega (arith, a_at.1);
    a_high = omega (arith, a_at.2, h_high);
  }

-- S rises with n, for one h
finish_rises : (n m a r : ℕ) → n ≤ m → a + (n - a * a) / 2 ^ 32 * r / 2 ^ 32 ≤ a + (m - a * a) / 2 ^ 32 * r / 2 ^ 32
finish_rises n m a r l =
    let quotient : (n - a * a) / 2 ^ 32 ≤ (m - a * a) / 2 ^ 32 = omega arith in
    omega (arith, mul-le-mul_right r quotient)

rises : (n m : ℕ) → h n ≡ h m → n ≤ m → cell_start n ≤ cell_start m
unfolding cell_start
rises n m e l = rw ((same n m e).0, (same n m e).1) (finish_rises n m (a m) (r m) l)

-- the last n before s², and the last n of the h before
last : ℕ → ℕ
last s = s * s - 1

before : ℕ → ℕ
before s = h (last s) * 2 ^ 32 - 1

-- S is below s at both, and no more than the two h matter
misses : ℕ → ℕ → Bool
misses s d = both (leb d (2 ^ 32)) (both (ltb (cell_start (last s)) s) (ltb (cell_start (before s)) s))

-- so it is wherever S could be above the root
scanned : T (scan (2 ^ 32) (2 ^ 31) 13 misses)
unfolding last before misses rsqrt_tab h p x t r a cell_start
scanned = tt

-- and then n has an S below s
misses_all : (n s d : ℕ) → n < s * s → s * s ≤ n + d → T (misses s d) → cell_start n < s
unfolding last before misses h
misses_all n s d above deep t = by_h (leb (h (last s) * 2 ^ 32) n) refl
  where
    at_last : Bool
    at_last = ltb (cell_start (last s)) s

    at_before : Bool
    at_before = ltb (cell_start (before s)) s

    shallow : d ≤ 2 ^ 32
    shallow = leb→le d (2 ^ 32) (both_left (leb d (2 ^ 32)) (both at_last at_before) t)

    two : T (both at_last at_before)
    two = both_right (leb d (2 ^ 32)) (both at_last at_before) t

    by_h : (t : Bool) → leb (h (last s) * 2 ^ 32) n ≡ t → cell_start n < s
    by_h true e =
        let l = leb-true (h (last s) * 2 ^ 32) n e in
        lt_of_le_of_lt (rises n (last s) (omega arith) (omega arith)) (ltb→lt (cell_start (last s)) s (both_left at_last at_before two))
    by_h false e =
        let l = leb-false (h (last s) * 2 ^ 32) n e in
        lt_of_le_of_lt (rises n (before s) (omega (arith, shallow)) (omega arith))
        (ltb→lt (cell_start (before s)) s (both_right at_last at_before two))

-- S is not above the root, and at most two below it
pub near : (n : ℕ) → 2 ^ 62 ≤ n → n < 2 ^ 64 → Near square 2 n (cell_start n)
unfolding cell_start
near n low high =
    resonance.near figures (aimed n low high) (2 ^ 31) (cell_start n) refl refl misses scanned (misses_all n)

-- what the machine's arithmetic needs, letter by letter
pub record Safe (n : ℕ) : Type 0 where
  pub index : (32 ≤ h n / 2 ^ 25) × (h n / 2 ^ 25 - 32 < 96)
  pub p_fits : p n < 512
  pub cube_fits : 32 * (p n * p n * p n) < 2 ^ 32
  pub product_fits : 3 * p n * 2 ^ 21 < 2 ^ 32
  pub x_stays : hi 32 (h n) (32 * (p n * p n * p n)) ≤ 3 * p n * 2 ^ 21
  pub x_fits : x n < 2 ^ 32
  pub t_stays : hi 32 (x n) (hi 32 (x n) (h n)) ≤ 3 * 2 ^ 28
  pub t_fits : t n < 2 ^ 32
  pub r_fits : r n < 2 ^ 32
  pub double_fits : 2 * hi 32 (r n) (h n) < 2 ^ 32
  pub a_stays : 10 ≤ 2 * hi 32 (r n) (h n)
  pub square_fits : a n * a n ≤ n
  pub quotient_fits : (n - a n * a n) / 2 ^ 32 < 2 ^ 32
  pub cell_start_fits : cell_start n < 2 ^ 32

-- the doubling in a fits: at the last twenty h as computed, and below as a is not above the root
double_small : ℕ → Bool
double_small z = ltb (2 * hi 32 (r (z * 2 ^ 32)) z) (2 ^ 32)

last_twenty : T (range double_small 20 (2 ^ 32 - 20))
unfolding double_small rsqrt_tab h p x t r
last_twenty = tt

double_at : (n : ℕ) → 2 ^ 62 ≤ n → n < 2 ^ 64 → 2 * hi 32 (r n) (h n) < 2 ^ 32
unfolding double_small a
double_at n low high = by_size (leb (2 ^ 32 - 20) (h n)) refl
  where
    by_size : (t : Bool) → leb (2 ^ 32 - 20) (h n) ≡ t → 2 * hi 32 (r n) (h n) < 2 ^ 32
    by_size true e =
        let tried = between double_small 20 (2 ^ 32 - 20) last_twenty (h n) (leb-true (2 ^ 32 - 20) (h n) e) (h_high n low high) in
        subst (λ (z : ℕ). 2 * hi 32 z (h n) < 2 ^ 32) (same (h n * 2 ^ 32) n (struck n)).0
        (ltb→lt (2 * hi 32 (r (h n * 2 ^ 32)) (h n)) (2 ^ 32) tried)
    by_size false e =
        let l = leb-false (2 ^ 32 - 20) (h n) e in
        let small = below square (a n) (2 ^ 32 - 10) (lt_of_le_of_lt (a_below figures (aimed n low high)) (omega arith)) in
        omega (arith, small)

-- all of it holds
pub safe : (n : ℕ) → 2 ^ 62 ≤ n → n < 2 ^ 64 → Safe n
safe n low high =
    let guess = guess_at n low high in
    let step = step_at n low high in
    let later = second_at n low high in
    record {
      index = guess.place;
      p_fits = guess.byte;
      cube_fits = guess.cube_fits;
      product_fits = omega (arith, guess.byte);
      x_stays = omega (arith, step.fits);
      x_fits = omega (arith, (x_at n low high).x_high);
      t_stays = later.t_stays;
      t_fits = later.t_fits;
      r_fits = r_fits n low high;
      double_fits = double_at n low high;
      a_stays = (a_at n low high).0;
      square_fits = le_trans (a_below figures (aimed n low high)) (aimed n low high).g_low;
      quotient_fits = omega arith;
      cell_start_fits = below square (cell_start n) (2 ^ 32) (lt_of_le_of_lt (near n low high).low high);
    }
