-- The start of a 32-bit square root is not above the root and at most two below it, and nothing in it overflows. Assumes nothing.
use mathlib.Core.Path.{◌≡◌, refl, sym, ap, subst}
use mathlib.Core.Bool.{Bool, true, false}
use Prim.Native.Nat.{ℕ, ◌+◌, ◌*◌, ◌-◌, ◌/◌, ◌^◌, ◌≤◌, ◌<◌, min}
use native.Mathlib.Nat.{le_refl, lt_of_not-le, lt_of_le_of_lt, div-div-eq-div-mul}
use native.Mathlib.Nat.{mul-le-mul, mul-le-mul_left, mul-le-mul_right, mul-sub}
use native.Mathlib.Omega.{arith}
use lib.Dec.{T, leb, ltb, lit≤, ltb→lt}
use borrow.Author.Tests.{leb-true, leb-false}
use Rattle.defs.specs.Kinds.{square}
use Rattle.defs.specs.Tables.{rsqrt_tab}
use Rattle.defs.specs.Starts.Letters.{guess}
use Rattle.defs.specs.Starts.Square32.{h, p, r, a, cell_start}
use Rattle.laws.proofs.Powers.{below}
use Rattle.starts.specs.Near.{Near}
use Rattle.starts.proofs.Ranges.{range, between}
use Rattle.starts.proofs.SquareGuess.{Guessed, guessed, Stepped, stepped}
use Rattle.starts.proofs.SquareFinish.{Figures, Aimed, root_rises, a_below}
use Rattle.starts.proofs.Resonance.{scan}
use Rattle.starts.proofs.Resonance as resonance

-- the width's numbers are in order
figures : Figures (2 ^ 16) (2 ^ 31) 1 4 2 0 9 64 1023 85
figures = record {
  some = (lit≤ tt, lit≤ tt, lit≤ tt);
  halves = refl;
  shares = refl;
  small = (lit≤ tt, lit≤ tt, lit≤ tt);
  high_left = lit≤ tt;
  low_left = lit≤ tt;
  bound_left = lit≤ tt;
}

-- what holds of a step less one holds of twice the step less two
doubled : (y n m : ℕ) → (y - 1) * (y - 1) * n ≤ m → (2 * y - 2) * (2 * y - 2) * n ≤ 4 * m
doubled y n m l =
    let twice : 2 * (y - 1) ≡ 2 * y - 2 = omega arith in
    subst (λ (x : ℕ). x * x * n ≤ 4 * m) twice (omega arith)

-- the minimum that a is made of lies at most five below r·n/2^31, and not above it
a_from : (n h r : ℕ) → 2 ^ 30 ≤ n → n < 2 ^ 32 → h ≡ n / 2 ^ 16 → 32752 ≤ r → r < 2 ^ 16 → (r - 2) * n ≤ 2 ^ 47 →
    let m = min (2 * (r * h / 2 ^ 16)) 65535 in
    (4 ≤ m) × (m * 2 ^ 31 ≤ r * n) × (r * n ≤ (m + 5) * 2 ^ 31)
a_from n h r low high is least small past =
    let h_low : h * 2 ^ 16 ≤ n = omega arith in
    let h_high : n ≤ h * 2 ^ 16 + 2 ^ 16 = omega arith in
    let h_least : 2 ^ 14 ≤ h = omega arith in
    omega (arith, mul-le-mul least h_least, mul-le-mul_left r h_low, mul-le-mul_left r h_high, mul-sub n r 2)

-- the guess of the first table entry
first_guess : (n : ℕ) → 2 ^ 30 ≤ n → n < 2 ^ 30 + 2 ^ 25 → p n ≡ 508
unfolding h p rsqrt_tab
first_guess n low high =
    let first : n / 2 ^ 16 / 512 - 32 ≡ 0 = omega arith in
    ap (guess square) first

module _ (n : ℕ) (low : 2 ^ 30 ≤ n) (high : n < 2 ^ 32) where
  -- the table's guess
  guess_at : Guessed (p n) n
  unfolding h p
  guess_at = subst (λ (x : ℕ). Guessed (guess square (x - 32)) n) (sym (div-div-eq-div-mul n (2 ^ 16) 512)) (guessed n low high)

  -- the first step from it
  step_at : Stepped (2 ^ 43) 96 (2 ^ 50) (p n) n (96 * p n - p n * p n * p n * n / 2 ^ 43)
  step_at = stepped (2 ^ 43) 96 (lit≤ tt) refl guess_at refl (2 ^ 50) refl

  -- r is at most two above 2^31/√n, and hardly below it
  r_not_above : (r n - 2) * (r n - 2) * n ≤ 2 ^ 62
  unfolding r
  r_not_above = doubled _ n (2 ^ 60) step_at.not_above

  r_hardly_below : 1023 * 2 ^ 62 ≤ 1024 * (r n * r n * n)
  unfolding r
  r_hardly_below = omega (arith, step_at.hardly_below)

  -- so r is at least 32752
  r_least : 32752 ≤ r n
  r_least = lt_of_not-le (λ (l : r n ≤ 32751). omega (arith, r_hardly_below, mul-le-mul (mul-le-mul l l) high))

  -- and r·n is hardly above 2^47
  past : (r n - 2) * n ≤ 2 ^ 47
  past = root_rises ((r n - 2) * n) (2 ^ 47) (omega (arith, mul-le-mul_right n r_not_above))

  -- r fits: at the first table entry by that entry, and above by what it is near to
  r_fits : r n < 2 ^ 16
  unfolding r
  r_fits = by_entry (leb (2 ^ 30 + 2 ^ 25) n) refl
    where
      falls : n < 2 ^ 30 + 2 ^ 25 → r n < 2 ^ 16
      falls l = rw (first_guess n low l) (omega arith)

      by_entry : (t : Bool) → leb (2 ^ 30 + 2 ^ 25) n ≡ t → r n < 2 ^ 16
      by_entry true e =
          lt_of_not-le
          (λ (l : 2 ^ 16 ≤ r n).
          let l' : 65534 ≤ r n - 2 = omega arith in
          omega (arith, r_not_above, mul-le-mul (mul-le-mul l' l') (leb-true (2 ^ 30 + 2 ^ 25) n e)))
      by_entry false e = falls (leb-false (2 ^ 30 + 2 ^ 25) n e)

  -- a is r·n/2^31 less something from 4 to 9, in both branches of the minimum
  a_at : (4 ≤ min (2 * (r n * h n / 2 ^ 16)) 65535) × ((a n + 4) * 2 ^ 31 ≤ r n * n) × (r n * n ≤ (a n + 9) * 2 ^ 31)
  unfolding h a
  a_at = omega (arith, a_from n (h n) (r n) low high refl r_least r_fits past)

  -- a fits
  a_fits : a n < 2 ^ 16
  unfolding a
  a_fits = omega arith

  -- all that the last step needs
  aimed : Aimed (2 ^ 16) (2 ^ 31) 1 4 2 0 9 1023 n n (a n) (r n) (r n - 2) 2
  aimed = record {
    g_low = le_refl n;
    g_high = omega arith;
    in_width = high;
    r_fits = r_fits;
    parts = omega (arith, r_least);
    not_above = r_not_above;
    excess = omega arith;
    excess_small = lit≤ tt;
    hardly_below = omega (arith, r_hardly_below);
    a_low = a_at.1;
    a_high = omega (arith, a_at.2);
  }

-- S is below s at every n from s² − d to s² − 1
misses : ℕ → ℕ → Bool
misses s d = range (λ j. ltb (cell_start (s * s - j)) s) d 1

-- so it is wherever S could be above the root
scanned : T (scan (2 ^ 16) (2 ^ 15) 7 misses)
unfolding misses rsqrt_tab h p r a cell_start
scanned = tt

-- and then n has an S below s
misses_all : (n s d : ℕ) → n < s * s → s * s ≤ n + d → T (misses s d) → cell_start n < s
unfolding misses
misses_all n s d above deep t =
    let j = s * s - n in
    let same : s * s - j ≡ n = omega arith in
    subst (λ (x : ℕ). cell_start x < s) same (ltb→lt _ _ (between _ d 1 t j (omega arith) (omega arith)))

-- S is not above the root, and at most two below it
pub near : (n : ℕ) → 2 ^ 30 ≤ n → n < 2 ^ 32 → Near square 2 n (cell_start n)
unfolding cell_start
near n low high =
    resonance.near figures (aimed n low high) (2 ^ 15) (cell_start n) refl refl misses scanned (misses_all n)

-- what the machine's arithmetic needs, letter by letter
pub record Safe (n : ℕ) : Type 0 where
  pub index : (32 ≤ h n / 512) × (h n / 512 - 32 < 96)
  pub p_fits : p n < 512
  pub cube_fits : p n * p n * p n < 2 ^ 32
  pub product_fits : 96 * p n < 2 ^ 16
  pub step_fits : p n * p n * p n * n / 2 ^ 43 ≤ 96 * p n
  pub r_fits : r n < 2 ^ 16
  pub a_stays : 4 ≤ min (2 * (r n * h n / 2 ^ 16)) 65535
  pub a_fits : a n < 2 ^ 16
  pub square_fits : a n * a n ≤ n
  pub quotient_fits : (n - a n * a n) / 2 ^ 16 < 2 ^ 16
  pub cell_start_fits : cell_start n < 2 ^ 16

-- the index is in the table
index_at : (n : ℕ) → 2 ^ 30 ≤ n → n < 2 ^ 32 → (32 ≤ h n / 512) × (h n / 512 - 32 < 96)
unfolding h
index_at n low high = omega arith

-- all of it holds
pub safe : (n : ℕ) → 2 ^ 30 ≤ n → n < 2 ^ 32 → Safe n
safe n low high =
    let guess = guess_at n low high in
    record {
      index = index_at n low high;
      p_fits = guess.byte;
      cube_fits = omega (arith, guess.cube_fits);
      product_fits = omega (arith, guess.byte);
      step_fits = (step_at n low high).fits;
      r_fits = r_fits n low high;
      a_stays = (a_at n low high).0;
      a_fits = a_fits n low high;
      square_fits = a_below figures (aimed n low high);
      quotient_fits = omega arith;
      cell_start_fits = below square (cell_start n) (2 ^ 16) (lt_of_le_of_lt (near n low high).low high);
    }
