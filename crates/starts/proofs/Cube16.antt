-- The start of cube 16 is near the root of every normalised n: one test over the table's runs, the first 8 of 4096 numbers and
-- the others of 512. Assumes nothing.
use mathlib.Core.Path.{◌≡◌, refl}
use mathlib.Core.Bool.{Bool, true, false, cond}
use Prim.Native.Nat.{ℕ, ◌+◌, ◌*◌, ◌-◌, ◌/◌, ◌^◌, ◌≤◌, ◌<◌}
use native.Mathlib.Nat.{mul-le-mul, lt_of_le_of_lt}
use native.Mathlib.Omega.{arith}
use lib.Dec.{T, leb, ltb}
use borrow.Author.Tests.{leb-true}
use Rattle.defs.specs.Kinds.{cube}
use Rattle.defs.specs.Tables.{rcbrt_tab}
use Rattle.defs.specs.Starts.Cube16.{top, q, d, r, cell_start}
use Rattle.laws.proofs.Powers.{below}
use Rattle.laws.proofs.Sweeps.{every}
use Rattle.starts.specs.Near.{Near}
use Rattle.starts.proofs.Runs.{row, near_row}
use Rattle.starts.proofs.Sides.{sided, at_side}
use Rattle.starts.proofs.Guesses.{guess_fits}

-- n is at least 2^15, or below: how many numbers share an entry, and what divides the square of its guess
abbrev width : Bool → ℕ
width t = cond t 4096 512

abbrev divisor : Bool → ℕ
divisor t = cond t 16 4

-- the numbers of entry e at place i, as a test
part : Bool → ℕ → ℕ → Bool
part t i e = row cube ((256 + e) * (256 + e) / divisor t) (2 ^ 24) (width t) ((8 + i) * width t)

-- it passes at each entry, the first 8 for the large numbers
tested : T (every (λ i e. part (ltb i 8) i e) 0 rcbrt_tab)
unfolding part rcbrt_tab
tested = tt

-- n's place q − 8 in the table, and that n is one of its numbers
record Placed (t : Bool) (q n : ℕ) : Type 0 where
  from_first : 8 ≤ q
  in_table : q - 8 < 56
  low : (8 + (q - 8)) * width t ≤ n
  high : n < (8 + (q - 8)) * width t + width t

-- what the machine arithmetic of the start needs
pub record Safe (n : ℕ) : Type 0 where
  pub from_first : 8 ≤ q n
  pub in_table : q n - 8 < 56
  pub guess_small : r n < 512
  pub product_fits : r n * r n / d n * n < 2 ^ 32
  pub at_least_one : 1 ≤ r n * r n / d n * n / 2 ^ 24
  pub fits : cell_start n < 2 ^ 8

module _ (n : ℕ) (low : 2 ^ 13 ≤ n) (high : n < 2 ^ 16) where
  -- n has its place, and the place tells its side
  placed : Placed (top n) (q n) n × (ltb (q n - 8) 8 ≡ top n)
  unfolding top q
  placed = sided (λ t q. Placed t q n) (λ q. q - 8) 8 (2 ^ 15) n (n / 4096) (n / 512) (omega arith) (omega arith)

  -- the product of the start, for a guess p
  product : (p : ℕ) → 256 ≤ p → p < 512 → (2 ^ 24 ≤ p * p / d n * n) × (p * p / d n * n < 2 ^ 32)
  unfolding top d
  product p large small = by_top (leb (2 ^ 15) n) refl
    where
      by_top : (t : Bool) → leb (2 ^ 15) n ≡ t → (2 ^ 24 ≤ p * p / divisor t * n) × (p * p / divisor t * n < 2 ^ 32)
      by_top true e =
          let more : 4096 ≤ p * p / 16 = omega (arith, mul-le-mul large large) in
          let less : p * p / 16 < 2 ^ 14 = omega (arith, mul-le-mul small small) in
          omega (arith, mul-le-mul more (leb-true (2 ^ 15) n e), mul-le-mul less high)
      by_top false e =
          let more : 2 ^ 14 ≤ p * p / 4 = omega (arith, mul-le-mul large large) in
          let less : p * p / 4 < 2 ^ 16 = omega (arith, mul-le-mul small small) in
          omega (arith, mul-le-mul more low, mul-le-mul less high)

  -- the start is at most 3 below the root
  pub near : Near cube 3 n (cell_start n)
  unfolding d r cell_start part
  near =
      let i = q n - 8 in
      let at = placed.0 in
      near_row cube (r n * r n / d n) (2 ^ 24) (width (top n)) ((8 + i) * width (top n)) n
      (at_side part 8 tested i placed.1 at.in_table) at.low at.high

  -- and its arithmetic is safe
  pub safe : Safe n
  unfolding r
  safe =
      let at = placed.0 in
      let small : r n < 512 = guess_fits cube (q n - 8) at.in_table in
      let sizes = product (r n) (omega arith) small in
      record {
        from_first = at.from_first;
        in_table = at.in_table;
        guess_small = small;
        product_fits = sizes.1;
        at_least_one = omega arith;
        fits = below cube (cell_start n) (2 ^ 8) (lt_of_le_of_lt near.low (omega arith));
      }
