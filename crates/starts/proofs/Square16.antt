-- The start of square 16 is near the root of every normalised n: one test over the table's runs of 512. Assumes nothing.
use mathlib.Core.Bool.{Bool}
use Prim.Native.Nat.{ℕ, ◌+◌, ◌*◌, ◌-◌, ◌/◌, ◌^◌, ◌≤◌, ◌<◌}
use native.Mathlib.Nat.{mul-le-mul, lt_of_le_of_lt}
use native.Mathlib.Omega.{arith}
use lib.Dec.{T}
use Rattle.defs.specs.Kinds.{square}
use Rattle.defs.specs.Tables.{rsqrt_tab}
use Rattle.defs.specs.Starts.Square16.{r, cell_start}
use Rattle.laws.proofs.Powers.{below}
use Rattle.laws.proofs.Sweeps.{every, at_each}
use Rattle.starts.specs.Near.{Near}
use Rattle.starts.proofs.Runs.{row, near_row}
use Rattle.starts.proofs.Guesses.{in_table, guess_fits}

-- the numbers of entry e at place i, as a test
test : ℕ → ℕ → Bool
test i e = row square (256 + e) (2 ^ 16) 512 ((32 + i) * 512)

-- it passes at each entry
tested : T (every test 0 rsqrt_tab)
unfolding test rsqrt_tab
tested = tt

-- what the machine arithmetic of the start needs
pub record Safe (n : ℕ) : Type 0 where
  pub from_first : 32 ≤ n / 512
  pub in_table : n / 512 - 32 < 96
  pub guess_small : r n < 512
  pub product_fits : r n * n < 2 ^ 32
  pub at_least_one : 1 ≤ r n * n / 2 ^ 16
  pub fits : cell_start n < 2 ^ 8

module _ (n : ℕ) (low : 2 ^ 14 ≤ n) (high : n < 2 ^ 16) where
  -- the start is at most 3 below the root
  pub near : Near square 3 n (cell_start n)
  unfolding r cell_start test
  near =
      let i = n / 512 - 32 in
      near_row square (r n) (2 ^ 16) 512 ((32 + i) * 512) n (at_each test rsqrt_tab tested i (in_table square i (omega arith)))
      (omega arith) (omega arith)

  -- and its arithmetic is safe
  pub safe : Safe n
  unfolding r
  safe =
      let small : r n < 512 = guess_fits square (n / 512 - 32) (omega arith) in
      let large : 256 ≤ r n = omega arith in
      record {
        from_first = omega arith;
        in_table = omega arith;
        guess_small = small;
        product_fits = omega (arith, mul-le-mul small high);
        at_least_one = omega (arith, mul-le-mul large low);
        fits = below square (cell_start n) (2 ^ 8) (lt_of_le_of_lt near.low (omega arith));
      }
