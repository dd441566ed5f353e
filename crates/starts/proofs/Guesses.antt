-- Sizes of the tables' guesses: an entry is a byte, so a guess is from 256 to 511. Assumes nothing.
use mathlib.Core.Bool.{Bool}
use Prim.Native.Nat.{ℕ, ◌<◌}
use native.Mathlib.Omega.{arith}
use lib.Dec.{T, ltb, ltb→lt}
use lib.ListN.{length}
use Rattle.defs.specs.Kinds.{Kind, square, cube}
use Rattle.defs.specs.Tables.{rsqrt_tab, rcbrt_tab, table_of, entry}
use Rattle.defs.specs.Starts.Letters.{guess}
use Rattle.laws.proofs.Sweeps.{every, at_each}

-- how many places a table has
abbrev pub places : Kind → ℕ
places square = 96
places cube = 56

-- a number below that is a place
pub in_table : (k : Kind) (i : ℕ) → i < places k → i < length (table_of k)
unfolding rsqrt_tab rcbrt_tab
in_table square i h = h
in_table cube i h = h

-- an entry is a byte
abbrev byte : ℕ → ℕ → Bool
byte i e = ltb e 256

-- each one is
bytes : (k : Kind) → T (every byte 0 (table_of k))
unfolding rsqrt_tab rcbrt_tab
bytes square = tt
bytes cube = tt

-- so a guess has 9 bits
pub guess_fits : (k : Kind) (i : ℕ) → i < places k → guess k i < 512
guess_fits k i h = omega (arith, ltb→lt (entry k i) 256 (at_each byte (table_of k) (bytes k) i (in_table k i h)))
