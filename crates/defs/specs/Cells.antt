-- The tables by kind and width, and what a normalised call starts from and pays.
use Rattle.std.specs.Prelude.{cond, ℕ, ◌*◌, ◌-◌, ◌%◌, ◌^◌, ◌≤◌, ◌<◌, leb, eqb}
use Rattle.std.specs.Int.Count.{count_leading_zeros}
use Rattle.defs.specs.Kinds.{Kind, square, cube, Width, u8, u16, u32, u64, pow, degree, bits_of}
use Rattle.defs.specs.Roots.{root_of}
use Rattle.defs.specs.Starts.{cell_start}

-- the least normalised value. A u8 has no normalised call: each of its values counts as normalised
abbrev pub bound : Kind → Width → ℕ
bound k u8 = 0
bound square u16 = 2 ^ 14
bound square u32 = 2 ^ 30
bound square u64 = 2 ^ 62
bound cube u16 = 2 ^ 13
bound cube u32 = 2 ^ 29
bound cube u64 = 2 ^ 61

-- n is a normalised value of the kind and width: it has its top bits
pub record HasTopBits (k : Kind) (w : Width) (n : ℕ) : Type 0 where
  pub from_bound : bound k w ≤ n
  pub in_width : n < 2 ^ bits_of w

-- the most steps that a fix-up takes from the start
abbrev pub ceiling : Kind → Width → ℕ
ceiling square u8 = 15
ceiling square u16 = 3
ceiling square u32 = 2
ceiling square u64 = 2
ceiling cube u8 = 6
ceiling cube u16 = 3
ceiling cube u32 = 3
ceiling cube u64 = 6

-- the start of a normalised n: S, or S - 1 where the power of S is above n
unfoldable pub start_of : Kind → Width → ℕ → ℕ
start_of k w n = cond (leb (pow k (cell_start k w n)) n) (cell_start k w n) (cell_start k w n - 1)

-- the fix-up steps of a normalised n: root less start
unfoldable pub steps_of : Kind → Width → ℕ → ℕ
steps_of k w n = root_of k n - start_of k w n

-- m lowered to a multiple of d
abbrev pub lowered : ℕ → ℕ → ℕ
lowered d m = m - m % d

-- the shift that brings n to its top bits: its leading zeros, lowered to a multiple of the degree. A u8 is not shifted
unfoldable pub shift_of : Kind → Width → ℕ → ℕ
shift_of k u8 n = 0
shift_of k u16 n = lowered (degree k) (count_leading_zeros (bits_of u16) n)
shift_of k u32 n = lowered (degree k) (count_leading_zeros (bits_of u32) n)
shift_of k u64 n = lowered (degree k) (count_leading_zeros (bits_of u64) n)

-- n brought to its top bits
unfoldable pub raised : Kind → Width → ℕ → ℕ
raised k w n = n * 2 ^ shift_of k w n

-- the start and the steps of a full call: 0 for the value 0, else those of the value brought to its top bits
unfoldable pub full_start : Kind → Width → ℕ → ℕ
full_start k w n = cond (eqb n 0) 0 (start_of k w (raised k w n))

unfoldable pub full_steps : Kind → Width → ℕ → ℕ
full_steps k w n = cond (eqb n 0) 0 (steps_of k w (raised k w n))
