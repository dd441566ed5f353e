-- What the calls are put together from: the promises of a shift, a start and a fix-up, and the gap from one power to the next. What a call answers is said without them.
use Rattle.std.specs.Prelude.{◌≡◌, ℕ, ◌+◌, ◌*◌, ◌/◌, ◌%◌, ◌^◌, ◌≤◌, ◌<◌}
use Rattle.defs.specs.Kinds.{Kind, square, cube, Width, pow, degree, bits_of, root_bits}
use Rattle.defs.specs.Roots.{RootRem}
use Rattle.defs.specs.Starts.{cell_start}
use Rattle.defs.specs.Cells.{bound, shift_of}

-- the shift of n and the half or third by which its root goes back: both stay within their widths, and n shifted has its top bits
pub record Shifts (k : Kind) (w : Width) (n shift back : ℕ) : Type 0 where
  pub is_shift : shift ≡ shift_of k w n
  pub is_back : back ≡ shift / degree k
  pub in_width : shift < bits_of w
  pub back_in_width : back < root_bits w
  pub to_bound : bound k w ≤ (n * 2 ^ shift) % 2 ^ bits_of w

-- the start of n: S, whose power is at most n
pub record Starts (k : Kind) (w : Width) (n start : ℕ) : Type 0 where
  pub is_cell_start : start ≡ cell_start k w n
  pub fits : pow k start ≤ n

-- a fix-up from a start: root and rest of n, and the steps from the start to the root
pub record Fixed (k : Kind) (n start root rest steps : ℕ) : Type 0 where
  pub root_rem : RootRem k n root rest
  pub counted : start + steps ≡ root

-- from the power of s to that of s + 1: the next odd number, or the next difference of cubes
abbrev pub gap : Kind → ℕ → ℕ
gap square s = 2 * s + 1
gap cube s = 3 * (s * s + s) + 1

-- the gap g that led to the root s, widened to the gap from s on: two more, or six times s more
abbrev pub widened : Kind → ℕ → ℕ → ℕ
widened square g s = g + 2
widened cube g s = g + 6 * s
