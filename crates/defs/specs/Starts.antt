-- The starts S, one to a cell. Each cell's file has the scope document's line, a letter at a time, each a number that n fixes.
-- All divisions round down.
use Rattle.std.specs.Prelude.{ℕ}
use Rattle.defs.specs.Kinds.{Kind, square, cube, Width, u8, u16, u32, u64}
pub mod Letters
pub mod Square16
pub mod Cube16
pub mod Square32
pub mod Cube32
pub mod Square64
pub mod Cube64

-- the search of a u8 starts at 0, of either kind and whatever n is. This is the u8 bill, and stands here alone
unfoldable pub start8 : Kind → ℕ → ℕ
start8 k n = 0

-- S by kind and width
abbrev pub cell_start : Kind → Width → ℕ → ℕ
cell_start k u8 n = start8 k n
cell_start square u16 n = Square16.cell_start n
cell_start cube u16 n = Cube16.cell_start n
cell_start square u32 n = Square32.cell_start n
cell_start cube u32 n = Cube32.cell_start n
cell_start square u64 n = Square64.cell_start n
cell_start cube u64 n = Cube64.cell_start n
