-- Demand 3 in one place: what holds at a cell, a kind and a width. That it holds at every cell is the theorem `cells` of proofs/Cells.antt.
use Rattle.std.specs.Prelude.{◌≡◌, ℕ, ◌^◌, ◌≤◌}
use Rattle.defs.specs.Kinds.{Kind, square, cube, Width, u8, u16, u32, u64}
use Rattle.defs.specs.Roots.{root_of}
use Rattle.defs.specs.Starts.{cell_start}
use Rattle.defs.specs.Cells.{HasTopBits, ceiling, start_of, steps_of}
use Rattle.starts.specs.Near.{Near}

-- a value whose fix-up takes as many steps as the ceiling allows
abbrev pub witness : Kind → Width → ℕ
witness k u8 = 255
witness square u16 = 16900
witness cube u16 = 32768
witness square u32 = 2 ^ 30
witness cube u32 = 2 ^ 30
witness square u64 = 2 ^ 62
witness cube u64 = 10376279628611328125

pub record Cell (k : Kind) (w : Width) : Type 0 where
  -- S is not above the root, and the root is at most the ceiling away
  pub near : (n : ℕ) → HasTopBits k w n → Near k (ceiling k w) n (cell_start k w n)
  -- so the start is S, and is never lowered
  pub never_lowered : (n : ℕ) → HasTopBits k w n → start_of k w n ≡ cell_start k w n
  -- and is not above the root
  pub not_above : (n : ℕ) → HasTopBits k w n → start_of k w n ≤ root_of k n
  -- and no smaller ceiling would do
  pub reached : HasTopBits k w (witness k w) × (steps_of k w (witness k w) ≡ ceiling k w)
