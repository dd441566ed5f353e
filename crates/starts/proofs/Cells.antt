-- Demand 3 at every cell: S is never above the root and never lowered, and each ceiling holds and is reached. Assumes nothing.
use mathlib.Core.Path.{◌≡◌, refl}
use Prim.Native.Nat.{ℕ, ◌^◌, ◌<◌, zero-le}
use native.Mathlib.Omega.{arith}
use lib.Dec.{lit≤, lit<}
use Rattle.defs.specs.Kinds.{Kind, square, cube, Width, u8, u16, u32, u64}
use Rattle.defs.specs.Roots.{root_of, root_within}
use Rattle.defs.specs.Tables.{rsqrt_tab, rcbrt_tab}
use Rattle.defs.specs.Starts.{cell_start, start8}
use Rattle.defs.specs.Starts.Square16 as sq16
use Rattle.defs.specs.Starts.Cube16 as cb16
use Rattle.defs.specs.Starts.Square32 as sq32
use Rattle.defs.specs.Starts.Cube32 as cb32
use Rattle.defs.specs.Starts.Square64 as sq64
use Rattle.defs.specs.Starts.Cube64 as cb64
use Rattle.defs.specs.Cells.{HasTopBits, ceiling, start_of, steps_of}
use Rattle.laws.proofs.Roots.{root_is}
use Rattle.laws.proofs.Bills.{not_lowered}
use Rattle.starts.specs.Near.{Near}
use Rattle.starts.specs.Cell.{witness, Cell}
use Rattle.starts.proofs.Square16
use Rattle.starts.proofs.Cube16
use Rattle.starts.proofs.Square32
use Rattle.starts.proofs.Cube32
use Rattle.starts.proofs.Square64
use Rattle.starts.proofs.Cube64

-- a u8 starts at 0, and the power of the ceiling plus one is above every u8
near8 : (k : Kind) (n : ℕ) → n < 2 ^ 8 → Near k (ceiling k u8) n (start8 k n)
unfolding start8
near8 square n h = record { low = zero-le; high = h }
near8 cube n h = record { low = zero-le; high = omega arith }

near : (k : Kind) (w : Width) (n : ℕ) → HasTopBits k w n → Near k (ceiling k w) n (cell_start k w n)
near k u8 n h = near8 k n h.in_width
near square u16 n h = Square16.near n h.from_bound h.in_width
near square u32 n h = Square32.near n h.from_bound h.in_width
near square u64 n h = Square64.near n h.from_bound h.in_width
near cube u16 n h = Cube16.near n h.from_bound h.in_width
near cube u32 n h = Cube32.near n h.from_bound h.in_width
near cube u64 n h = Cube64.near n h.from_bound h.in_width

-- each witness is normalised and takes as many steps as the ceiling: computed
reached : (k : Kind) (w : Width) → HasTopBits k w (witness k w) × (steps_of k w (witness k w) ≡ ceiling k w)
unfolding start_of steps_of root_of root_within rsqrt_tab rcbrt_tab start8 sq16.r sq16.cell_start cb16.top cb16.q cb16.d cb16.r cb16.cell_start sq32.h sq32.p sq32.r sq32.a sq32.cell_start cb32.top cb32.g cb32.p cb32.t cb32.y cb32.r cb32.cell_start sq64.h sq64.p sq64.x sq64.t sq64.r sq64.a sq64.cell_start cb64.top cb64.g cb64.p cb64.x cb64.t cb64.y cb64.r cb64.cell_start
reached square u8 = (record { from_bound = lit≤ tt; in_width = lit< tt }, refl)
reached square u16 = (record { from_bound = lit≤ tt; in_width = lit< tt }, refl)
reached square u32 = (record { from_bound = lit≤ tt; in_width = lit< tt }, refl)
reached square u64 = (record { from_bound = lit≤ tt; in_width = lit< tt }, refl)
reached cube u8 = (record { from_bound = lit≤ tt; in_width = lit< tt }, refl)
reached cube u16 = (record { from_bound = lit≤ tt; in_width = lit< tt }, refl)
reached cube u32 = (record { from_bound = lit≤ tt; in_width = lit< tt }, refl)
reached cube u64 = (record { from_bound = lit≤ tt; in_width = lit< tt }, refl)

never_lowered : (k : Kind) (w : Width) (n : ℕ) → HasTopBits k w n → start_of k w n ≡ cell_start k w n
never_lowered k w n h = not_lowered k w n (near k w n h).low

pub cells : (k : Kind) (w : Width) → Cell k w
cells k w = record {
  near = near k w;
  never_lowered = never_lowered k w;
  not_above = λ n h. (root_is k n).greatest (start_of k w n) (rw (never_lowered k w n h) (near k w n h).low);
  reached = reached k w;
}
