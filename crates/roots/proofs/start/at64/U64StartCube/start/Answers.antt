-- `roots::start::at64::U64StartCube::start` meets its contract: it is S of the scope document, letter by letter. Assumes nothing.
use Rattle.defs.specs.Kinds.{cube, u64}
use Rattle.defs.specs.Starts.Cube64.{cell_start}
use Rattle.starts.proofs.Calls.{starts}
use Rattle.roots.proofs.start.at64.U64StartCube.start.Goals as goal

pub returns : goal.returns
unfolding cell_start
returns c = starts cube u64 c.requires c.ranges.self.fits (rw (c.wmul_hi-2.ensures, c.wmul_hi.ensures, c.lowered_cbrt-r.ensures))
