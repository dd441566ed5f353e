-- `roots::start::at32::U32StartCube::start` meets its contract: it is S of the scope document, letter by letter. Assumes nothing.
use Rattle.defs.specs.Kinds.{cube, u32}
use Rattle.defs.specs.Starts.Cube32.{cell_start}
use Rattle.starts.proofs.Calls.{starts}
use Rattle.roots.proofs.start.at32.U32StartCube.start.Goals as goal

pub returns : goal.returns
unfolding cell_start
returns c = starts cube u32 c.requires c.ranges.self.fits (rw (c.wmul_hi-2.ensures, c.wmul_hi.ensures, c.lowered_cbrt-r.ensures))
