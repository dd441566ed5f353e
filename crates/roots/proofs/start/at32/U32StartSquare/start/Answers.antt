-- `roots::start::at32::U32StartSquare::start` meets its contract: it is S of the scope document, letter by letter. Assumes nothing.
use Rattle.defs.specs.Kinds.{square, u32}
use Rattle.defs.specs.Starts.Square32.{cell_start}
use Rattle.starts.proofs.Calls.{starts}
use Rattle.starts.proofs.Square32.{safe}
use Rattle.roots.proofs.start.at32.U32StartSquare.start.Goals as goal

pub overflow_sub-e : goal.overflow_sub-e
overflow_sub-e c = rw (c.raised.ensures, c.near_sqrt-a.ensures) (safe c.args.self c.requires c.ranges.self.fits).square_fits

pub overflow_add-result : goal.overflow_add-result
unfolding cell_start
overflow_add-result c = rw (c.wmul_hi.ensures, c.raised.ensures, c.near_sqrt-a.ensures, c.rsqrt-r.ensures) (record { fits = (safe c.args.self c.requires c.ranges.self.fits).cell_start_fits })

pub returns : goal.returns
unfolding cell_start
returns c = starts square u32 c.requires c.ranges.self.fits (rw (c.wmul_hi.ensures, c.raised.ensures, c.near_sqrt-a.ensures, c.rsqrt-r.ensures))
