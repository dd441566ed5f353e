-- `roots::start::at16::U16StartSquare::start` meets its contract: it is S of the scope document, letter by letter. Assumes nothing.
use Rattle.defs.specs.Kinds.{square, u16}
use Rattle.defs.specs.Starts.Square16.{r, cell_start}
use Rattle.starts.proofs.Calls.{starts}
use Rattle.starts.proofs.Square16.{safe}
use Rattle.roots.proofs.start.at16.U16StartSquare.start.Goals as goal

pub overflow_cast-result : goal.overflow_cast-result
unfolding r cell_start
overflow_cast-result c = rw c.guess-r.ensures.0 (record { fits = (safe c.args.self c.requires c.ranges.self.fits).fits })

pub returns : goal.returns
unfolding r cell_start
returns c = starts square u16 c.requires c.ranges.self.fits (rw c.guess-r.ensures.0)
