-- `roots::start::at16::U16StartCube::start` meets its contract: it is S of the scope document, letter by letter. Assumes nothing.
use Rattle.std.proofs.Common.{arith}
use Rattle.defs.specs.Kinds.{cube, u16}
use Rattle.defs.specs.Starts.Cube16.{r, cell_start}
use Rattle.starts.proofs.Calls.{starts}
use Rattle.starts.proofs.Cube16.{safe}
use Rattle.roots.proofs.start.at16.U16StartCube.start.Goals as goal

pub overflow_sub-place : goal.overflow_sub-place
overflow_sub-place c = rw c.place.ensures (safe c.args.self c.requires c.ranges.self.fits).from_first

-- the product, in the document's letters
pub overflow_mul-c : goal.overflow_mul-c
unfolding r
overflow_mul-c c = rw (c.scaled_square.ensures, c.guess-r.ensures.0, c.place.ensures) (record { fits = (safe c.args.self c.requires c.ranges.self.fits).product_fits })

pub overflow_sub-result : goal.overflow_sub-result
unfolding r
overflow_sub-result c = rw (c.scaled_square.ensures, c.guess-r.ensures.0, c.place.ensures) (omega (arith, (safe c.args.self c.requires c.ranges.self.fits).at_least_one))

pub overflow_cast-result : goal.overflow_cast-result
unfolding r cell_start
overflow_cast-result c = rw (c.scaled_square.ensures, c.guess-r.ensures.0, c.place.ensures) (record { fits = (safe c.args.self c.requires c.ranges.self.fits).fits })

pub returns : goal.returns
unfolding r cell_start
returns c = starts cube u16 c.requires c.ranges.self.fits (rw (c.scaled_square.ensures, c.guess-r.ensures.0, c.place.ensures))
