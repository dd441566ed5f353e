-- `roots::start::at16::scaled_square` meets its contract: the test is the scope document's. Assumes nothing.
use borrow.Author.Tests.{le-leb, lt-leb}
use Rattle.defs.specs.Starts.Cube16.{top, d}
use Rattle.roots.proofs.start.at16.scaled_square.Goals as goal

pub returns-then-n-ge32768 : goal.returns-then-n-ge32768
unfolding top d
returns-then-n-ge32768 c = rw (le-leb 32768 c.args.n c.if-n-ge32768.true)

pub returns-else-n-ge32768 : goal.returns-else-n-ge32768
unfolding top d
returns-else-n-ge32768 c = rw (lt-leb 32768 c.args.n c.if-n-ge32768.false)
