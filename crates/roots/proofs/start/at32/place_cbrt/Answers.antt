-- `roots::start::at32::place_cbrt` meets its contract: the test is the scope document's. Assumes nothing.
use Rattle.std.proofs.Common.{◌^◌}
use borrow.Author.Tests.{le-leb, lt-leb}
use Rattle.defs.specs.Starts.Cube32.{top, g}
use Rattle.roots.proofs.start.at32.place_cbrt.Goals as goal

pub returns-then-n-ge1073741824 : goal.returns-then-n-ge1073741824
unfolding top g
returns-then-n-ge1073741824 c = rw (le-leb (2 ^ 30) c.args.n c.if-n-ge1073741824.true)

pub returns-else-n-ge1073741824 : goal.returns-else-n-ge1073741824
unfolding top g
returns-else-n-ge1073741824 c = rw (lt-leb (2 ^ 30) c.args.n c.if-n-ge1073741824.false)
