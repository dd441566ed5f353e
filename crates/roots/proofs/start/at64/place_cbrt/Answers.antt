-- `roots::start::at64::place_cbrt` meets its contract: the test is the scope document's. Assumes nothing.
use Rattle.std.proofs.Common.{◌^◌}
use borrow.Author.Tests.{le-leb, lt-leb}
use Rattle.defs.specs.Starts.Cube64.{top, g}
use Rattle.roots.proofs.start.at64.place_cbrt.Goals as goal

pub returns-then-n-ge9223372036854775808 : goal.returns-then-n-ge9223372036854775808
unfolding top g
returns-then-n-ge9223372036854775808 c = rw (le-leb (2 ^ 63) c.args.n c.if-n-ge9223372036854775808.true)

pub returns-else-n-ge9223372036854775808 : goal.returns-else-n-ge9223372036854775808
unfolding top g
returns-else-n-ge9223372036854775808 c = rw (lt-leb (2 ^ 63) c.args.n c.if-n-ge9223372036854775808.false)
