-- `roots::start::at64::lowered_cbrt` meets its contract: r of the scope document, from y. Assumes nothing.
use Rattle.std.proofs.Common.{◌^◌, arith}
use borrow.Author.Tests.{le-leb, lt-leb}
use Rattle.defs.specs.Starts.Cube64.{top, r}
use Rattle.starts.proofs.Cube64.{safe}
use Rattle.roots.proofs.start.at64.lowered_cbrt.Goals as goal

pub overflow_sub-result : goal.overflow_sub-result
unfolding top
overflow_sub-result c =
    let one = rw (le-leb (2 ^ 63) c.args.n c.if-n-ge9223372036854775808.true) at (safe c.args.n c.requires.0 c.ranges.n.fits).at_least_one in
    rw c.requires.1 (omega (arith, one))

pub overflow_sub-result-else-n-ge9223372036854775808 : goal.overflow_sub-result-else-n-ge9223372036854775808
unfolding top
overflow_sub-result-else-n-ge9223372036854775808 c =
    let one = rw (lt-leb (2 ^ 63) c.args.n c.if-n-ge9223372036854775808.false) at (safe c.args.n c.requires.0 c.ranges.n.fits).at_least_one in
    rw c.requires.1 (omega (arith, one))

pub returns-then-n-ge9223372036854775808 : goal.returns-then-n-ge9223372036854775808
unfolding top r
returns-then-n-ge9223372036854775808 c = rw (c.requires.1, le-leb (2 ^ 63) c.args.n c.if-n-ge9223372036854775808.true)

pub returns-else-n-ge9223372036854775808 : goal.returns-else-n-ge9223372036854775808
unfolding top r
returns-else-n-ge9223372036854775808 c = rw (c.requires.1, lt-leb (2 ^ 63) c.args.n c.if-n-ge9223372036854775808.false)
