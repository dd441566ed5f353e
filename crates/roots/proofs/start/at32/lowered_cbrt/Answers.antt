-- `roots::start::at32::lowered_cbrt` meets its contract: r of the scope document, from y. Assumes nothing.
use Rattle.std.proofs.Common.{◌^◌, arith}
use borrow.Author.Tests.{le-leb, lt-leb}
use Rattle.defs.specs.Starts.Cube32.{top, r}
use Rattle.starts.proofs.Cube32.{safe}
use Rattle.roots.proofs.start.at32.lowered_cbrt.Goals as goal

pub overflow_sub-result : goal.overflow_sub-result
unfolding top
overflow_sub-result c =
    let ten = rw (le-leb (2 ^ 30) c.args.n c.if-n-ge1073741824.true) at (safe c.args.n c.requires.0 c.ranges.n.fits).at_least_ten in
    rw c.requires.1 (omega (arith, ten))

pub overflow_sub-result-else-n-ge1073741824 : goal.overflow_sub-result-else-n-ge1073741824
unfolding top
overflow_sub-result-else-n-ge1073741824 c =
    let ten = rw (lt-leb (2 ^ 30) c.args.n c.if-n-ge1073741824.false) at (safe c.args.n c.requires.0 c.ranges.n.fits).at_least_ten in
    rw c.requires.1 (omega (arith, ten))

pub returns-then-n-ge1073741824 : goal.returns-then-n-ge1073741824
unfolding top r
returns-then-n-ge1073741824 c = rw (c.requires.1, le-leb (2 ^ 30) c.args.n c.if-n-ge1073741824.true)

pub returns-else-n-ge1073741824 : goal.returns-else-n-ge1073741824
unfolding top r
returns-else-n-ge1073741824 c = rw (c.requires.1, lt-leb (2 ^ 30) c.args.n c.if-n-ge1073741824.false)
