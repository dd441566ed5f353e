-- `roots::start::at64::first_rsqrt` meets its contract: x of the scope document, letter by letter. Assumes nothing.
use Rattle.defs.specs.Starts.Square64.{h, p, x}
use Rattle.starts.proofs.Square64.{safe}
use Rattle.roots.proofs.start.at64.first_rsqrt.Goals as goal

pub overflow_sub-result : goal.overflow_sub-result
unfolding h p
overflow_sub-result c = rw (c.wmul_hi.ensures, c.guess-p.ensures.0) (safe c.args.n c.requires c.ranges.n.fits).x_stays

pub returns : goal.returns
unfolding h p x
returns c = rw (c.wmul_hi.ensures, c.guess-p.ensures.0)
