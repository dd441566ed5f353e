-- `roots::start::at64::near_sqrt` meets its contract: a of the scope document, from r. Assumes nothing.
use Rattle.std.proofs.Common.{arith}
use Rattle.defs.specs.Starts.Square64.{h, a}
use Rattle.starts.proofs.Square64.{safe}
use Rattle.roots.proofs.start.at64.near_sqrt.Goals as goal

pub overflow_mul-result : goal.overflow_mul-result
unfolding h
overflow_mul-result c = rw (c.wmul_hi.ensures, c.requires.1) (record { fits = (safe c.args.n c.requires.0 c.ranges.n.fits).double_fits })

pub overflow_sub-result : goal.overflow_sub-result
unfolding h
overflow_sub-result c = rw (c.wmul_hi.ensures, c.requires.1) (omega (arith, (safe c.args.n c.requires.0 c.ranges.n.fits).a_stays))

pub returns : goal.returns
unfolding h a
returns c = rw (c.wmul_hi.ensures, c.requires.1)
