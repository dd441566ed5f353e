-- `roots::start::at32::near_sqrt` meets its contract: a of the scope document, from r. Assumes nothing.
use Rattle.std.proofs.Common.{arith}
use Rattle.defs.specs.Starts.Square32.{h, a}
use Rattle.starts.proofs.Square32.{safe}
use Rattle.roots.proofs.start.at32.near_sqrt.Goals as goal

pub overflow_sub-result : goal.overflow_sub-result
unfolding h
overflow_sub-result c = rw (c.saturating_double16.ensures, c.wmul_hi.ensures, c.requires.1) (omega (arith, (safe c.args.n c.requires.0 c.ranges.n.fits).a_stays))

pub returns : goal.returns
unfolding h a
returns c = rw (c.saturating_double16.ensures, c.wmul_hi.ensures, c.requires.1)
