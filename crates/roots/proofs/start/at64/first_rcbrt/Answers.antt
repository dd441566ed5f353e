-- `roots::start::at64::first_rcbrt` meets its contract: x of the scope document, from g. Assumes nothing.
use Rattle.defs.specs.Starts.Cube64.{p, x}
use Rattle.starts.proofs.Cube64.{safe}
use Rattle.roots.proofs.start.at64.first_rcbrt.Goals as goal

pub overflow_sub-g : goal.overflow_sub-g
overflow_sub-g c = rw c.requires.1 (safe c.args.n c.requires.0 c.ranges.n.fits).from_first

pub overflow_sub-result : goal.overflow_sub-result
unfolding p
overflow_sub-result c = rw (c.wmul_hi.ensures, c.guess-p.ensures.0, c.requires.1) (safe c.args.n c.requires.0 c.ranges.n.fits).first_fits

pub overflow_mul-result : goal.overflow_mul-result
unfolding p x
overflow_mul-result c = rw (c.wmul_hi.ensures, c.guess-p.ensures.0, c.requires.1) (record { fits = (safe c.args.n c.requires.0 c.ranges.n.fits).x_fits })

pub returns : goal.returns
unfolding p x
returns c = rw (c.wmul_hi.ensures, c.guess-p.ensures.0, c.requires.1)
