-- `roots::start::at64::rsqrt` meets its contract: r of the scope document, from x. Assumes nothing.
use Rattle.defs.specs.Starts.Square64.{h, t, r}
use Rattle.starts.proofs.Square64.{safe}
use Rattle.roots.proofs.start.at64.rsqrt.Goals as goal

pub overflow_sub-t : goal.overflow_sub-t
unfolding h
overflow_sub-t c = rw (c.wmul_hi-t.ensures, c.wmul_hi.ensures, c.requires.1) (safe c.args.n c.requires.0 c.ranges.n.fits).t_stays

pub overflow_mul-result : goal.overflow_mul-result
unfolding h t r
overflow_mul-result c = rw (c.wmul_hi-2.ensures, c.wmul_hi-t.ensures, c.wmul_hi.ensures, c.requires.1) (record { fits = (safe c.args.n c.requires.0 c.ranges.n.fits).r_fits })

pub returns : goal.returns
unfolding h t r
returns c = rw (c.wmul_hi-2.ensures, c.wmul_hi-t.ensures, c.wmul_hi.ensures, c.requires.1)
