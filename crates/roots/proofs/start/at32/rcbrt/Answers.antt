-- `roots::start::at32::rcbrt` meets its contract: y of the scope document, letter by letter. Assumes nothing.
use Rattle.defs.specs.Starts.Cube32.{p, t, y}
use Rattle.starts.proofs.Cube32.{safe}
use Rattle.roots.proofs.start.at32.rcbrt.Goals as goal

pub overflow_sub-g : goal.overflow_sub-g
overflow_sub-g c = rw c.place_cbrt-g.ensures (safe c.args.n c.requires c.ranges.n.fits).from_first

pub overflow_sub-t : goal.overflow_sub-t
unfolding p
overflow_sub-t c = rw (c.wmul_hi-t.ensures, c.guess-p.ensures.0, c.place_cbrt-g.ensures) (safe c.args.n c.requires c.ranges.n.fits).off_fits

pub overflow_cast-result-2 : goal.overflow_cast-result-2
unfolding p t y
overflow_cast-result-2 c = rw (c.wmul_hi-t.ensures, c.guess-p.ensures.0, c.place_cbrt-g.ensures) (record { fits = (safe c.args.n c.requires c.ranges.n.fits).y_fits })

pub returns : goal.returns
unfolding p t y
returns c = rw (c.wmul_hi-t.ensures, c.guess-p.ensures.0, c.place_cbrt-g.ensures)
