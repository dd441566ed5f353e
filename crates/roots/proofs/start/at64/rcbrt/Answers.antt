-- `roots::start::at64::rcbrt` meets its contract: y of the scope document, letter by letter. Assumes nothing.
use Rattle.defs.specs.Starts.Cube64.{t, y}
use Rattle.starts.proofs.Cube64.{safe}
use Rattle.roots.proofs.start.at64.rcbrt.Goals as goal

pub overflow_sub-t : goal.overflow_sub-t
overflow_sub-t c = rw (c.wmul_hi-t.ensures, c.wmul_hi-2.ensures, c.wmul_hi.ensures, c.first_rcbrt-x.ensures, c.place_cbrt-g.ensures) (safe c.args.n c.requires c.ranges.n.fits).second_fits

pub returns : goal.returns
unfolding t y
returns c = rw (c.wmul_hi-3.ensures, c.wmul_hi-t.ensures, c.wmul_hi-2.ensures, c.wmul_hi.ensures, c.first_rcbrt-x.ensures, c.place_cbrt-g.ensures)
