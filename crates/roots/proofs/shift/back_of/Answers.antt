-- `roots::shift::back_of` meets its contract: the law of shifts. Assumes nothing.
use Rattle.laws.proofs.Shift.{bound_wide, shifts_by}
use Rattle.roots.proofs.shift.back_of.Goals as goal

pub returns : goal.returns
returns g c =
    let fits = rw g.met.N.Value.bits_law at c.fitted.ensures.fits in
    shifts_by g.K.Power.kind g.N.Value.width (bound_wide _ _ c.requires.more_than_a_byte) c.requires.some fits
    (rw (c.leading_zeros.ensures, c.fitted.ensures.same, c.DEGREE.ensures, g.met.K.Power.degree_law, g.met.N.Value.bits_law))
