-- `roots::alone::shifted_root` meets its contract: the law of shifts. Assumes nothing.
use Rattle.std.proofs.Common.{arith}
use Rattle.laws.proofs.Shift.{bound_wide}
use Rattle.laws.proofs.Full.{root_back_of}
use Rattle.roots.proofs.alone.shifted_root.Goals as goal

pub returns : goal.returns
returns g c =
    let fits = rw g.met.N.Value.bits_law at c.fitted.ensures.fits in
    let top = rw (g.met.N.Word.shl_law _ _ _ c.shl-top.ensures, c.fitted.ensures.same, c.DEGREE.ensures, g.met.K.Power.degree_law, g.met.N.Value.bits_law) at c.fix_error.ensures.fixed.root_rem.is_root in
    root_back_of g.K.Power.kind g.N.Value.width (bound_wide _ _ c.requires.more_than_a_byte) c.requires.some fits c.back_of-back.ensures top
    (omega (arith, g.met.N.Root.Word.shr_law _ _ _ c.shr.ensures))
