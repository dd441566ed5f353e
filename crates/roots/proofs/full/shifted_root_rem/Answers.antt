-- `roots::full::shifted_root_rem` meets its contract: the law of shifts. Assumes nothing.
use Rattle.std.proofs.Common.{arith, lt_of_le_of_lt}
use Rattle.laws.proofs.Shift.{bound_wide}
use Rattle.laws.proofs.Full.{root_back_of, answer_back}
use Rattle.roots.proofs.full.shifted_root_rem.Goals as goal

pub raised-requires : goal.raised-requires
raised-requires g c =
    let fits = rw g.met.N.Value.bits_law at c.fitted.ensures.fits in
    let top = rw (g.met.N.Word.shl_law _ _ _ c.shl-top.ensures, c.fitted.ensures.same, c.DEGREE.ensures, g.met.K.Power.degree_law, g.met.N.Value.bits_law) at c.fix_error-fixed.ensures.fixed.root_rem.is_root in
    let root = root_back_of g.K.Power.kind g.N.Value.width (bound_wide _ _ c.requires.more_than_a_byte) c.requires.some fits c.back_of-back.ensures top
    (omega (arith, g.met.N.Root.Word.shr_law _ _ _ c.shr-root.ensures)) in
    lt_of_le_of_lt root.fits c.fitted.ensures.fits

pub sub-requires : goal.sub-requires
sub-requires g c =
    let fits = rw g.met.N.Value.bits_law at c.fitted.ensures.fits in
    let top = rw (g.met.N.Word.shl_law _ _ _ c.shl-top.ensures, c.fitted.ensures.same, c.DEGREE.ensures, g.met.K.Power.degree_law, g.met.N.Value.bits_law) at c.fix_error-fixed.ensures.fixed.root_rem.is_root in
    let root = root_back_of g.K.Power.kind g.N.Value.width (bound_wide _ _ c.requires.more_than_a_byte) c.requires.some fits c.back_of-back.ensures top
    (omega (arith, g.met.N.Root.Word.shr_law _ _ _ c.shr-root.ensures)) in
    g.met.N.Word.can_sub_law _ _ (rw c.raised.ensures root.fits)

pub returns : goal.returns
returns g c =
    let fits = rw g.met.N.Value.bits_law at c.fitted.ensures.fits in
    answer_back g.K.Power.kind g.N.Value.width (bound_wide _ _ c.requires.more_than_a_byte) c.requires.some fits c.back_of-back.ensures
    (rw (g.met.N.Word.shl_law _ _ _ c.shl-top.ensures, c.fitted.ensures.same, c.DEGREE.ensures, g.met.K.Power.degree_law, g.met.N.Value.bits_law, ← c.fix_error-fixed.ensures.start) at c.start.ensures)
    (rw (g.met.N.Word.shl_law _ _ _ c.shl-top.ensures, c.fitted.ensures.same, c.DEGREE.ensures, g.met.K.Power.degree_law, g.met.N.Value.bits_law, ← c.fix_error-fixed.ensures.start) at c.fix_error-fixed.ensures.fixed)
    (omega (arith, g.met.N.Root.Word.shr_law _ _ _ c.shr-root.ensures))
    (omega (arith, g.met.N.Word.sub_law _ _ _ c.sub.ensures, c.raised.ensures))
