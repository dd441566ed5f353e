-- `roots::full::root_rem` meets its contract: a value with its top bits, and the value 0. Assumes nothing.
use Rattle.std.proofs.Common.{◌≡◌, ◌≤◌, refl, sym, ◌∙◌}
use borrow.Author.Tests.{eqb-true}
use Rattle.defs.specs.Cells.{bound}
use Rattle.laws.proofs.Bills.{full_zero}
use Rattle.laws.proofs.Full.{own_full}
use Rattle.values.proofs.Order.{at_least}
use Rattle.roots.proofs.full.root_rem.Goals as goal

pub returns-then-ge : goal.returns-then-ge
returns-then-ge g c =
    let topped : bound g.K.Power.kind g.N.Value.width ≤ g.N.Word.number c.args.n =
    rw (← c.bound.ensures, ← c.fitted-n.ensures.same) (at_least (g.met.N.Word.order_law _ _) (sym c.ge.ensures ∙ c.if-ge.true)) in
    own_full g.K.Power.kind g.N.Value.width topped (rw g.met.N.Value.bits_law at c.fitted-n.ensures.fits)
    (rw (c.fitted-n.ensures.same, ← c.fix_error.ensures.start) at c.start.ensures) (rw (c.fitted-n.ensures.same, ← c.fix_error.ensures.start) at c.fix_error.ensures.fixed)

pub returns-then-eq : goal.returns-then-eq
returns-then-eq g c =
    let zero : g.N.Word.number c.args.n ≡ 0 =
    rw (← c.of.ensures, ← c.fitted-n.ensures.same) (eqb-true _ _ (sym (g.met.N.Word.eq_law _ _) ∙ sym c.eq.ensures ∙ c.if-eq.true)) in
    rw (c.of-zero.ensures, c.fitted-n.ensures.same, zero) (full_zero g.K.Power.kind g.N.Value.width refl)
