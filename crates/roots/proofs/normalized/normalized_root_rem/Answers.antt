-- `roots::normalized::normalized_root_rem` meets its contract: the cell of the power and the type. Assumes nothing.
use Rattle.std.proofs.Common.{◌≤◌, sym, ◌∙◌}
use Rattle.defs.specs.Cells.{bound}
use Rattle.starts.proofs.Calls.{answers}
use Rattle.values.proofs.Order.{not_below}
use Rattle.roots.proofs.normalized.normalized_root_rem.Goals as goal

pub returns : goal.returns
returns g c =
    let topped : bound g.K.Power.kind g.N.Value.width ≤ g.N.Word.number c.args.n =
    rw (← c.bound.ensures, ← c.fitted-n.ensures.same) (not_below (g.met.N.Word.order_law _ _) (sym c.lt.ensures ∙ c.if-lt.false)) in
    answers g.K.Power.kind g.N.Value.width topped (rw g.met.N.Value.bits_law at c.fitted-n.ensures.fits)
    (rw (c.fitted-n.ensures.same, ← c.fix_error.ensures.start) at c.start.ensures) (rw (c.fitted-n.ensures.same, ← c.fix_error.ensures.start) at c.fix_error.ensures.fixed)
