-- `roots::fix::fix_error` meets its contract: the fix-up law. Assumes nothing.
use Rattle.std.proofs.Common.{arith, sym, ◌∙◌}
use Rattle.laws.proofs.FixUp.{begins, goes_on, steps_down, walk_fits, ends}
use Rattle.values.proofs.Order.{at_least, below}
use Rattle.roots.proofs.fix.fix_error.Goals as goal

pub gap-gap-requires : goal.gap-gap-requires
gap-gap-requires g c =
    rw g.met.N.Value.bits_law (walk_fits (begins g.K.Power.kind g.N.Value.width c.requires (rw g.met.N.Value.bits_law at c.fitted.ensures.fits))).1

pub loop-gap-init : goal.loop-gap-init
loop-gap-init g c =
    rw (g.met.N.Word.sub_law c.fitted.result c.raised.result c.sub-rest.result c.sub-rest.ensures, c.fitted.ensures.same, c.raised.ensures, c.gap-gap.ensures)
    (begins g.K.Power.kind g.N.Value.width c.requires (rw g.met.N.Value.bits_law at c.fitted.ensures.fits))

pub add_assign-requires : goal.add_assign-requires
add_assign-requires g c =
    let more = at_least (g.met.N.Word.order_law c.loop-gap.rest c.loop-gap.gap) (sym c.ge.ensures ∙ c.loop-gap-test.true) in
    g.met.N.Root.Word.can_add_assign_law c.loop-gap.root c.of.result (rw (c.of.ensures, g.met.N.Value.root_bits_law) (walk_fits (goes_on c.loop-gap.invariant more)).0)

pub widened-gap-requires : goal.widened-gap-requires
widened-gap-requires g c =
    let more = at_least (g.met.N.Word.order_law c.loop-gap.rest c.loop-gap.gap) (sym c.ge.ensures ∙ c.loop-gap-test.true) in
    rw (g.met.N.Root.Word.add_assign_law c.loop-gap.root c.of.result c.add_assign.new.self c.add_assign.ensures.after, c.of.ensures, g.met.N.Value.bits_law)
    (walk_fits (goes_on c.loop-gap.invariant more)).1

pub loop-gap-smaller : goal.loop-gap-smaller
loop-gap-smaller g c =
    let more = at_least (g.met.N.Word.order_law c.loop-gap.rest c.loop-gap.gap) (sym c.ge.ensures ∙ c.loop-gap-test.true) in
    rw (g.met.N.Word.sub_assign_law c.loop-gap.rest c.loop-gap.gap c.sub_assign.new.self c.sub_assign.ensures.after) (steps_down c.loop-gap.invariant more)

pub loop-gap-preserved : goal.loop-gap-preserved
loop-gap-preserved g c =
    let more = at_least (g.met.N.Word.order_law c.loop-gap.rest c.loop-gap.gap) (sym c.ge.ensures ∙ c.loop-gap-test.true) in
    rw (
      g.met.N.Root.Word.add_assign_law c.loop-gap.root c.of.result c.add_assign.new.self c.add_assign.ensures.after,
      c.of.ensures,
      g.met.N.Word.sub_assign_law c.loop-gap.rest c.loop-gap.gap c.sub_assign.new.self c.sub_assign.ensures.after,
      c.widened-gap.ensures,
      g.met.N.Root.Word.add_assign_law c.loop-gap.root c.of.result c.add_assign.new.self c.add_assign.ensures.after,
      c.of.ensures,
    ) (goes_on c.loop-gap.invariant more)

pub returns-clause-fixed : goal.returns-clause-fixed
returns-clause-fixed g c =
    let less = below (g.met.N.Word.order_law c.loop-gap.rest c.loop-gap.gap) (sym c.ge.ensures ∙ c.loop-gap-test.false) in
    ends c.loop-gap.invariant less (omega (arith, g.met.N.Root.Word.sub_law _ _ _ c.sub.ensures, c.loop-gap.invariant.passed))
