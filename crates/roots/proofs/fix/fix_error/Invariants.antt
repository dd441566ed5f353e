-- The fix-up stands at root, as the law of fix-ups says, and what is left goes down.
use Rattle.laws.proofs.FixUp.{Walk}
use Rattle.roots.proofs.fix.fix_error.Given as goal

abbrev pub invariant-loop-gap : goal.invariant-loop-gap
invariant-loop-gap g l =
    Walk g.K.Power.kind g.N.Value.width (g.N.Word.number l.fn.n) (g.N.Root.Word.number l.start) (g.N.Root.Word.number l.root) (g.N.Word.number l.rest) (g.N.Word.number l.gap)

abbrev pub decreases-loop-gap : goal.decreases-loop-gap
decreases-loop-gap g l = g.N.Word.number l.rest
