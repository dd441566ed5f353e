-- The digits so far are the last of n, and those of `rest` are left.
use Rattle.text.proofs.Spelling.{Spelled}
use Rattle.text.proofs.write.spell.Given as goal

abbrev pub invariant-loop-rest : goal.invariant-loop-rest
invariant-loop-rest l = Spelled l.n l.text l.from l.rest

abbrev pub decreases-loop-rest : goal.decreases-loop-rest
decreases-loop-rest l = l.rest
