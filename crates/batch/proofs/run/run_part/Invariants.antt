-- The first i values are done and paid for, and the others are as they were.
use Rattle.batch.proofs.Going.{Going}
use Rattle.batch.proofs.run.run_part.Given as goal

abbrev pub invariant-loop-done : goal.invariant-loop-done
invariant-loop-done l = Going l.values l.initial.roots l.budget l.roots l.done l.spent
