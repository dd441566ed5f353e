-- `batch::run::run_part` meets its contract: the laws of a run, at this loop. Assumes nothing.
use Rattle.std.proofs.Common.{arith}
use Rattle.batch.proofs.Going.{goes_on, ends}
use Rattle.batch.proofs.run.run_part.Goals as goal

-- the next value costs more than what is left
pub returns-then-left-cost : goal.returns-then-left-cost
returns-then-left-cost c = ends c.loop-done.invariant (λ more. omega (arith, c.sqrt_rem-answer.ensures.is_steps))

pub loop-done-preserved : goal.loop-done-preserved
loop-done-preserved c = goes_on c.requires c.loop-done.invariant c.loop-done-test.true c.sqrt_rem-answer.ensures (omega arith)
