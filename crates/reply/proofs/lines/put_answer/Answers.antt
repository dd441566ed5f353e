-- `reply::lines::put_answer` meets its contract: what was asked, then what was found. Assumes nothing.
use Rattle.reply.specs.Reply.{answer_of}
use Rattle.reply.proofs.Putting.{puts_on, puts_stop, puts_same}
use Rattle.reply.proofs.Replies.{answer_found}
use Rattle.reply.proofs.lines.put_answer.Goals as goal

pub returns-in_err-lines : goal.returns-in_err-lines
unfolding answer_of
returns-in_err-lines c = rw c.from_residual.ensures (puts_stop _ (rw c.in_err-lines.was at c.put_asked.ensures))

pub returns : goal.returns
returns c = puts_same (answer_found c.found_of.ensures) (puts_on c.put_asked.ensures c.in_ok-lines.was c.put_found.ensures)
