-- `reply::put_reply` meets its contract: the seven lines, or `bad input`. Assumes nothing.
use Rattle.reply.specs.Reply.{answer_to}
use Rattle.reply.proofs.Putting.{puts}
use Rattle.reply.proofs.put_reply.Goals as goal

pub returns-in-Some : goal.returns-in-Some
unfolding answer_to
returns-in-Some c = rw c.in-Some.is c.put_answer.ensures

pub returns-in-None : goal.returns-in-None
unfolding answer_to
returns-in-None c = rw c.in-None.is (puts c.write_bytes.ensures)
