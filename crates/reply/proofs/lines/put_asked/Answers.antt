-- `reply::lines::put_asked` meets its contract: its three lines in a row. Assumes nothing.
use Rattle.reply.specs.Lines.{asked_lines}
use Rattle.reply.proofs.Putting.{puts_on}
use Rattle.reply.proofs.lines.put_asked.Goals as goal

pub returns : goal.returns
unfolding asked_lines
returns c = puts_on c.put_number.ensures c.in_ok-width.was (puts_on c.put_kind.ensures c.in_ok-kind.was c.put_number-2.ensures)
