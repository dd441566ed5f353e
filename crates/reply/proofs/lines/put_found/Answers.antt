-- `reply::lines::put_found` meets its contract: its four lines in a row. Assumes nothing.
use Rattle.reply.specs.Lines.{found_lines}
use Rattle.reply.proofs.Putting.{puts_on}
use Rattle.reply.proofs.lines.put_found.Goals as goal

pub returns : goal.returns
unfolding found_lines
returns c =
    puts_on c.put_number.ensures c.in_ok-root.was
    (puts_on c.put_number-2.ensures c.in_ok-rest.was (puts_on c.put_number-3.ensures c.in_ok-start.was c.put_number-4.ensures))
