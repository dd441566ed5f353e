-- `reply::lines::put_number` meets its contract: its three writes are a line. Assumes nothing.
use Rattle.reply.proofs.Putting.{puts_line}
use Rattle.reply.proofs.lines.put_number.Goals as goal

pub returns : goal.returns
returns c = puts_line c.write_bytes.ensures c.in_ok-named.was c.write_decimal.ensures c.in_ok-said.was c.write_bytes-2.ensures
