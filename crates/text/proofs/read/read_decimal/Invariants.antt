-- What is answered is what goes on from the value so far with the bytes that are left.
use Rattle.text.proofs.Reading.{Walk}
use Rattle.text.proofs.read.read_decimal.Given as goal

abbrev pub invariant-loop-byte : goal.invariant-loop-byte
invariant-loop-byte l = Walk l.s l.most_digits l.most l.byte-index l.value
