-- `text::write::spell` meets its contract: there is room for each digit, and the last one ends the number. Assumes nothing.
use Rattle.text.proofs.Spelling.{spell_room, spell_on, spell_ends}
use Rattle.text.proofs.write.spell.Goals as goal

pub overflow_sub-from : goal.overflow_sub-from
overflow_sub-from c = spell_room c.ranges.n.fits c.loop-rest.invariant

pub returns-then-rest-eq0 : goal.returns-then-rest-eq0
returns-then-rest-eq0 c = spell_ends c.ranges.n.fits c.digit.ensures c.loop-rest.invariant c.if-rest-eq0.true

pub loop-rest-preserved : goal.loop-rest-preserved
loop-rest-preserved c = spell_on c.ranges.n.fits c.digit.ensures c.loop-rest.invariant c.if-rest-eq0.false
