-- `text::read::read_decimal` meets its contract: reading begins, goes on from byte to byte, and stops or ends. Assumes nothing.
use Rattle.std.proofs.Common.{sym, ◌∙◌, inl, inr}
use borrow.Author.Tests.{eqb-true, eqb-false}
use Rattle.text.proofs.Reading.{too_short, too_long, walk_begins, walk_on, walk_stops}
use Rattle.text.proofs.read.read_decimal.Goals as goal

pub returns-then-is_empty : goal.returns-then-is_empty
returns-then-is_empty c =
    sym (elim c.then-is_empty.either [ inl e ↦ too_short _ _ _ (eqb-true _ _ (sym c.is_empty.ensures ∙ e)) | inr w ↦ too_long _ _ _ w.1 ])

pub loop-byte-init : goal.loop-byte-init
loop-byte-init c = walk_begins _ _ _ (eqb-false _ _ (sym c.is_empty.ensures ∙ c.if-is_empty.false)) c.if-s-most_digits.false

pub returns-in_err-value : goal.returns-in_err-value
returns-in_err-value c =
    c.from_residual.ensures ∙ sym (walk_stops c.loop-byte.invariant c.loop-byte-test.true (sym c.next_value.ensures ∙ c.in_err-value.was))

pub loop-byte-preserved : goal.loop-byte-preserved
loop-byte-preserved c = walk_on c.loop-byte.invariant c.loop-byte-test.true (sym c.next_value.ensures ∙ c.in_ok-value.was)
