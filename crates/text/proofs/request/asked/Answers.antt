-- `text::request::asked` meets its contract: what the word and the newline leave is read. Assumes nothing.
use Rattle.std.proofs.Common.{sym, ◌∙◌, ap, arith}
use Rattle.std.specs.Option.{option_map}
use Rattle.std.proofs.lemmas.Bool.Decides.{Decides-eqb}
use Rattle.std.proofs.lemmas.Option.{MatchOption-at_some, MatchOption-at_none}
use Rattle.std.proofs.lemmas.Slice.Eq.{strip_suffix_is}
use Rattle.text.specs.Request.{good}
use Rattle.text.proofs.Reading.{accepted}
use Rattle.text.proofs.Requests.{no_word, left_by_word, no_newline, before_newline}
use Rattle.text.proofs.request.asked.Goals as goal

pub returns-then-not-starts_with : goal.returns-then-not-starts_with
returns-then-not-starts_with c = sym (no_word _ _ _ (sym c.starts_with.ensures ∙ c.if-not-starts_with.true))

pub returns-in_err-digits : goal.returns-in_err-digits
returns-in_err-digits c =
    c.from_residual.ensures
    ∙ sym
    (left_by_word _ _ _ (sym c.starts_with.ensures ∙ c.if-not-starts_with.false)
    ∙ no_newline _ _ (MatchOption-at_none _ _ c.in_err-digits.was (strip_suffix_is Decides-eqb _ _ _ c.strip_suffix.ensures.cases)))

pub returns-in_err-value : goal.returns-in_err-value
returns-in_err-value c =
    let line = MatchOption-at_some _ _ _ c.in_ok-digits.was (strip_suffix_is Decides-eqb _ _ _ c.strip_suffix.ensures.cases) in
    c.from_residual-in_err-value.ensures
    ∙ sym
    (left_by_word _ _ _ (sym c.starts_with.ensures ∙ c.if-not-starts_with.false)
    ∙ before_newline _ _ line
    ∙ ap (option_map (good c.args.kind)) (sym c.read_decimal.ensures ∙ c.in_err-value.was))

pub overflow_cast-result : goal.overflow_cast-result
overflow_cast-result c = record { fits = omega (arith, (accepted _ _ _ (sym c.read_decimal.ensures ∙ c.in_ok-value.was)).small) }

pub returns : goal.returns
returns c =
    let line = MatchOption-at_some _ _ _ c.in_ok-digits.was (strip_suffix_is Decides-eqb _ _ _ c.strip_suffix.ensures.cases) in
    sym
    (left_by_word _ _ _ (sym c.starts_with.ensures ∙ c.if-not-starts_with.false)
    ∙ before_newline _ _ line
    ∙ ap (option_map (good c.args.kind)) (sym c.read_decimal.ensures ∙ c.in_ok-value.was))
