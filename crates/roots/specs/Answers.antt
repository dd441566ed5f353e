-- What a call promises of its answer's words, by the numbers that they are: definitions alone.
use Rattle.std.specs.Prelude.{ℕ, Result}
use Rattle.defs.specs.Kinds.{Kind, Width}
use Rattle.defs.specs.Answers.{Full, Normalised}
use Rattle.refusals.specs.declared.Refusal.{Refusal}
use Rattle.refusals.specs.Refusal.{number_in, part_in}
use Rattle.roots.specs.declared.answer.RootRem.{RootRem}

module _ {N R : Type 0} (k : Kind) (w : Width) (number : N → ℕ) (root_number : R → ℕ) (n : N) where
  -- a full call's answer
  abbrev pub FullAnswer : RootRem N R → Type 0
  FullAnswer a = Full k w (number n) (root_number a.root) (number a.rest) (root_number a.start) (root_number a.steps)

  -- a normalised call's result: its refusal's number, or 0, beside each number of its answer, or 0
  abbrev pub NormalisedResult : Result (RootRem N R) Refusal → Type 0
  NormalisedResult r =
      Normalised k w (number n) (number_in r) (part_in (λ a. root_number a.root) r) (part_in (λ a. number a.rest) r)
      (part_in (λ a. root_number a.start) r) (part_in (λ a. root_number a.steps) r)
