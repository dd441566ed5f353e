-- The number that each refusal stands for, and that a result stands for: definitions alone.
use Rattle.std.specs.Prelude.{ℕ, Result, Ok, Err}
use Rattle.defs.specs.Refusals.{no_refusal, not_normalised, first_beyond, count_beyond, lengths_differ, rest_beyond, value_beyond}
use Rattle.refusals.specs.declared.Refusal.{Refusal}
use Rattle.refusals.specs.declared.Refusal.TheVariants.{NotNormalised, FirstBeyond, CountBeyond, LengthsDiffer, RestBeyond, ValueBeyond}

-- the number of a refusal, as defs has it
abbrev pub number_of : Refusal → ℕ
number_of NotNormalised = not_normalised
number_of FirstBeyond = first_beyond
number_of CountBeyond = count_beyond
number_of LengthsDiffer = lengths_differ
number_of RestBeyond = rest_beyond
number_of ValueBeyond = value_beyond

-- the number of a result: that of its refusal, or of none
abbrev pub number_in : {T : Type 0} → Result T Refusal → ℕ
number_in (Ok answer) = no_refusal
number_in (Err refusal) = number_of refusal

-- a number of the answer, and 0 of a refusal
abbrev pub part_in : {T : Type 0} → (T → ℕ) → Result T Refusal → ℕ
part_in part (Ok answer) = part answer
part_in part (Err refusal) = 0
