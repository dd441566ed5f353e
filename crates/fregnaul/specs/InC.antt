-- An answer as C has it: the same numbers, and a refusal's beside them.
use Rattle.std.specs.Prelude.{◌≡◌, ℕ, Result}
use Rattle.refusals.specs.declared.Refusal.{Refusal}
use Rattle.refusals.specs.Refusal.{number_in, part_in}
use Rattle.roots.specs.declared.answer.RootRem.{RootRem}

-- the four numbers of a full call's answer
pub record Same (a : RootRem ℕ ℕ) (root rest start steps : ℕ) : Type 0 where
  pub is_root : root ≡ a.root
  pub is_rest : rest ≡ a.rest
  pub is_start : start ≡ a.start
  pub is_steps : steps ≡ a.steps

-- those of a normalised call's, or its refusal's number and zeros
pub record Numbered (a : Result (RootRem ℕ ℕ) Refusal) (refusal root rest start steps : ℕ) : Type 0 where
  pub is_refusal : refusal ≡ number_in a
  pub is_root : root ≡ part_in (λ r. r.root) a
  pub is_rest : rest ≡ part_in (λ r. r.rest) a
  pub is_start : start ≡ part_in (λ r. r.start) a
  pub is_steps : steps ≡ part_in (λ r. r.steps) a

-- the value that was rebuilt, or its refusal's number and 0
pub record Valued (a : Result ℕ Refusal) (refusal value : ℕ) : Type 0 where
  pub is_refusal : refusal ≡ number_in a
  pub is_value : value ≡ part_in (λ v. v) a
