-- What the result of a batch stands for, in numbers: definitions alone.
use Rattle.std.specs.Prelude.{◌≡◌, ℕ, Result}
use Rattle.std.specs.Result.{result_unwrap_or}
use Rattle.refusals.specs.declared.Refusal.{Refusal}
use Rattle.refusals.specs.Refusal.{number_in}
use Rattle.batch.specs.declared.run.Finished.{Finished}

-- what was done and spent: nothing where the batch was refused
abbrev pub finished_in : Result Finished Refusal → Finished
finished_in result = result_unwrap_or result (record { done = 0; spent = 0 })

-- the three numbers of a result, as C is given them
pub record InNumbers (result : Result Finished Refusal) (refusal done spent : ℕ) : Type 0 where
  pub is_refusal : refusal ≡ number_in result
  pub is_done : done ≡ (finished_in result).done
  pub is_spent : spent ≡ (finished_in result).spent
