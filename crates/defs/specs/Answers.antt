-- What the calls answer, for every value: the promises that the contracts cite.
use Rattle.std.specs.Prelude.{◌≡◌, ℕ, ◌+◌, ◌≤◌, ◌<◌}
use Rattle.defs.specs.Kinds.{Kind, Width}
use Rattle.defs.specs.Roots.{RootRem}
use Rattle.defs.specs.Cells.{bound, ceiling, start_of, steps_of, full_start, full_steps}
use Rattle.defs.specs.Refusals.{no_refusal, not_normalised}

-- a full call: root and rest of n, and the start and the steps of its normalised call, unshifted
pub record Full (k : Kind) (w : Width) (n root rest start steps : ℕ) : Type 0 where
  pub root_rem : RootRem k n root rest
  pub is_start : start ≡ full_start k w n
  pub is_steps : steps ≡ full_steps k w n

-- a normalised call that answers: root and rest of n, its start, and its steps, which lead from the start to the root and are at most
-- the ceiling
pub record Answered (k : Kind) (w : Width) (n refusal root rest start steps : ℕ) : Type 0 where
  pub not_refused : refusal ≡ no_refusal
  pub root_rem : RootRem k n root rest
  pub is_start : start ≡ start_of k w n
  pub is_steps : steps ≡ steps_of k w n
  pub counted : start + steps ≡ root
  pub in_ceiling : steps ≤ ceiling k w

-- a normalised call that refuses: its number, and zeros
pub record Refused (number refusal root rest start steps : ℕ) : Type 0 where
  pub is_number : refusal ≡ number
  pub no_root : root ≡ 0
  pub no_rest : rest ≡ 0
  pub no_start : start ≡ 0
  pub no_steps : steps ≡ 0

-- a normalised call: it refuses a value below the bound, and answers from the bound on
pub record Normalised (k : Kind) (w : Width) (n refusal root rest start steps : ℕ) : Type 0 where
  pub below_bound : n < bound k w → Refused not_normalised refusal root rest start steps
  pub from_bound : bound k w ≤ n → Answered k w n refusal root rest start steps
