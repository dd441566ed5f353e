-- What is shown of a start s of n: it is not above the root, and the root is at most m steps away.
use Rattle.std.specs.Prelude.{ℕ, ◌+◌, ◌≤◌, ◌<◌}
use Rattle.defs.specs.Kinds.{Kind, pow}

-- the power of s is at most n, and that of s + m + 1 is above it
pub record Near (k : Kind) (m n s : ℕ) : Type 0 where
  pub low : pow k s ≤ n
  pub high : n < pow k (s + m + 1)
