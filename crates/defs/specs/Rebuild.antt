-- Rebuilding a value from a root and a remainder.
use Rattle.std.specs.Prelude.{◌≡◌, ℕ, ◌+◌, ◌*◌, ◌^◌, ◌≤◌, ◌<◌}
use Rattle.defs.specs.Kinds.{Kind, square, cube, Width, pow, bits_of}
use Rattle.defs.specs.Refusals.{no_refusal, rest_beyond, value_beyond}

-- the largest remainder that a root can have: 2r, or 3r² + 3r
abbrev pub rest_limit : Kind → ℕ → ℕ
rest_limit square r = 2 * r
rest_limit cube r = 3 * (r * r) + 3 * r

-- a call that rebuilds: refusal 5 for a remainder above the limit, then 6 for a value above the width's maximum, else the value
pub record Rebuilt (k : Kind) (w : Width) (root rest refusal value : ℕ) : Type 0 where
  pub if_rest_beyond : rest_limit k root < rest → (refusal ≡ rest_beyond) × (value ≡ 0)
  pub if_value_beyond : rest ≤ rest_limit k root → 2 ^ bits_of w ≤ pow k root + rest → (refusal ≡ value_beyond) × (value ≡ 0)
  pub rebuilds : rest ≤ rest_limit k root → pow k root + rest < 2 ^ bits_of w → (refusal ≡ no_refusal) × (value ≡ pow k root + rest)
