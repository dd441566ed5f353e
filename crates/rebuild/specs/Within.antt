-- A power and a remainder put together, within a limit for the remainder and a top for their sum.
use Rattle.std.specs.Prelude.{◌≡◌, ℕ, suc, ◌+◌, ◌≤◌, ◌<◌}
use Rattle.defs.specs.Refusals.{no_refusal, rest_beyond, value_beyond}

-- refusal 5 for a remainder above its limit, then 6 for a sum above the top, else the sum
pub record Within (power limit rest top refusal value : ℕ) : Type 0 where
  pub if_rest_beyond : limit < rest → (refusal ≡ rest_beyond) × (value ≡ 0)
  pub if_value_beyond : rest ≤ limit → suc top ≤ power + rest → (refusal ≡ value_beyond) × (value ≡ 0)
  pub adds : rest ≤ limit → power + rest < suc top → (refusal ≡ no_refusal) × (value ≡ power + rest)
  -- which follows, and is what a narrower width asks
  pub at_most : value ≤ top
