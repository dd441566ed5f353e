-- Square 16: r = 256 + T[n/512 − 32]; S = r·n/2^16 − 1.
use Rattle.std.specs.Prelude.{ℕ, ◌*◌, ◌-◌, ◌/◌, ◌^◌}
use Rattle.defs.specs.Kinds.{square}
use Rattle.defs.specs.Starts.Letters.{guess}

unfoldable pub r : ℕ → ℕ
r n = guess square (n / 512 - 32)

unfoldable pub cell_start : ℕ → ℕ
cell_start n = r n * n / 2 ^ 16 - 1
