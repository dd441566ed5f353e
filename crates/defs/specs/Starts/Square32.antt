-- Square 32: h = n/2^16; p = 256 + T[h/512 − 32]; r = 2·(96p − p³·n/2^43); a = min(2·(r·h/2^16), 65535) − 4;
-- S = a + ((n − a²)/2^16)·r/2^16.
use Rattle.std.specs.Prelude.{ℕ, ◌+◌, ◌*◌, ◌-◌, ◌/◌, ◌^◌, min}
use Rattle.defs.specs.Kinds.{square}
use Rattle.defs.specs.Starts.Letters.{guess}

unfoldable pub h : ℕ → ℕ
h n = n / 2 ^ 16

unfoldable pub p : ℕ → ℕ
p n = guess square (h n / 512 - 32)

unfoldable pub r : ℕ → ℕ
r n = 2 * (96 * p n - p n * p n * p n * n / 2 ^ 43)

unfoldable pub a : ℕ → ℕ
a n = min (2 * (r n * h n / 2 ^ 16)) 65535 - 4

unfoldable pub cell_start : ℕ → ℕ
cell_start n = a n + (n - a n * a n) / 2 ^ 16 * r n / 2 ^ 16
