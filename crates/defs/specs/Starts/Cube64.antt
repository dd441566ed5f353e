-- Cube 64: if n ≥ 2^63, g = n/2^35, else g = n/2^32; p = 256 + U[g/2^25 − 8]; x = p·((2^25 − hi(g, p³))/3);
-- t = 2^30 − hi(x, hi(x, hi(x, g))); r = hi(x, t)/3, halved if n ≥ 2^63, then less 1; S = hi(r, hi(r, n/2^32)).
use Rattle.std.specs.Prelude.{Bool, cond, ℕ, ◌*◌, ◌-◌, ◌/◌, ◌^◌, leb}
use Rattle.defs.specs.Kinds.{cube}
use Rattle.defs.specs.Starts.Letters.{hi, guess}

unfoldable pub top : ℕ → Bool
top n = leb (2 ^ 63) n

unfoldable pub g : ℕ → ℕ
g n = cond (top n) (n / 2 ^ 35) (n / 2 ^ 32)

unfoldable pub p : ℕ → ℕ
p n = guess cube (g n / 2 ^ 25 - 8)

unfoldable pub x : ℕ → ℕ
x n = p n * ((2 ^ 25 - hi 32 (g n) (p n * p n * p n)) / 3)

unfoldable pub t : ℕ → ℕ
t n = 2 ^ 30 - hi 32 (x n) (hi 32 (x n) (hi 32 (x n) (g n)))

-- r before it is halved
unfoldable pub y : ℕ → ℕ
y n = hi 32 (x n) (t n) / 3

unfoldable pub r : ℕ → ℕ
r n = cond (top n) (y n / 2) (y n) - 1

unfoldable pub cell_start : ℕ → ℕ
cell_start n = hi 32 (r n) (hi 32 (r n) (n / 2 ^ 32))
