-- Square 64: h = n/2^32; p = 256 + T[h/2^25 − 32]; x = 3p·2^21 − hi(h, 32p³); t = 3·2^28 − hi(x, hi(x, h));
-- r = 16·hi(x, t); a = 2·hi(r, h) − 10; S = a + hi((n − a²)/2^32, r).
use Rattle.std.specs.Prelude.{ℕ, ◌+◌, ◌*◌, ◌-◌, ◌/◌, ◌^◌}
use Rattle.defs.specs.Kinds.{square}
use Rattle.defs.specs.Starts.Letters.{hi, guess}

unfoldable pub h : ℕ → ℕ
h n = n / 2 ^ 32

unfoldable pub p : ℕ → ℕ
p n = guess square (h n / 2 ^ 25 - 32)

unfoldable pub x : ℕ → ℕ
x n = 3 * p n * 2 ^ 21 - hi 32 (h n) (32 * (p n * p n * p n))

unfoldable pub t : ℕ → ℕ
t n = 3 * 2 ^ 28 - hi 32 (x n) (hi 32 (x n) (h n))

unfoldable pub r : ℕ → ℕ
r n = 16 * hi 32 (x n) (t n)

unfoldable pub a : ℕ → ℕ
a n = 2 * hi 32 (r n) (h n) - 10

unfoldable pub cell_start : ℕ → ℕ
cell_start n = a n + hi 32 ((n - a n * a n) / 2 ^ 32) (r n)
