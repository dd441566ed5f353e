-- Cube 32: if n ≥ 2^30, g = n/2^19, else g = n/2^16; p = 256 + U[g/256 − 8]; t = 8192 − g·(p³/2^11)/2^16;
-- r = (p·t/3)/16, halved if n ≥ 2^30, then less 10; S = (r·(r·(n/2^16)/2^16)/2^16)/4.
use Rattle.std.specs.Prelude.{Bool, cond, ℕ, ◌*◌, ◌-◌, ◌/◌, ◌^◌, leb}
use Rattle.defs.specs.Kinds.{cube}
use Rattle.defs.specs.Starts.Letters.{guess}

unfoldable pub top : ℕ → Bool
top n = leb (2 ^ 30) n

unfoldable pub g : ℕ → ℕ
g n = cond (top n) (n / 2 ^ 19) (n / 2 ^ 16)

unfoldable pub p : ℕ → ℕ
p n = guess cube (g n / 256 - 8)

unfoldable pub t : ℕ → ℕ
t n = 8192 - g n * (p n * p n * p n / 2 ^ 11) / 2 ^ 16

-- r before it is halved
unfoldable pub y : ℕ → ℕ
y n = p n * t n / 3 / 16

unfoldable pub r : ℕ → ℕ
r n = cond (top n) (y n / 2) (y n) - 10

unfoldable pub cell_start : ℕ → ℕ
cell_start n = r n * (r n * (n / 2 ^ 16) / 2 ^ 16) / 2 ^ 16 / 4
