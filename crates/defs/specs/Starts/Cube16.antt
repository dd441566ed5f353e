-- Cube 16: q = n/4096, d = 16 if n ≥ 2^15, else q = n/512, d = 4; r = 256 + U[q − 8]; S = (r²/d)·n/2^24 − 1.
use Rattle.std.specs.Prelude.{Bool, cond, ℕ, ◌*◌, ◌-◌, ◌/◌, ◌^◌, leb}
use Rattle.defs.specs.Kinds.{cube}
use Rattle.defs.specs.Starts.Letters.{guess}

unfoldable pub top : ℕ → Bool
top n = leb (2 ^ 15) n

unfoldable pub q : ℕ → ℕ
q n = cond (top n) (n / 4096) (n / 512)

unfoldable pub d : ℕ → ℕ
d n = cond (top n) 16 4

unfoldable pub r : ℕ → ℕ
r n = guess cube (q n - 8)

unfoldable pub cell_start : ℕ → ℕ
cell_start n = r n * r n / d n * n / 2 ^ 24 - 1
