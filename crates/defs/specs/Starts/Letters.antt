-- What the starts' formulas share: the high half of a product, and a table's guess.
use Rattle.std.specs.Prelude.{ℕ, ◌+◌, ◌*◌, ◌/◌, ◌^◌}
use Rattle.defs.specs.Kinds.{Kind}
use Rattle.defs.specs.Tables.{entry}

-- hi(a,b) at w bits: the product's high half, a·b / 2^w
abbrev pub hi : ℕ → ℕ → ℕ → ℕ
hi w a b = a * b / 2 ^ w

-- 256 + T[i], 256 + U[i]
abbrev pub guess : Kind → ℕ → ℕ
guess k i = 256 + entry k i
