-- The worked answers that the scope document marks to be proved. That they hold is the theorem `marked` of the crate laws.
use Rattle.std.specs.Prelude.{List, [], ◌∷◌, ℕ}
use Rattle.defs.specs.Kinds.{Kind, square, cube, Width, u8, u16, u32, u64}

-- a call and its answer
pub record Row : Type 0 where
  pub kind : Kind
  pub width : Width
  pub value : ℕ
  pub root : ℕ
  pub rest : ℕ
  pub start : ℕ
  pub steps : ℕ

abbrev row : Kind → Width → ℕ → ℕ → ℕ → ℕ → ℕ → Row
row k w n root rest start steps = record { kind = k; width = w; value = n; root = root; rest = rest; start = start; steps = steps }

unfoldable pub rows : List Row
rows =
    row square u8 255 15 30 0 15 ∷
    row cube u8 255 6 39 0 6 ∷
    row square u16 16900 130 0 127 3 ∷
    row square u16 65535 255 510 255 0 ∷
    row cube u16 32768 32 0 29 3 ∷
    row cube u16 8192 20 192 18 2 ∷
    row square u32 1073741824 32768 0 32766 2 ∷
    row square u32 4294770688 65534 65532 65534 0 ∷
    row square u32 4294967295 65535 131070 65535 0 ∷
    row cube u32 1073741824 1024 0 1021 3 ∷
    row cube u64 9223372036854775808 2097152 0 2097147 5 ∷
    row cube u64 10376279628611328125 2181125 0 2181119 6 ∷
    []
