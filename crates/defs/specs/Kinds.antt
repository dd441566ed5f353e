-- The two kinds of root, and the four widths of a value.
use Rattle.std.specs.Prelude.{ℕ, ◌*◌}

-- a square root or a cube root
pub data Kind : Type 0 where
  square cube : Kind

-- the type of the value whose root is taken
pub data Width : Type 0 where
  u8 u16 u32 u64 : Width

-- the power of x that the kind speaks of: x·x, or x·x·x
abbrev pub pow : Kind → ℕ → ℕ
pow square x = x * x
pow cube x = x * x * x

-- how many factors the power has
abbrev pub degree : Kind → ℕ
degree square = 2
degree cube = 3

-- how many bits a value of the width has
abbrev pub bits_of : Width → ℕ
bits_of u8 = 8
bits_of u16 = 16
bits_of u32 = 32
bits_of u64 = 64

-- how many bits the type of its root has: u8, u8, u16, u32
abbrev pub root_bits : Width → ℕ
root_bits u8 = 8
root_bits u16 = 8
root_bits u32 = 16
root_bits u64 = 32
