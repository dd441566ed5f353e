-- The two tables of first guesses, copied from the Rust entry by entry: T for squares (96), U for cubes (56).
use Rattle.std.specs.Prelude.{List, [], ◌∷◌, ℕ, ◌+◌, ◌*◌, ◌^◌, ◌≤◌, get_or}
use Rattle.defs.specs.Kinds.{Kind, square, cube, pow}

-- `RSQRT_TAB`
unfoldable pub rsqrt_tab : List ℕ
rsqrt_tab =
    252 ∷ 244 ∷ 237 ∷ 230 ∷ 223 ∷ 217 ∷ 211 ∷ 205 ∷ 199 ∷ 194 ∷ 188 ∷ 183 ∷ 178 ∷ 173 ∷ 169 ∷ 164 ∷
    160 ∷ 156 ∷ 152 ∷ 148 ∷ 144 ∷ 140 ∷ 136 ∷ 133 ∷ 129 ∷ 126 ∷ 123 ∷ 119 ∷ 116 ∷ 113 ∷ 110 ∷ 107 ∷
    105 ∷ 102 ∷ 99 ∷ 97 ∷ 94 ∷ 91 ∷ 89 ∷ 87 ∷ 84 ∷ 82 ∷ 80 ∷ 77 ∷ 75 ∷ 73 ∷ 71 ∷ 69 ∷
    67 ∷ 65 ∷ 63 ∷ 61 ∷ 59 ∷ 57 ∷ 55 ∷ 54 ∷ 52 ∷ 50 ∷ 48 ∷ 47 ∷ 45 ∷ 44 ∷ 42 ∷ 40 ∷
    39 ∷ 37 ∷ 36 ∷ 34 ∷ 33 ∷ 31 ∷ 30 ∷ 29 ∷ 27 ∷ 26 ∷ 25 ∷ 23 ∷ 22 ∷ 21 ∷ 20 ∷ 18 ∷
    17 ∷ 16 ∷ 15 ∷ 13 ∷ 12 ∷ 11 ∷ 10 ∷ 9 ∷ 8 ∷ 7 ∷ 6 ∷ 5 ∷ 4 ∷ 3 ∷ 2 ∷ 1 ∷ []

-- `RCBRT_TAB`
unfoldable pub rcbrt_tab : List ℕ
rcbrt_tab =
    246 ∷ 228 ∷ 212 ∷ 198 ∷ 185 ∷ 174 ∷ 164 ∷ 155 ∷ 146 ∷ 138 ∷ 131 ∷ 124 ∷ 118 ∷ 112 ∷ 107 ∷ 102 ∷
    97 ∷ 92 ∷ 87 ∷ 83 ∷ 79 ∷ 75 ∷ 72 ∷ 68 ∷ 65 ∷ 62 ∷ 59 ∷ 56 ∷ 53 ∷ 50 ∷ 47 ∷ 45 ∷
    42 ∷ 40 ∷ 37 ∷ 35 ∷ 33 ∷ 31 ∷ 29 ∷ 27 ∷ 25 ∷ 23 ∷ 21 ∷ 19 ∷ 17 ∷ 16 ∷ 14 ∷ 12 ∷
    11 ∷ 9 ∷ 8 ∷ 6 ∷ 5 ∷ 3 ∷ 2 ∷ 1 ∷ []

-- the table of a kind
abbrev pub table_of : Kind → List ℕ
table_of square = rsqrt_tab
table_of cube = rcbrt_tab

-- T[i] and U[i], and 0 past the table's end
abbrev pub entry : Kind → ℕ → ℕ
entry k i = get_or (table_of k) i 0

-- the number that entry 0 stands for: the least n / 512 of a normalised 16-bit value
abbrev pub first_of : Kind → ℕ
first_of square = 32
first_of cube = 8

-- 2^23 for T, 2^30 for U: what the power of 256 + entry times that number comes near to
abbrev pub target : Kind → ℕ
target square = 2 ^ 23
target cube = 2 ^ 30

-- the table rule: with r = 256 + entry i, r²·(32+i) ≤ 2^23 ≤ r²·(33+i) for T, and r³·(8+i) ≤ 2^30 ≤ r³·(9+i) for U
pub record Bracketed (k : Kind) (i e : ℕ) : Type 0 where
  pub below : pow k (256 + e) * (first_of k + i) ≤ target k
  pub above : target k ≤ pow k (256 + e) * (first_of k + 1 + i)
