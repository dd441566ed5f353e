-- Numbers as decimal text: a text is a list of bytes, and a digit is one of the bytes 48 to 57.
use Rattle.std.specs.Prelude.{true, false, List, [], ◌∷◌, ◌++◌, ℕ, zero, suc, ◌+◌, ◌*◌, ◌-◌, ◌/◌, ◌%◌, ◌≤◌, ltb}

-- every byte of the text is a digit
abbrev pub IsDigits : List ℕ → Type 0
IsDigits [] = Unit {0}
IsDigits (b ∷ s) = (48 ≤ b) × (b ≤ 57) × IsDigits s

-- the value v with one digit behind it
abbrev pub pushed : ℕ → ℕ → ℕ
pushed v b = 10 * v + (b - 48)

-- the value v with the digits of a text behind it
abbrev pub value_after : ℕ → List ℕ → ℕ
value_after v [] = v
value_after v (b ∷ s) = value_after (pushed v b) s

-- the value of a text of digits, the most significant first
abbrev pub value_of : List ℕ → ℕ
value_of s = value_after 0 s

-- the digits of n, of at most so many places: a number below 10 is one digit, any other the digits of n / 10 and its last digit
unfoldable pub text_within : ℕ → ℕ → List ℕ
text_within zero n = []
text_within (suc places) n = elim (ltb n 10) [ true ↦ (48 + n) ∷ [] | false ↦ text_within places (n / 10) ++ ((48 + n % 10) ∷ []) ]

-- the digits of n without leading zeros, the most significant first; n + 1 places are enough for any n
unfoldable pub text_of : ℕ → List ℕ
text_of n = text_within (suc n) n
