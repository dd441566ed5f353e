-- Reading a decimal number: which texts are read, and what a reader answers.
use Rattle.std.specs.Prelude.{◌≡◌, Bool, true, ◌&&◌, List, [], ◌∷◌, ℕ, ◌≤◌, leb, length, Option}
use Rattle.std.specs.Bool.{then_some}
use Rattle.text.specs.Decimal.{IsDigits, pushed, value_of}

-- the text is 1 to d digits, leading zeros counted, whose value v is at most m
pub record Reads (s : List ℕ) (d m v : ℕ) : Type 0 where
  pub some_digit : 1 ≤ length s
  pub few_digits : length s ≤ d
  pub all_digits : IsDigits s
  pub is_value : value_of s ≡ v
  pub small : v ≤ m

-- the byte is a digit, as a test
abbrev pub is_digit : ℕ → Bool
is_digit b = leb 48 b && leb b 57

-- every byte of the text is a digit, as a test
abbrev pub is_digits : List ℕ → Bool
is_digits [] = true
is_digits (b ∷ s) = is_digit b && is_digits s

-- the text is 1 to d digits whose value is at most m, as a test
abbrev pub readable : List ℕ → ℕ → ℕ → Bool
readable s d m = leb 1 (length s) && (leb (length s) d && (is_digits s && leb (value_of s) m))

-- what a reader answers. That it gives the value v exactly if the text `Reads` with v are the theorems `accepts` and `accepted`
unfoldable pub read_of : List ℕ → ℕ → ℕ → Option ℕ
read_of s d m = then_some (readable s d m) (value_of s)

-- the value v with one digit more behind it, if the byte is a digit and the new value is at most m
unfoldable pub next_of : ℕ → ℕ → ℕ → Option ℕ
next_of v b m = then_some (is_digit b && leb (pushed v b) m) (pushed v b)
