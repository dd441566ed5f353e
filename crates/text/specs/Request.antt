-- The request of the program `root`: `square` or `cube`, one space, 1 to 10 digits that make at most 4294967295, one newline, nothing else.
use Rattle.std.specs.Prelude.{◌≡◌, cond, List, [], ◌∷◌, ◌++◌, ℕ, ◌-◌, nat_eq, length, take, drop, Option, None}
use Rattle.std.specs.List.{starts_with, ends_with}
use Rattle.std.specs.Option.{option_or, option_map}
use Rattle.defs.specs.Kinds.{Kind, square, cube}
use Rattle.text.specs.Reading.{Reads, read_of}
use Rattle.values.specs.declared.kind.Kind.{Kind as Named}
use Rattle.values.specs.declared.kind.Kind.TheVariants.{Square, Cube}
use Rattle.text.specs.declared.request.Request.{Request}

-- `square ` and `cube `, each with its space
abbrev pub word_of : Kind → List ℕ
word_of square = 115 ∷ 113 ∷ 117 ∷ 97 ∷ 114 ∷ 101 ∷ 32 ∷ []
word_of cube = 99 ∷ 117 ∷ 98 ∷ 101 ∷ 32 ∷ []

-- the number of a request: 1 to 10 digits that make at most 4294967295
abbrev pub Number : List ℕ → ℕ → Type 0
Number s v = Reads s 10 4294967295 v

-- what a reader of that number answers
abbrev pub number_of : List ℕ → Option ℕ
number_of s = read_of s 10 4294967295

-- the byte that ends a line
abbrev pub newline : List ℕ
newline = 10 ∷ []

-- the input asks for the root of the kind of the value v
pub record Asks (k : Kind) (v : ℕ) (s : List ℕ) : Type 0 where
  pub digits : List ℕ
  pub reads : Number digits v
  pub whole : s ≡ word_of k ++ (digits ++ newline)

-- a request for the root of the kind of the value
abbrev pub good : Named → ℕ → Request
good k v = record { kind = k; value = v }

-- what the text behind the word asks: its last byte is a newline, and those before it are read
unfoldable pub line_of : Named → List ℕ → Option Request
line_of k t = cond (ends_with nat_eq t newline) (option_map (good k) (number_of (take (length t - 1) t))) None

-- what the whole input asks, if it starts with the word of the kind
unfoldable pub asked_of : List ℕ → Named → List ℕ → Option Request
asked_of word k s = cond (starts_with nat_eq s word) (line_of k (drop (length word) s)) None

-- what the whole input asks. That it gives the kind and the value exactly if the input `Asks` for them are the theorems `answers` and `asks`
unfoldable pub request_of : List ℕ → Option Request
request_of s = option_or (asked_of (word_of square) Square s) (asked_of (word_of cube) Cube s)
