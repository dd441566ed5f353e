-- Lines of bytes: a name with its `=`, a text, one newline.
use Rattle.std.specs.Prelude.{List, [], ◌∷◌, ◌++◌, ℕ}
use Rattle.defs.specs.Kinds.{Kind, square, cube, Width, bits_of}
use Rattle.text.specs.Decimal.{text_of}

-- a line, and a line that says a number
unfoldable pub line : List ℕ → List ℕ → List ℕ
line name text = name ++ (text ++ (10 ∷ []))

abbrev pub number_line : List ℕ → ℕ → List ℕ
number_line name n = line name (text_of n)

-- `width=`
abbrev pub width_name : List ℕ
width_name = 119 ∷ 105 ∷ 100 ∷ 116 ∷ 104 ∷ 61 ∷ []

-- `kind=`
abbrev pub kind_name : List ℕ
kind_name = 107 ∷ 105 ∷ 110 ∷ 100 ∷ 61 ∷ []

-- `value=`
abbrev pub value_name : List ℕ
value_name = 118 ∷ 97 ∷ 108 ∷ 117 ∷ 101 ∷ 61 ∷ []

-- `root=`
abbrev pub root_name : List ℕ
root_name = 114 ∷ 111 ∷ 111 ∷ 116 ∷ 61 ∷ []

-- `rest=`
abbrev pub rest_name : List ℕ
rest_name = 114 ∷ 101 ∷ 115 ∷ 116 ∷ 61 ∷ []

-- `start=`
abbrev pub start_name : List ℕ
start_name = 115 ∷ 116 ∷ 97 ∷ 114 ∷ 116 ∷ 61 ∷ []

-- `steps=`
abbrev pub steps_name : List ℕ
steps_name = 115 ∷ 116 ∷ 101 ∷ 112 ∷ 115 ∷ 61 ∷ []

-- `square` and `cube`
abbrev pub kind_text : Kind → List ℕ
kind_text square = 115 ∷ 113 ∷ 117 ∷ 97 ∷ 114 ∷ 101 ∷ []
kind_text cube = 99 ∷ 117 ∷ 98 ∷ 101 ∷ []

-- `bad input` and its newline
abbrev pub bad_input : List ℕ
bad_input = 98 ∷ 97 ∷ 100 ∷ 32 ∷ 105 ∷ 110 ∷ 112 ∷ 117 ∷ 116 ∷ 10 ∷ []

-- the three lines that say what was asked: width, kind and value
unfoldable pub asked_lines : Kind → Width → ℕ → List ℕ
asked_lines k w v = number_line width_name (bits_of w) ++ (line kind_name (kind_text k) ++ number_line value_name v)

-- the four lines that say what was found: root, rest, start and steps
unfoldable pub found_lines : ℕ → ℕ → ℕ → ℕ → List ℕ
found_lines root rest start steps = number_line root_name root ++ (number_line rest_name rest ++ (number_line start_name start ++ number_line steps_name steps))
