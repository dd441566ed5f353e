-- The numbers of the refusals, and the number of an answer that is none.
use Rattle.std.specs.Prelude.{ℕ}

-- not refused
abbrev pub no_refusal : ℕ
no_refusal = 0

-- a normalised call, and n is below the bound
abbrev pub not_normalised : ℕ
not_normalised = 1

-- `first` is above the value slice's length
abbrev pub first_beyond : ℕ
first_beyond = 2

-- `count` is above that length less `first`
abbrev pub count_beyond : ℕ
count_beyond = 3

-- the two slices' lengths differ
abbrev pub lengths_differ : ℕ
lengths_differ = 4

-- the remainder is above 2r, or 3r² + 3r: no root's answer
abbrev pub rest_beyond : ℕ
rest_beyond = 5

-- the rebuilt value is above the width's maximum
abbrev pub value_beyond : ℕ
value_beyond = 6
