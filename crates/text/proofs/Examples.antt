-- Each of the inputs that are near a good request is answered by none: one list, one statement. Assumes nothing.
use mathlib.Core.Path.{◌≡◌, refl}
use mathlib.Core.Bool.{Bool, true, ◌&&◌}
use mathlib.Core.List.{List, [], ◌∷◌}
use Prim.Native.Nat.{ℕ}
use Rattle.std.specs.Prelude.{Option, Some, None, is_none}
use Rattle.std.proofs.lemmas.Bool.{and_parts}
use Rattle.defs.specs.Kinds.{Kind, square, cube}
use Rattle.text.specs.Decimal.{text_within, text_of}
use Rattle.text.specs.Reading.{read_of}
use Rattle.text.specs.Request.{line_of, asked_of, request_of}
use Rattle.text.specs.Examples.{bad_inputs}
use Rattle.text.specs.declared.request.Request.{Request}

abbrev none_good : List (List ℕ) → Bool
none_good [] = true
none_good (s ∷ inputs) = is_none (request_of s) && none_good inputs

abbrev pub AllBad : List (List ℕ) → Type 0
AllBad [] = Unit {0}
AllBad (s ∷ inputs) = (request_of s ≡ None) × AllBad inputs

none_from : (r : Option Request) → is_none r ≡ true → r ≡ None
none_from None e = refl
none_from (Some q) e = cc

to_all : (inputs : List (List ℕ)) → none_good inputs ≡ true → AllBad inputs
to_all [] e = tt
to_all (s ∷ inputs) e =
    let parts = and_parts (is_none (request_of s)) (none_good inputs) e in
    (none_from (request_of s) parts.0, to_all inputs parts.1)

tested : (k : Kind) → none_good (bad_inputs k) ≡ true
unfolding bad_inputs text_within text_of read_of line_of asked_of request_of
tested square = refl
tested cube = refl

pub all_bad : (k : Kind) → AllBad (bad_inputs k)
all_bad k = to_all (bad_inputs k) (tested k)
