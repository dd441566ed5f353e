-- Inputs that are near a good request and are none. That none of them is answered is the theorem `all_bad`.
use Rattle.std.specs.Prelude.{List, [], ◌∷◌, ◌++◌, ℕ, ◌-◌, length, get_or, take, drop, replicate}
use Rattle.defs.specs.Kinds.{Kind}
use Rattle.text.specs.Decimal.{text_of}
use Rattle.text.specs.Request.{word_of, newline}

-- the word of the kind and its space, some text, and a newline
abbrev asking : Kind → List ℕ → List ℕ
asking k text = word_of k ++ (text ++ newline)

-- in this order: nothing; no newline; two newlines; a space after the newline; a carriage return; two spaces; a tab for the space; no digits;
-- eleven zeros; eleven digits; a value too great, by one and by much; two signs; a NUL; a capital
unfoldable pub bad_inputs : Kind → List (List ℕ)
bad_inputs k =
    [] ∷
    (word_of k ++ text_of 4) ∷
    (asking k (text_of 4) ++ newline) ∷
    (asking k (text_of 4) ++ (32 ∷ [])) ∷
    asking k (text_of 4 ++ (13 ∷ [])) ∷
    asking k (32 ∷ text_of 4) ∷
    (take (length (word_of k) - 1) (word_of k) ++ (9 ∷ text_of 4 ++ newline)) ∷
    asking k [] ∷
    asking k (replicate 11 48) ∷
    asking k (text_of 10000000000) ∷
    asking k (text_of 4294967296) ∷
    asking k (text_of 9999999999) ∷
    asking k (43 ∷ text_of 4) ∷
    asking k (45 ∷ text_of 4) ∷
    asking k (text_of 4 ++ (0 ∷ [])) ∷
    ((get_or (word_of k) 0 0 - 32) ∷ drop 1 (asking k (text_of 4))) ∷
    []
