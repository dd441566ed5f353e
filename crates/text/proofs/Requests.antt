-- What a text asks behind its word and before its newline, and where it asks nothing. Assumes nothing.
use mathlib.Core.Path.{◌≡◌, refl, ap}
use mathlib.Core.Bool.{true, false}
use mathlib.Core.List.{List, ◌++◌}
use Prim.Native.Nat.{ℕ, ◌-◌}
use native.Mathlib.Omega.{arith}
use lib.ListN.{length, length-append, take, drop}
use lib.Seq.{drop-append_seam, take-append_seam}
use Rattle.std.specs.Prelude.{None, nat_eq}
use Rattle.std.specs.List.{starts_with, ends_with}
use Rattle.std.specs.Option.{option_map}
use Rattle.std.proofs.Math.Seq.{take-length}
use Rattle.std.proofs.lemmas.List.{length-drop}
use Rattle.std.proofs.lemmas.Bool.{false_from_ne_true}
use Rattle.std.proofs.lemmas.Bool.Decides.{Decides-eqb}
use Rattle.std.proofs.lemmas.Slice.Eq.{starts_is, ends_is}
use Rattle.text.specs.Request.{newline, number_of, good, line_of, asked_of}
use Rattle.values.specs.declared.kind.Kind.{Kind as Named}

module _ (word : List ℕ) (k : Named) where
  -- what stands behind the word is the line
  pub behind_word : {s : List ℕ} (t : List ℕ) → s ≡ word ++ t → asked_of word k s ≡ line_of k t
  unfolding asked_of
  behind_word {s} t e = rw ((starts_is Decides-eqb s word _ refl).1 t e, e, drop-append_seam word t)

  -- of a text that starts with the word it is the rest, as a slice from the word's end on has it
  pub left_by_word : (s : List ℕ) → starts_with nat_eq s word ≡ true →
      asked_of word k s ≡ line_of k (take (length s - length word) (drop (length word) s))
  unfolding asked_of
  left_by_word s e = rw (e, ← length-drop (length word) s, take-length (drop (length word) s))

  -- a text without the word in front asks nothing
  pub no_word : (s : List ℕ) → starts_with nat_eq s word ≡ false → asked_of word k s ≡ None
  unfolding asked_of
  no_word s e = rw e

module _ (k : Named) where
  -- what stands before the newline is the number
  pub before_newline : {t : List ℕ} (digits : List ℕ) → t ≡ digits ++ newline → line_of k t ≡ option_map (good k) (number_of digits)
  unfolding line_of
  before_newline {t} digits e =
      let long : length t - 1 ≡ length digits = omega (arith, length-append digits newline, ap length e) in
      rw ((ends_is Decides-eqb t newline _ refl).1 digits e, long, e, take-append_seam digits newline)

  -- a line without a newline at its end asks nothing
  pub no_newline : (t : List ℕ) → ((digits : List ℕ) → t ≡ digits ++ newline → ⊥) → line_of k t ≡ None
  unfolding line_of
  no_newline t none = rw (false_from_ne_true (ends_with nat_eq t newline) (λ e. none _ ((ends_is Decides-eqb t newline _ refl).0 e)))
