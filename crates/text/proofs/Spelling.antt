-- The digits of a number put down from the last to the first: what the loop keeps, and how it ends. Assumes nothing.
use mathlib.Core.Path.{◌≡◌, sym, ◌∙◌, ap}
use mathlib.Core.List.{List, [], ◌∷◌, ◌++◌, append_assoc}
use Prim.Native.Nat.{ℕ, suc, ◌+◌, ◌-◌, ◌/◌, ◌%◌, ◌^◌, ◌≤◌, ◌<◌}
use native.Mathlib.Omega.{arith}
use lib.ListN.{length, drop, set, length-append, length-drop, length-set}
use lib.Seq.{drop-cons, get_or-set_same, drop-set-lt, lt-length-set}
use Rattle.text.specs.Decimal.{text_of}
use Rattle.text.proofs.Texts.{text_short, text_long, text_some, text_length_64}

-- the digits from `from` on are the last of n, and those of `rest` are left
pub record Spelled (n : ℕ) (text : List ℕ) (from rest : ℕ) : Type 0 where
  pub is_long : length text ≡ 20
  pub in_text : from ≤ 20
  pub so_far : text_of rest ++ drop from text ≡ text_of n

-- there is room for one more digit
pub spell_room : {n : ℕ} {text : List ℕ} {from rest : ℕ} → n < 2 ^ 64 → Spelled n text from rest → 1 ≤ from
spell_room {n} {text} {from} {rest} h s =
    omega (arith, s.is_long, s.in_text, text_some rest, text_length_64 n h, simp (length-append, length-drop) at (ap length s.so_far))

-- a digit stored in front of the others
stored : (text : List ℕ) (from d : ℕ) → 1 ≤ from → from ≤ length text → drop (from - 1) (set text (from - 1) d) ≡ d ∷ drop from text
stored text from d h k =
    let j : ℕ = from - 1 in
    let inside : j < length text = omega arith in
    let next : suc j ≡ from = omega arith in
    drop-cons (set text j d) j 0 (lt-length-set text j d inside)
    ∙ rw (get_or-set_same text j d 0 inside, drop-set-lt (suc j) text j d (omega arith), next)

-- with the last digit of `rest` put in front: where others are left, it goes on with them; where none is, these are the digits of n
module _ {n : ℕ} {text : List ℕ} {from rest d : ℕ} (small : n < 2 ^ 64) (e : d ≡ 48 + rest % 10) (s : Spelled n text from rest) where
  next : drop (from - 1) (set text (from - 1) d) ≡ (48 + rest % 10) ∷ drop from text
  next = rw e (stored text from (48 + rest % 10) (spell_room small s) (omega (arith, s.is_long, s.in_text)))

  pub spell_on : (rest / 10 ≡ 0 → ⊥) → Spelled n (set text (from - 1) d) (from - 1) (rest / 10)
  spell_on more = record {
    is_long = length-set text (from - 1) _ ∙ s.is_long;
    in_text = omega (arith, s.in_text);
    so_far = rw next
        (sym (append_assoc (text_of (rest / 10)) ((48 + rest % 10) ∷ []) (drop from text))
        ∙ ap (λ (l : List ℕ). l ++ drop from text) (sym (text_long rest (omega arith)))
        ∙ s.so_far);
  }

  pub spell_ends : rest / 10 ≡ 0 → (from - 1 ≤ 20) × (drop (from - 1) (set text (from - 1) d) ≡ text_of n)
  spell_ends none =
      let last : rest % 10 ≡ rest = omega arith in
      (omega (arith, s.in_text), next ∙ rw last (ap (λ (l : List ℕ). l ++ drop from text) (sym (text_short rest (omega arith))) ∙ s.so_far))
