-- A reader's answer: it gives a value exactly if the text reads so, and what a loop over the digits keeps of it. Assumes nothing.
use mathlib.Core.Path.{◌≡◌, refl, ◌∙◌, ap}
use mathlib.Core.Bool.{Bool, true, false, ◌&&◌, and-false}
use mathlib.Core.List.{List, [], ◌∷◌}
use Prim.Native.Nat.{ℕ, suc, ◌+◌, ◌≤◌, ◌<◌}
use native.Mathlib.Nat.{le_trans, le_refl}
use native.Mathlib.Numerals.{add-one}
use native.Mathlib.Omega.{arith}
use lib.Dec.{leb}
use lib.ListN.{length, get_or, drop}
use lib.Seq.{drop-cons}
use borrow.Author.Tests.{leb-true, le-leb, lt-leb, leb-false}
use Rattle.std.specs.Prelude.{Option, Some, None}
use Rattle.std.specs.Bool.{then_some}
use Rattle.std.proofs.lemmas.Bool.{and_parts}
use Rattle.text.specs.Decimal.{IsDigits, pushed, value_after, value_of, text_of}
use Rattle.text.specs.Reading.{Reads, is_digit, is_digits, readable, read_of, next_of}
use Rattle.text.proofs.Texts.{value_of_text, text_digits, text_some}

-- the test on the digits is what `IsDigits` says
digits_true : (s : List ℕ) → is_digits s ≡ true → IsDigits s
digits_true [] e = tt
digits_true (b ∷ s) e =
    let d = and_parts (is_digit b) (is_digits s) e in
    let r = and_parts (leb 48 b) (leb b 57) d.0 in
    (leb-true 48 b r.0, leb-true b 57 r.1, digits_true s d.1)

true_digits : (s : List ℕ) → IsDigits s → is_digits s ≡ true
true_digits [] h = refl
true_digits (b ∷ s) h = rw (le-leb 48 b h.0, le-leb b 57 h.1) (true_digits s h.2)

-- whatever reads is answered with its value
pub accepts : {s : List ℕ} {d m v : ℕ} → Reads s d m v → read_of s d m ≡ Some v
unfolding read_of
accepts {s} {d} {m} {v} r =
    let small : value_of s ≤ m = omega (arith, r.is_value, r.small) in
    rw (le-leb 1 (length s) r.some_digit, le-leb (length s) d r.few_digits, true_digits s r.all_digits, le-leb (value_of s) m small)
    (ap (λ (n : ℕ). Some n) r.is_value)

-- a value is given where the test holds
given : (t : Bool) (v : ℕ) {w : ℕ} → then_some t v ≡ Some w → (t ≡ true) × (v ≡ w)
given true v e = (refl, cc)
given false v e = cc

-- whatever is answered with a value reads so
pub accepted : (s : List ℕ) (d m : ℕ) {v : ℕ} → read_of s d m ≡ Some v → Reads s d m v
unfolding read_of
accepted s d m e =
    let value = given (readable s d m) (value_of s) e in
    let some = and_parts (leb 1 (length s)) _ value.0 in
    let few = and_parts (leb (length s) d) _ some.1 in
    let digits = and_parts (is_digits s) _ few.1 in
    record {
      some_digit = leb-true 1 (length s) some.0;
      few_digits = leb-true (length s) d few.0;
      all_digits = digits_true s digits.0;
      is_value = value.1;
      small = omega (arith, value.1, leb-true (value_of s) m digits.1);
    }

-- the text of n reads back as n, where the bounds admit it
pub reads_back : (n d m : ℕ) → length (text_of n) ≤ d → n ≤ m → Reads (text_of n) d m n
reads_back n d m few small = record {
  some_digit = text_some n;
  few_digits = few;
  all_digits = text_digits n;
  is_value = value_of_text n;
  small = small;
}

-- a text that is too short, or too long
pub too_short : (s : List ℕ) (d m : ℕ) → length s ≡ 0 → read_of s d m ≡ None
unfolding read_of
too_short s d m h = rw (lt-leb 1 (length s) (omega arith))

pub too_long : (s : List ℕ) (d m : ℕ) → d < length s → read_of s d m ≡ None
unfolding read_of
too_long s d m h = rw (lt-leb (length s) d h, and-false (leb 1 (length s)))

-- one digit more: a byte that is none, a digit past the bound, and one that is taken
module _ (v b m : ℕ) where
  pub no_digit : is_digit b ≡ false → next_of v b m ≡ None
  unfolding next_of
  no_digit e = rw e

  pub digit_past : m < pushed v b → next_of v b m ≡ None
  unfolding next_of
  digit_past h = rw (lt-leb (pushed v b) m h, and-false (is_digit b))

  pub digit_taken : is_digit b ≡ true → next_of v b m ≡ then_some (leb (pushed v b) m) (pushed v b)
  unfolding next_of
  digit_taken e = rw e

-- what is answered, once the digits so far make v and the text s is left
abbrev going_on : ℕ → ℕ → List ℕ → Option ℕ
going_on m v s = then_some (is_digits s && leb (value_after v s) m) (value_after v s)

-- more digits never make the value smaller
grows : (v : ℕ) (s : List ℕ) → v ≤ value_after v s
grows v [] = le_refl v
grows v (b ∷ s) = le_trans {m = pushed v b} (omega arith) (grows (pushed v b) s)

-- reading goes on from the next value, or ends there
module _ (m v b : ℕ) (s : List ℕ) where
  read_on : {w : ℕ} → next_of v b m ≡ Some w → (going_on m v (b ∷ s) ≡ going_on m w s) × (w ≤ m)
  unfolding next_of
  read_on {w} e =
      let next = given (is_digit b && leb (pushed v b) m) (pushed v b) e in
      let parts = and_parts (is_digit b) _ next.0 in
      (rw (parts.0, next.1), omega (arith, next.1, leb-true (pushed v b) m parts.1))

  read_stops : next_of v b m ≡ None → going_on m v (b ∷ s) ≡ None
  unfolding next_of
  read_stops e = by_test (is_digit b) refl (leb (pushed v b) m) refl
    where
      by_test : (p : Bool) → is_digit b ≡ p → (q : Bool) → leb (pushed v b) m ≡ q → going_on m v (b ∷ s) ≡ None
      by_test false x q y = rw x
      by_test true x true y =
          let taken : Some (pushed v b) ≡ None = rw (x, y) at e in
          cc
      by_test true x false y =
          let past = grows (pushed v b) s in
          let beyond = leb-false (pushed v b) m y in
          rw (x, lt-leb (value_after (pushed v b) s) m (omega arith), and-false (is_digits s))

-- the first i bytes of s are read and make v: what is answered is what goes on from there
pub record Walk (s : List ℕ) (d m i v : ℕ) : Type 0 where
  pub small : v ≤ m
  pub is_answer : read_of s d m ≡ going_on m v (drop i s)

pub walk_begins : (s : List ℕ) (d m : ℕ) → (length s ≡ 0 → ⊥) → length s ≤ d → Walk s d m 0 0
unfolding read_of
walk_begins s d m h k = record { small = omega arith; is_answer = rw (le-leb 1 (length s) (omega arith), le-leb (length s) d k) }

-- with the byte at i read
module _ {s : List ℕ} {d m i v : ℕ} (w : Walk s d m i v) (more : i < length s) where
  split_off : read_of s d m ≡ going_on m v (get_or s i 0 ∷ drop (suc i) s)
  split_off = w.is_answer ∙ ap (going_on m v) (drop-cons s i 0 more)

  pub walk_on : {next : ℕ} → next_of v (get_or s i 0) m ≡ Some next → Walk s d m (i + 1) next
  walk_on e =
      let on = read_on m v (get_or s i 0) (drop (suc i) s) e in
      record { small = on.1; is_answer = rw add-one (split_off ∙ on.0) }

  pub walk_stops : next_of v (get_or s i 0) m ≡ None → read_of s d m ≡ None
  walk_stops e = split_off ∙ read_stops m v (get_or s i 0) (drop (suc i) s) e
