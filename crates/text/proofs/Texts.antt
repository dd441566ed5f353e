-- Laws on `text_of`: its value, its digits, no leading zero, and how long it is. Assumes nothing.
use mathlib.Core.Path.{◌≡◌, refl, sym, ◌∙◌, ap}
use mathlib.Core.Bool.{Bool, true, false}
use mathlib.Core.List.{List, [], ◌∷◌, ◌++◌, append_assoc, append-nil}
use Prim.Native.Nat.{ℕ, zero, suc, ◌+◌, ◌/◌, ◌%◌, ◌^◌, ◌≤◌, ◌<◌}
use native.Mathlib.Nat.{div-lt_self, div-add-mod, mod-lt, div-lt_iff_lt-mul, not-suc-le-zero, lt_of_lt_of_le, pow-suc}
use native.Mathlib.Omega.{arith}
use lib.Dec.{ltb, lit<, lit≤}
use lib.ListN.{length, get_or, length-append, get_or-append}
use borrow.Author.Tests.{ltb-true, ltb-false, lt-ltb, le-ltb}
use Rattle.text.specs.Decimal.{IsDigits, pushed, value_after, value_of, text_within, text_of}

tenth : {n : ℕ} → 10 ≤ n → n / 10 < n
tenth {n} h = div-lt_self {n = n} {k = 10} (omega arith) (lit< tt)

-- any number of places above n gives the same text
enough : (p q n : ℕ) → n < p → n < q → text_within p n ≡ text_within q n
unfolding text_within
enough zero q n h k = absurd (not-suc-le-zero h)
enough (suc p) zero n h k = absurd (not-suc-le-zero k)
enough (suc p) (suc q) n h k = by_test (enough p q (n / 10)) (ltb n 10) refl
  where
    by_test : (n / 10 < p → n / 10 < q → text_within p (n / 10) ≡ text_within q (n / 10)) →
        (t : Bool) → ltb n 10 ≡ t → text_within (suc p) n ≡ text_within (suc q) n
    by_test same true e = rw (e, text_within)
    by_test same false e =
        let t = tenth (ltb-false n 10 e) in
        rw (e, text_within, same (omega arith) (omega arith))

pub text_short : (n : ℕ) → n < 10 → text_of n ≡ (48 + n) ∷ []
unfolding text_of text_within
text_short n h = rw (lt-ltb n 10 h, text_within)

pub text_long : (n : ℕ) → 10 ≤ n → text_of n ≡ text_of (n / 10) ++ ((48 + n % 10) ∷ [])
unfolding text_of text_within
text_long n h =
    let t = tenth h in
    rw (le-ltb n 10 h, text_within, enough n (suc (n / 10)) (n / 10) t (omega arith))

-- what holds below 10, and of n where it holds of n / 10, holds of every number
module _ (P : ℕ → Type 0) (short : (n : ℕ) → n < 10 → P n) (long : (n : ℕ) → 10 ≤ n → P (n / 10) → P n) where
  within : (places n : ℕ) → n < places → P n
  within zero n h = absurd (not-suc-le-zero h)
  within (suc places) n h = by_test (within places (n / 10)) (ltb n 10) refl
    where
      by_test : (n / 10 < places → P (n / 10)) → (t : Bool) → ltb n 10 ≡ t → P n
      by_test below true e = short n (ltb-true n 10 e)
      by_test below false e =
          let t = tenth (ltb-false n 10 e) in
          long n (ltb-false n 10 e) (below (omega arith))

  by_tens : (n : ℕ) → P n
  by_tens n = within (suc n) n (omega arith)

value-append : (v : ℕ) (s t : List ℕ) → value_after v (s ++ t) ≡ value_after (value_after v s) t
value-append v [] t = refl
value-append v (b ∷ s) t = value-append (pushed v b) s t

-- the text of n has the value n
pub value_of_text : (n : ℕ) → value_of (text_of n) ≡ n
value_of_text = by_tens (λ n. value_of (text_of n) ≡ n)
    (λ n h. rw (text_short n h) (omega arith))
    (λ n h e. rw (text_long n h, value-append 0 (text_of (n / 10)), e) (omega (arith, div-add-mod n 10)))

digits_append : (s : List ℕ) (b : ℕ) → IsDigits s → 48 ≤ b → b ≤ 57 → IsDigits (s ++ (b ∷ []))
digits_append [] b h l u = (l, u, tt)
digits_append (a ∷ s) b h l u = (h.0, h.1, digits_append s b h.2 l u)

-- every byte of it is a digit
pub text_digits : (n : ℕ) → IsDigits (text_of n)
text_digits = by_tens (λ n. IsDigits (text_of n))
    (λ n h. rw (text_short n h) (omega arith, omega arith, tt))
    (λ n h d. rw (text_long n h)
    (digits_append (text_of (n / 10)) (48 + n % 10) d (omega arith) (omega (arith, mod-lt n {m = 10} (lit< tt)))))

-- it has a digit
pub text_some : (n : ℕ) → 1 ≤ length (text_of n)
text_some = by_tens (λ n. 1 ≤ length (text_of n))
    (λ n h. rw (text_short n h) (omega arith))
    (λ n h d. rw (text_long n h, length-append) (omega arith))

-- its first digit is 0 only where n is 0, and then it is the whole text
pub no_leading_zero : (n : ℕ) → get_or (text_of n) 0 0 ≡ 48 → (n ≡ 0) × (text_of n ≡ 48 ∷ [])
no_leading_zero n e = (zero_only n e, ap text_of (zero_only n e) ∙ text_short 0 (lit< tt))
  where
    zero_only : (n : ℕ) → get_or (text_of n) 0 0 ≡ 48 → n ≡ 0
    zero_only = by_tens (λ n. get_or (text_of n) 0 0 ≡ 48 → n ≡ 0)
        (λ n h e. omega (arith, rw (text_short n h) at e))
        (λ n h below e.
        let z = below (sym (get_or-append (text_of (n / 10)) _ 0 0 (text_some (n / 10))) ∙ (rw (text_long n h) at e)) in
        omega (arith, div-add-mod n 10, mod-lt n {m = 10} (lit< tt)))

-- a number below 10 ^ (k + 1) has at most k + 1 digits
pub text_length : (k n : ℕ) → n < 10 ^ suc k → length (text_of n) ≤ suc k
text_length zero n h = rw (text_short n h) (omega arith)
text_length (suc k) n h = by_test (text_length k (n / 10)) (ltb n 10) refl
  where
    by_test : (n / 10 < 10 ^ suc k → length (text_of (n / 10)) ≤ suc k) → (t : Bool) → ltb n 10 ≡ t → length (text_of n) ≤ suc (suc k)
    by_test below true e = rw (text_short n (ltb-true n 10 e)) (omega arith)
    by_test below false e =
        let shorter = below ((div-lt_iff_lt-mul {k = 10} {x = n} {y = 10 ^ suc k} (lit< tt)).1 (rw pow-suc at h)) in
        rw (text_long n (ltb-false n 10 e), length-append) (omega arith)

-- a u64 has at most 20 digits, a u32 at most 10
pub text_length_64 : (n : ℕ) → n < 2 ^ 64 → length (text_of n) ≤ 20
text_length_64 n h = text_length 19 n (lt_of_lt_of_le h (lit≤ tt))

pub text_length_32 : (n : ℕ) → n < 2 ^ 32 → length (text_of n) ≤ 10
text_length_32 n h = text_length 9 n (lt_of_lt_of_le h (lit≤ tt))

-- a digit behind the value v is a digit behind its text, and so for a text of digits
text_pushed : (v b : ℕ) → 0 < v → 48 ≤ b → b ≤ 57 → text_of (pushed v b) ≡ text_of v ++ (b ∷ [])
text_pushed v b h l u =
    let quotient : pushed v b / 10 ≡ v = omega arith in
    let digit : 48 + pushed v b % 10 ≡ b = omega arith in
    text_long (pushed v b) (omega arith) ∙ rw (quotient, digit)

text_behind : (v : ℕ) (s : List ℕ) → 0 < v → IsDigits s → text_of (value_after v s) ≡ text_of v ++ s
text_behind v [] h d = sym (append-nil (text_of v))
text_behind v (b ∷ s) h d =
    text_behind (pushed v b) s (omega arith) d.2 ∙ rw (text_pushed v b h d.0 d.1) (append_assoc (text_of v) (b ∷ []) s)

-- digits that begin with no 0 are the text of their value: a number has no second text without leading zeros
pub text_of_value : (b : ℕ) (s : List ℕ) → IsDigits (b ∷ s) → 48 < b → text_of (value_of (b ∷ s)) ≡ b ∷ s
text_of_value b s d h =
    let first : 48 + pushed 0 b ≡ b = omega arith in
    text_behind (pushed 0 b) s (omega arith) d.2 ∙ rw (text_short (pushed 0 b) (omega (arith, d.1)), first)
