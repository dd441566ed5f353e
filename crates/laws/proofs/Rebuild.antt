-- Rebuilding and rooting undo each other, and each refusal says exactly what it should, over kind and width. Assumes nothing.
use mathlib.Core.Path.{◌≡◌, refl, sym, ◌∙◌}
use mathlib.Core.Logic.{◌⊎◌, inl, inr, ◌↔◌}
use Prim.Native.Nat.{ℕ, ◌+◌, ◌^◌, ◌≤◌, ◌<◌}
use native.Mathlib.Nat.{lt_of_le_of_lt, lt_irrefl, lt_of_not-le}
use native.Mathlib.Omega.{arith}
use Rattle.defs.specs.Kinds.{Kind, square, cube, Width, pow, bits_of}
use Rattle.defs.specs.Roots.{RootRem}
use Rattle.defs.specs.Rebuild.{rest_limit, Rebuilt}
use Rattle.defs.specs.Parts.{gap}
use Rattle.laws.proofs.Powers.{le_or_lt, next_power}
use Rattle.laws.proofs.Roots.{is_root, root_above, comes_back}

-- the limit is one below the gap to the next power
limit_is : (k : Kind) (r : ℕ) → rest_limit k r + 1 ≡ gap k r
limit_is square r = refl
limit_is cube r = omega arith

-- a pair within the limit is the answer of its sum, and an answer is within the limit
pair_of_sum : (k : Kind) (r : ℕ) {e : ℕ} → e ≤ rest_limit k r → RootRem k (pow k r + e) r e
pair_of_sum k r {e} h = record {
  is_root = is_root k (omega arith) (omega (arith, next_power k r, limit_is k r));
  is_rest = omega arith;
}

pub rest_in_limit : (k : Kind) {n r e : ℕ} → RootRem k n r e → e ≤ rest_limit k r
rest_in_limit k {n} {r} {e} a = omega (arith, next_power k r, limit_is k r, comes_back k a, root_above k a.is_root)

-- a pair beyond the limit is no number's answer, at any width; and only such a pair is none
no_answer : (k : Kind) (r e : ℕ) → (rest_limit k r < e) ↔ ((n : ℕ) → RootRem k n r e → ⊥)
no_answer k r e = (
  λ h n a. lt_irrefl e (lt_of_le_of_lt (rest_in_limit k a) h),
  λ none. lt_of_not-le (λ (h : e ≤ rest_limit k r). none (pow k r + e) (pair_of_sum k r h)),
)

-- a pair within the limit whose sum does not fit is the answer of a wider value alone
wider_only : (k : Kind) (w : Width) {n r e : ℕ} → RootRem k n r e → 2 ^ bits_of w ≤ pow k r + e → 2 ^ bits_of w ≤ n
wider_only k w a h = omega (arith, comes_back k a, h)

-- the three ways that a call can go, and no fourth
data Went (k : Kind) (w : Width) (r e refusal value : ℕ) : Type 0 where
  beyond : rest_limit k r < e → refusal ≡ 5 → Went k w r e refusal value
  wider : e ≤ rest_limit k r → 2 ^ bits_of w ≤ pow k r + e → refusal ≡ 6 → Went k w r e refusal value
  back : e ≤ rest_limit k r → refusal ≡ 0 → value ≡ pow k r + e → Went k w r e refusal value

went : (k : Kind) (w : Width) {r e refusal value : ℕ} → Rebuilt k w r e refusal value → Went k w r e refusal value
went k w {r} {e} {refusal} {value} b = by_rest (le_or_lt e (rest_limit k r))
  where
    by_sum : e ≤ rest_limit k r → (2 ^ bits_of w ≤ pow k r + e) ⊎ (pow k r + e < 2 ^ bits_of w) → Went k w r e refusal value
    by_sum h (inl g) = wider h g (b.if_value_beyond h g).0
    by_sum h (inr g) = back h (b.rebuilds h g).0 (b.rebuilds h g).1

    by_rest : (e ≤ rest_limit k r) ⊎ (rest_limit k r < e) → Went k w r e refusal value
    by_rest (inl h) = by_sum h (le_or_lt (2 ^ bits_of w) (pow k r + e))
    by_rest (inr h) = beyond h (b.if_rest_beyond h).0

-- rebuilding the answer of n gives n back
pub gives_back : (k : Kind) (w : Width) {n r e refusal value : ℕ} → n < 2 ^ bits_of w → RootRem k n r e →
    Rebuilt k w r e refusal value → (refusal ≡ 0) × (value ≡ n)
gives_back k w {n} {r} {e} h a b =
    let sum = comes_back k a in
    let back = b.rebuilds (rest_in_limit k a) (lt_of_le_of_lt (omega (arith, sum)) h) in
    (back.0, back.1 ∙ sum)

-- a pair that rebuilds to n is the answer of n
pub answer_of : (k : Kind) (w : Width) {n r e refusal : ℕ} → Rebuilt k w r e refusal n → refusal ≡ 0 → RootRem k n r e
answer_of k w {n} {r} {e} {refusal} b zero_is = by_way (went k w b)
  where
    by_way : Went k w r e refusal n → RootRem k n r e
    by_way (beyond h five) = absurd (omega (arith, five, zero_is))
    by_way (wider h g six) = absurd (omega (arith, six, zero_is))
    by_way (back h none sum) = rw sum (pair_of_sum k r h)

-- refusal 5 exactly where no number has that pair, at any width
pub five_exactly : (k : Kind) (w : Width) {r e refusal value : ℕ} → Rebuilt k w r e refusal value →
    (refusal ≡ 5) ↔ ((n : ℕ) → RootRem k n r e → ⊥)
five_exactly k w {r} {e} {refusal} {value} b = (
  λ five. by_way five (went k w b),
  λ none. (b.if_rest_beyond ((no_answer k r e).1 none)).0,
)
  where
    by_way : refusal ≡ 5 → Went k w r e refusal value → (n : ℕ) → RootRem k n r e → ⊥
    by_way five (beyond h is) = (no_answer k r e).0 h
    by_way five (wider h g six) = λ n a. omega (arith, five, six)
    by_way five (back h none sum) = λ n a. omega (arith, five, none)

-- refusal 6 exactly where numbers have that pair, and all of them are wider
pub six_exactly : (k : Kind) (w : Width) {r e refusal value : ℕ} → Rebuilt k w r e refusal value →
    (refusal ≡ 6) ↔ (((n : ℕ) × RootRem k n r e) × ((n : ℕ) → RootRem k n r e → 2 ^ bits_of w ≤ n))
six_exactly k w {r} {e} {refusal} {value} b = (
  λ six. by_way six (went k w b),
  λ h. (b.if_value_beyond (rest_in_limit k h.0.1) (rw (← (comes_back k h.0.1)) at (h.1 h.0.0 h.0.1))).0,
)
  where
    by_way : refusal ≡ 6 → Went k w r e refusal value → ((n : ℕ) × RootRem k n r e) × ((n : ℕ) → RootRem k n r e → 2 ^ bits_of w ≤ n)
    by_way six (beyond h five) = absurd (omega (arith, five, six))
    by_way six (wider h g is) = ((pow k r + e, pair_of_sum k r h), λ n a. wider_only k w a g)
    by_way six (back h none sum) = absurd (omega (arith, none, six))

-- no second answer fits a pair
same : {a b c d m n : ℕ} → (a ≡ m) × (b ≡ n) → (c ≡ m) × (d ≡ n) → (a ≡ c) × (b ≡ d)
same p q = (p.0 ∙ sym q.0, p.1 ∙ sym q.1)

pub one_rebuilt : (k : Kind) (w : Width) {r e a b c d : ℕ} → Rebuilt k w r e a b → Rebuilt k w r e c d → (a ≡ c) × (b ≡ d)
one_rebuilt k w {r} {e} {a} {b} {c} {d} x y = by_rest (le_or_lt e (rest_limit k r))
  where
    by_sum : e ≤ rest_limit k r → (2 ^ bits_of w ≤ pow k r + e) ⊎ (pow k r + e < 2 ^ bits_of w) → (a ≡ c) × (b ≡ d)
    by_sum h (inl g) = same (x.if_value_beyond h g) (y.if_value_beyond h g)
    by_sum h (inr g) = same (x.rebuilds h g) (y.rebuilds h g)

    by_rest : (e ≤ rest_limit k r) ⊎ (rest_limit k r < e) → (a ≡ c) × (b ≡ d)
    by_rest (inl h) = by_sum h (le_or_lt (2 ^ bits_of w) (pow k r + e))
    by_rest (inr h) = same (x.if_rest_beyond h) (y.if_rest_beyond h)
