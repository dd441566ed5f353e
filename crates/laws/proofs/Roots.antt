-- One answer only: a root is the only one of its n, every n has one, and n comes back from root and rest. Assumes nothing.
use mathlib.Core.Path.{◌≡◌, refl, sym, ◌∙◌, ap}
use mathlib.Core.Bool.{Bool, true, false, cond}
use Prim.Native.Nat.{ℕ, zero, suc, ◌+◌, ◌*◌, ◌-◌, ◌/◌, ◌^◌, ◌≤◌, ◌<◌}
use native.Mathlib.Nat.{le_antisymm, lt_of_not-le, lt_of_le_of_lt, le_refl}
use native.Mathlib.Omega.{arith}
use lib.Dec.{leb, eqb}
use borrow.Author.Tests.{leb-true, leb-false, eqb-true, eqb-false}
use Rattle.defs.specs.Kinds.{Kind, square, cube, pow, degree}
use Rattle.defs.specs.Roots.{IsRoot, RootRem, one_more, root_within, root_of, rest_of}
use Rattle.laws.proofs.Powers.{below}

-- the root by its two neighbours: what a search shows, and what it gives
pub is_root : (k : Kind) {n a : ℕ} → pow k a ≤ n → n < pow k (a + 1) → IsRoot k n a
is_root k {n} {a} low high = record {
  fits = low;
  greatest = λ b h. let l : b < a + 1 = below k b (a + 1) (lt_of_le_of_lt h high) in omega arith;
}

pub root_above : (k : Kind) {n a : ℕ} → IsRoot k n a → n < pow k (a + 1)
root_above k {n} {a} r = lt_of_not-le (λ (h : pow k (a + 1) ≤ n). let l : a + 1 ≤ a = r.greatest (a + 1) h in omega arith)

-- no second root fits n
pub one_root : (k : Kind) {n a b : ℕ} → IsRoot k n a → IsRoot k n b → a ≡ b
one_root k {n} {a} {b} r s = le_antisymm (s.greatest a r.fits) (r.greatest b s.fits)

-- no second pair of root and rest fits n
pub one_answer : (k : Kind) {n a b d e : ℕ} → RootRem k n a d → RootRem k n b e → (a ≡ b) × (d ≡ e)
one_answer k {n} r s =
    let same = one_root k r.is_root s.is_root in
    (same, r.is_rest ∙ ap (λ (x : ℕ). n - pow k x) same ∙ sym s.is_rest)

-- n comes back from root and rest
pub comes_back : (k : Kind) {n a e : ℕ} → RootRem k n a e → pow k a + e ≡ n
comes_back k r = omega (arith, r.is_root.fits, r.is_rest)

-- twice the root of n / 2^degree is the root of n or one below it
doubled : (k : Kind) (n a : ℕ) → pow k a ≤ n / 2 ^ degree k → n / 2 ^ degree k < pow k (a + 1) →
    (pow k (2 * a) ≤ n) × (n < pow k (2 * a + 1 + 1))
doubled square n a low high = omega arith
doubled cube n a low high = omega arith

one_more_lem : (k : Kind) (n a : ℕ) → pow k a ≤ n → n < pow k (a + 1 + 1) → IsRoot k n (one_more k n a)
one_more_lem k n a low high = by_test (leb (pow k (a + 1)) n) refl
  where
    by_test : (t : Bool) → leb (pow k (a + 1)) n ≡ t → IsRoot k n (cond t (a + 1) a)
    by_test true e = is_root k (leb-true (pow k (a + 1)) n e) high
    by_test false e = is_root k low (leb-false (pow k (a + 1)) n e)

-- a value that is not 0 falls when it is divided, so the fuel lasts
lasts : (k : Kind) (fuel n : ℕ) → n ≤ suc fuel → (n ≡ 0 → ⊥) → n / 2 ^ degree k ≤ fuel
lasts square fuel n h p = omega arith
lasts cube fuel n h p = omega arith

pub root_of_zero : (k : Kind) (n : ℕ) → n ≡ 0 → IsRoot k n 0
root_of_zero square n e = is_root square (omega arith) (omega arith)
root_of_zero cube n e = is_root cube (omega arith) (omega arith)

root_within_lem : (k : Kind) (fuel n : ℕ) → n ≤ fuel → IsRoot k n (root_within k fuel n)
unfolding root_within
root_within_lem k zero n h = root_of_zero k n (omega arith)
root_within_lem k (suc fuel) n h = by_test (eqb n 0) refl (λ p. root_within_lem k fuel (n / 2 ^ degree k) (lasts k fuel n h p))
  where
    a : ℕ
    a = root_within k fuel (n / 2 ^ degree k)

    by_test : (t : Bool) → eqb n 0 ≡ t → ((n ≡ 0 → ⊥) → IsRoot k (n / 2 ^ degree k) a) →
        IsRoot k n (elim t [ true ↦ 0 | false ↦ one_more k n (2 * a) ])
    by_test true e inner = root_of_zero k n (eqb-true n 0 e)
    by_test false e inner =
        let r = inner (eqb-false n 0 e) in
        let d = doubled k n a r.fits (root_above k r) in
        one_more_lem k n (2 * a) d.0 d.1

-- the number that computes is the root of every n
pub root_is : (k : Kind) (n : ℕ) → IsRoot k n (root_of k n)
unfolding root_of
root_is k n = root_within_lem k n n (le_refl n)

-- every n has a root and a rest
pub answer_is : (k : Kind) (n : ℕ) → RootRem k n (root_of k n) (rest_of k n)
unfolding rest_of
answer_is k n = record { is_root = root_is k n; is_rest = refl }
