-- What a comparison of two words says of their numbers. Assumes nothing.
use Rattle.std.specs.Prelude.{◌≡◌, true, false, ℕ, ◌≤◌, ◌<◌, Option, Some}
use Rattle.std.specs.Ordering.{MatchOrdering, nat_cmp, is_lt, is_ge, is_some_and}
use Rattle.std.specs.Cmp.{ranked}
use Rattle.std.proofs.Common.{Ordering, Less, Equal, Greater, arith, refl}
use mathlib.Core.Bool.{false≢true, true≢false}

abbrev Rank : Ordering → ℕ → ℕ → Type 0
Rank r m n = MatchOrdering r (m < n) (m ≡ n) (n < m)

rank : (m n : ℕ) → Rank (nat_cmp m n) m n
rank m n = ranked m n (nat_cmp m n) refl

ge_rank : (r : Ordering) {m n : ℕ} → Rank r m n → is_ge r ≡ true → n ≤ m
ge_rank Less h e = absurd (false≢true e)
ge_rank Equal h e = omega (arith, h)
ge_rank Greater h e = omega (arith, h)

not_ge_rank : (r : Ordering) {m n : ℕ} → Rank r m n → is_ge r ≡ false → m < n
not_ge_rank Less h e = h
not_ge_rank Equal h e = absurd (true≢false e)
not_ge_rank Greater h e = absurd (true≢false e)

not_lt_rank : (r : Ordering) {m n : ℕ} → Rank r m n → is_lt r ≡ false → n ≤ m
not_lt_rank Less h e = absurd (true≢false e)
not_lt_rank Equal h e = omega (arith, h)
not_lt_rank Greater h e = omega (arith, h)

module _ {o : Option Ordering} {m n : ℕ} (is : o ≡ Some (nat_cmp m n)) where
  pub at_least : is_some_and is_ge o ≡ true → n ≤ m
  at_least e = ge_rank (nat_cmp m n) (rank m n) (rw is at e)

  pub below : is_some_and is_ge o ≡ false → m < n
  below e = not_ge_rank (nat_cmp m n) (rank m n) (rw is at e)

  pub not_below : is_some_and is_lt o ≡ false → n ≤ m
  not_below e = not_lt_rank (nat_cmp m n) (rank m n) (rw is at e)
