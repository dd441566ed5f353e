-- A test that is computed over a whole list, and the law that turns it into the fact at each place. Assumes nothing.
use mathlib.Core.Path.{◌∙◌, subst, sym}
use mathlib.Core.Bool.{Bool, true, false}
use mathlib.Core.List.{List, [], ◌∷◌}
use Prim.Native.Nat.{ℕ, zero, suc, ◌+◌, ◌<◌}
use native.Mathlib.Nat.{add-zero, zero-add, add-suc, suc-add, le_of_suc-le-suc, not-suc-le-zero}
use lib.Dec.{T}
use lib.ListN.{length, get_or}

abbrev pub both : Bool → Bool → Bool
both true b = b
both false b = false

pub both_left : (a b : Bool) → T (both a b) → T a
both_left true b t = tt
both_left false b t = t

pub both_right : (a b : Bool) → T (both a b) → T b
both_right true b t = t
both_right false b t = absurd t

-- the test f passes at each entry of the list and its place, counted from i
abbrev pub every : (ℕ → ℕ → Bool) → ℕ → List ℕ → Bool
every f i [] = true
every f i (x ∷ xs) = both (f i x) (every f (suc i) xs)

from : (f : ℕ → ℕ → Bool) (xs : List ℕ) (i : ℕ) → T (every f i xs) →
    (j : ℕ) → j < length xs → T (f (i + j) (get_or xs j 0))
from f [] i t j h = absurd (not-suc-le-zero h)
from f (x ∷ xs) i t zero h = rw add-zero (both_left (f i x) (every f (suc i) xs) t)
from f (x ∷ xs) i t (suc j) h =
    subst (λ (m : ℕ). T (f m (get_or xs j 0))) (suc-add i j ∙ sym (add-suc i j))
    (from f xs (suc i) (both_right (f i x) (every f (suc i) xs) t) j (le_of_suc-le-suc h))

pub at_each : (f : ℕ → ℕ → Bool) (xs : List ℕ) → T (every f 0 xs) → (j : ℕ) → j < length xs → T (f j (get_or xs j 0))
at_each f xs t j h = rw zero-add at (from f xs 0 t j h)

-- the test f passes at each element, and P holds of each
module _ {A : Type 0} (f : A → Bool) where
  abbrev pub all : List A → Bool
  all [] = true
  all (x ∷ xs) = both (f x) (all xs)

module _ {A : Type 0} (P : A → Type 0) where
  abbrev pub All : List A → Type 0
  All [] = Unit {0}
  All (x ∷ xs) = P x × All xs

pub to_all : {A : Type 0} (f : A → Bool) (P : A → Type 0) → ((x : A) → T (f x) → P x) →
    (xs : List A) → T (all f xs) → All P xs
to_all f P h [] t = tt
to_all f P h (x ∷ xs) t = (h x (both_left (f x) (all f xs) t), to_all f P h xs (both_right (f x) (all f xs) t))
