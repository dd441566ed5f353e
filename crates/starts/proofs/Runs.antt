-- A test of many orders, and the test of nearness over a run of numbers that share a guess. Assumes nothing.
use mathlib.Core.Bool.{Bool}
use mathlib.Core.List.{List, [], ◌∷◌}
use Prim.Native.Nat.{ℕ, suc, ◌+◌, ◌*◌, ◌-◌, ◌/◌, ◌≤◌, ◌<◌}
use lib.Dec.{T, leb, leb→le}
use Rattle.defs.specs.Kinds.{Kind, pow}
use Rattle.laws.proofs.Sweeps.{all, All, to_all}
use Rattle.starts.specs.Near.{Near}
use Rattle.starts.proofs.Ranges.{range, between}

-- each pair of the list is in order
abbrev pub ordered : List (ℕ × ℕ) → Bool
ordered l = all (λ p. leb p.0 p.1) l

abbrev pub Ordered : List (ℕ × ℕ) → Type 0
Ordered l = All (λ p. p.0 ≤ p.1) l

-- the test of that says so
pub orders : (l : List (ℕ × ℕ)) → T (ordered l) → Ordered l
orders l t = to_all (λ p. leb p.0 p.1) (λ p. p.0 ≤ p.1) (λ p. leb→le p.0 p.1) l t

-- s is at most 3 below the root of n
abbrev nearness : Kind → ℕ → ℕ → List (ℕ × ℕ)
nearness k n s = (pow k s, n) ∷ (suc n, pow k (s + 3 + 1)) ∷ []

-- R·n/D − 1 is so for the w numbers n from a on, as a test
abbrev pub row : Kind → ℕ → ℕ → ℕ → ℕ → Bool
row k R D w a = range (λ n. ordered (nearness k n (R * n / D - 1))) w a

-- and so at each of them
pub near_row : (k : Kind) (R D w a n : ℕ) → T (row k R D w a) → a ≤ n → n < a + w → Near k 3 n (R * n / D - 1)
near_row k R D w a n t low high =
    let s = R * n / D - 1 in
    let o = orders (nearness k n s) (between (λ n. ordered (nearness k n (R * n / D - 1))) w a t n low high) in
    record { low = o.0; high = o.1.0 }
