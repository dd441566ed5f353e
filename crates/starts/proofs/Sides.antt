-- Values from a bound on and values below it look their guess up differently, and so the cube table has two sides: which one a value
-- lies on, and a test of each place by its side. Assumes nothing.
use mathlib.Core.Path.{◌≡◌, refl}
use mathlib.Core.Bool.{Bool, true, false, cond}
use Prim.Native.Nat.{ℕ, ◌≤◌, ◌<◌}
use lib.Dec.{T, leb, ltb}
use borrow.Author.Tests.{leb-true, leb-false, lt-ltb, le-ltb}
use Rattle.defs.specs.Kinds.{cube}
use Rattle.defs.specs.Tables.{rcbrt_tab, entry}
use Rattle.laws.proofs.Sweeps.{every, at_each}
use Rattle.starts.proofs.Guesses.{in_table}

-- n is looked up by x from the bound on and by y below it, at places below m and from m on: so its place tells its side
pub sided : (P : Bool → ℕ → Type 0) (place : ℕ → ℕ) (m bound n x y : ℕ) →
    (bound ≤ n → P true x × (place x < m)) → (n < bound → P false y × (m ≤ place y)) →
    P (leb bound n) (cond (leb bound n) x y) × (ltb (place (cond (leb bound n) x y)) m ≡ leb bound n)
sided P place m bound n x y large small = by_test (leb bound n) refl
  where
    by_test : (b : Bool) → leb bound n ≡ b → P b (cond b x y) × (ltb (place (cond b x y)) m ≡ b)
    by_test true e = let h = large (leb-true bound n e) in (h.0, lt-ltb (place x) m h.1)
    by_test false e = let h = small (leb-false bound n e) in (h.0, le-ltb (place y) m h.1)

-- a test that passes at each place for its side passes at place i for its own
pub at_side : (f : Bool → ℕ → ℕ → Bool) (m : ℕ) → T (every (λ i e. f (ltb i m) i e) 0 rcbrt_tab) →
    {b : Bool} (i : ℕ) → ltb i m ≡ b → i < 56 → T (f b i (entry cube i))
at_side f m t i side h = rw side at (at_each (λ i e. f (ltb i m) i e) rcbrt_tab t i (in_table cube i h))
