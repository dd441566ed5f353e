-- A cube's start looks its guess up by g, an eighth of h for the large values and h itself for the others: which h share a g.
-- Assumes nothing.
use mathlib.Core.Bool.{Bool, true, false, cond}
use Prim.Native.Nat.{ℕ, ◌+◌, ◌*◌, ◌-◌, ◌/◌, ◌≤◌, ◌<◌}
use native.Mathlib.Omega.{arith}

-- the least and the greatest h of g; b says whether g is an eighth
abbrev pub least : Bool → ℕ → ℕ
least b g = cond b (8 * g) g

abbrev pub greatest : Bool → ℕ → ℕ
greatest b g = cond b (8 * g + 7) g

-- g has a place in the table, `unit` values of g to a place, and h is one of its own
pub record Spanned (unit : ℕ) (b : Bool) (g h : ℕ) : Type 0 where
  pub from_first : 8 ≤ g / unit
  pub in_table : g / unit - 8 < 56
  pub low : least b g ≤ h
  pub high : h ≤ greatest b g

-- the least h of a greater g is not less
pub least_rises : (b : Bool) (a g : ℕ) → a ≤ g → least b a ≤ least b g
least_rises true a g h = omega arith
least_rises false a g h = h

-- all h of g are below those of a greater one
pub greatest_below : (b : Bool) (g a : ℕ) → g < a → greatest b g < least b a
greatest_below true g a h = omega arith
greatest_below false g a h = h

-- y, halved where b says so, is at most y
pub halved_below : (b : Bool) (y : ℕ) → cond b (y / 2) y ≤ y
halved_below true y = omega arith
halved_below false y = omega arith

-- and at least 1 from 2 on
pub halved_some : (b : Bool) (y : ℕ) → 2 ≤ y → 1 ≤ cond b (y / 2) y
halved_some true y h = omega arith
halved_some false y h = omega arith
