-- The start of cube 32 is near the root of every normalised n: one test over the table's runs of 256 values of g. Assumes nothing.
use mathlib.Core.Path.{◌≡◌}
use mathlib.Core.Bool.{Bool, cond}
use mathlib.Core.List.{List, [], ◌∷◌}
use Prim.Native.Nat.{ℕ, suc, ◌+◌, ◌*◌, ◌-◌, ◌/◌, ◌^◌, ◌≤◌, ◌<◌}
use native.Mathlib.Nat.{mul-le-mul, mul-le-mul_left, le_trans, lt_of_le_of_lt, lt_of_lt_of_le}
use native.Mathlib.Omega.{arith}
use lib.Dec.{T, ltb}
use Rattle.defs.specs.Kinds.{cube, pow}
use Rattle.defs.specs.Tables.{rcbrt_tab}
use Rattle.defs.specs.Starts.Cube32.{top, g, p, t, y, r, cell_start}
use Rattle.laws.proofs.Powers.{below, rises}
use Rattle.laws.proofs.Sweeps.{every}
use Rattle.starts.specs.Near.{Near}
use Rattle.starts.proofs.Ranges.{range, between}
use Rattle.starts.proofs.Runs.{ordered, Ordered, orders}
use Rattle.starts.proofs.Spans.{least, greatest, Spanned, halved_below}
use Rattle.starts.proofs.Sides.{sided, at_side}
use Rattle.laws.proofs.Products.{guess_powers}
use Rattle.starts.proofs.Guesses.{guess_fits}

-- what t takes off 8192, and the letters y, r and S, each of the letters that it needs
abbrev off : ℕ → ℕ → ℕ
off p g = g * (p * p * p / 2 ^ 11) / 2 ^ 16

abbrev y_of : ℕ → ℕ → ℕ
y_of p g = p * (8192 - off p g) / 3 / 16

abbrev r_of : Bool → ℕ → ℕ
r_of b y = cond b (y / 2) y - 10

abbrev start : ℕ → ℕ → ℕ
start r h = r * (r * h / 2 ^ 16) / 2 ^ 16 / 4

-- a start rises with h
start_rises : (r a b : ℕ) → a ≤ b → start r a ≤ start r b
start_rises r a b h =
    let inner : r * a / 2 ^ 16 ≤ r * b / 2 ^ 16 = omega (arith, mul-le-mul_left r h) in
    omega (arith, mul-le-mul_left r inner)

-- what is tested of g: the letters fit, and the starts of its least and its greatest h are near the roots of all its values
abbrev facts : Bool → ℕ → ℕ → ℕ → ℕ → List (ℕ × ℕ)
facts b g p y r =
    (off p g, 8192) ∷ (suc y, 2 ^ 16) ∷ (10, cond b (y / 2) y) ∷
    (pow cube (start r (greatest b g)), least b g * 2 ^ 16) ∷
    ((greatest b g + 1) * 2 ^ 16, pow cube (start r (least b g) + 3 + 1)) ∷ []

-- as a test, with y and r computed once
test : Bool → ℕ → ℕ → Bool
test b p g = let y : ℕ = y_of p g in let r : ℕ = r_of b y in ordered (facts b g p y r)

-- the values of g of entry e at place i, as a test
part : Bool → ℕ → ℕ → Bool
part b i e = range (test b (256 + e)) 256 ((8 + i) * 256)

-- it passes at each entry, the first 24 for the large numbers
tested : T (every (λ i e. part (ltb i 24) i e) 0 rcbrt_tab)
unfolding part test rcbrt_tab
tested = tt

-- what the machine arithmetic of the start needs
pub record Safe (n : ℕ) : Type 0 where
  pub from_first : 8 ≤ g n / 256
  pub in_table : g n / 256 - 8 < 56
  pub g_fits : g n < 2 ^ 16
  pub guess_small : p n < 512
  pub cube_small : p n * p n * p n < 2 ^ 32
  pub eleven_off_fits : p n * p n * p n / 2 ^ 11 < 2 ^ 16
  pub off_fits : g n * (p n * p n * p n / 2 ^ 11) / 2 ^ 16 ≤ 8192
  pub t_small : t n ≤ 8192
  pub product_fits : p n * t n < 2 ^ 32
  pub y_fits : y n < 2 ^ 16
  pub at_least_ten : 10 ≤ cond (top n) (y n / 2) (y n)
  pub r_fits : r n < 2 ^ 16
  pub fits : cell_start n < 2 ^ 16

module _ (n : ℕ) (from : 2 ^ 29 ≤ n) (to : n < 2 ^ 32) where
  -- the place of n's g in the table, and its side
  spanned : Spanned 256 (top n) (g n) (n / 2 ^ 16) × (ltb (g n / 256 - 8) 24 ≡ top n)
  unfolding top g
  spanned =
      sided (λ b g. Spanned 256 b g (n / 2 ^ 16)) (λ g. g / 256 - 8) 24 (2 ^ 30) n (n / 2 ^ 19) (n / 2 ^ 16) (omega arith) (omega arith)

  -- what was tested, of n's letters
  known : Ordered (facts (top n) (g n) (p n) (y n) (r n))
  unfolding p t y r part test
  known =
      let i = g n / 256 - 8 in
      let s = spanned.0 in
      orders (facts (top n) (g n) (p n) (y n) (r n))
      (between (test (top n) (p n)) 256 ((8 + i) * 256) (at_side part 24 tested i spanned.1 s.in_table) (g n) (omega arith) (omega arith))

  -- the start is at most 3 below the root
  pub near : Near cube 3 n (cell_start n)
  unfolding r cell_start
  near =
      let h = n / 2 ^ 16 in
      let ends = known.1.1.1 in
      let to_greatest = start_rises (r n) h (greatest (top n) (g n)) spanned.0.high in
      let from_least = start_rises (r n) (least (top n) (g n)) h spanned.0.low in
      record {
        low = le_trans (rises cube to_greatest) (le_trans ends.0 (omega (arith, spanned.0.low)));
        high = lt_of_lt_of_le (omega (arith, spanned.0.high)) (le_trans ends.1.0 (rises cube (omega (arith, from_least))));
      }

  -- and its arithmetic is safe
  pub safe : Safe n
  unfolding p t r
  safe =
      let k = known in
      let small : p n < 512 = guess_fits cube (g n / 256 - 8) spanned.0.in_table in
      let cubed : p n * p n * p n < 2 ^ 27 = (guess_powers small).1 in
      let tight : t n ≤ 8192 = omega arith in
      record {
        from_first = spanned.0.from_first;
        in_table = spanned.0.in_table;
        g_fits = omega (arith, spanned.0);
        guess_small = small;
        cube_small = omega arith;
        eleven_off_fits = omega arith;
        off_fits = k.0;
        t_small = tight;
        product_fits = omega (arith, mul-le-mul small tight);
        y_fits = k.1.0;
        at_least_ten = k.1.1.0;
        r_fits = omega (arith, halved_below (top n) (y n));
        fits = below cube (cell_start n) (2 ^ 16) (lt_of_le_of_lt near.low (omega arith));
      }
