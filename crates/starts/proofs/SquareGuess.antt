-- The square's table guess p and the first step from it, once for both widths: g is n at 32 bits and n/2^32 at 64, so it has its top
-- bit or the one below it among 32. Assumes nothing.
use mathlib.Core.Path.{◌≡◌, ap}
use Prim.Native.Nat.{ℕ, ◌+◌, ◌*◌, ◌-◌, ◌/◌, ◌^◌, ◌≤◌, ◌<◌}
use native.Mathlib.Nat.{mul_assoc, mul-sub, sub-add_cancel, mul-le-mul_left, le_of_mul-le-mul_right}
use native.Mathlib.Nat.{div-mul-le_self, lt-div-mul-add}
use native.Mathlib.Omega.{arith}
use lib.Dec.{lit≤}
use Rattle.defs.specs.Kinds.{square}
use Rattle.defs.specs.Starts.Letters.{guess}
use Rattle.laws.proofs.Products.{guess_powers}
use Rattle.tables.proofs.Bracket.{bracketed}
use Rattle.starts.proofs.Guesses.{in_table, guess_fits}
use Rattle.starts.proofs.Newton.{never_large, never_small}

-- a guess p for g, with its place in the table: p² is near 2^48/g
pub record Guessed (p g : ℕ) : Type 0 where
  pub place : (32 ≤ g / 2 ^ 25) × (g / 2 ^ 25 - 32 < 96)
  pub byte : p < 512
  pub cube_fits : 32 * (p * p * p) < 2 ^ 32
  pub low : 32 * 2 ^ 48 ≤ 33 * (p * p * g)
  pub high : 32 * (p * p * g) ≤ 33 * 2 ^ 48

-- the table rule, spread over the numbers that share an entry
spread : (P i g : ℕ) → P * (32 + i) ≤ 2 ^ 23 → 2 ^ 23 ≤ P * (33 + i) → 2 ^ 25 * (32 + i) ≤ g → g ≤ 2 ^ 25 * (33 + i) →
    (32 * 2 ^ 48 ≤ 33 * (P * g)) × (32 * (P * g) ≤ 33 * 2 ^ 48)
spread P i g b c d e = omega (arith, mul-le-mul_left P d, mul-le-mul_left P e)

-- the table's guess is such a guess
pub guessed : (g : ℕ) → 2 ^ 30 ≤ g → g < 2 ^ 32 → Guessed (guess square (g / 2 ^ 25 - 32)) g
guessed g low high =
    let i = g / 2 ^ 25 - 32 in
    let p = guess square i in
    let rule = bracketed square i (in_table square i (omega arith)) in
    let byte : p < 512 = guess_fits square i (omega arith) in
    let near = spread (p * p) i g rule.below rule.above (omega arith) (omega arith) in
    record {
      place = omega arith;
      byte = byte;
      cube_fits = omega (arith, (guess_powers byte).1);
      low = near.0;
      high = near.1;
    }

-- one step from p, y = q·p − p³·g/D: it does not go below 0, and y is near 32·√(m/g), at most one above it
pub record Stepped (D q m p g y : ℕ) : Type 0 where
  pub fits : p * p * p * g / D ≤ q * p
  pub not_above : (y - 1) * (y - 1) * g ≤ 1024 * m
  pub hardly_below : 1023 * m ≤ y * y * g

module _ (D q : ℕ) {p g y : ℕ} (some : 0 < D) (share : q * D ≡ 3 * 2 ^ 48) (at : Guessed p g) (is : y ≡ q * p - p * p * p * g / D) where
  -- the step before it is rounded, times D
  abbrev exact : ℕ
  exact = p * (3 * 2 ^ 48 - p * p * g)

  -- with no subtraction
  exact_is : exact + p * p * p * g ≡ q * p * D
  exact_is =
      let inside : 3 * 2 ^ 48 - p * p * g + p * p * g ≡ 3 * 2 ^ 48 = sub-add_cancel (omega arith) in
      omega (arith, ap (λ (x : ℕ). p * x) inside, ap (λ (x : ℕ). p * x) share)

  -- y's subtraction does not go below 0
  step_fits : p * p * p * g / D ≤ q * p
  step_fits = le_of_mul-le-mul_right (omega (arith, div-mul-le_self (p * p * p * g) D, exact_is)) some

  -- y with no subtraction, times D
  whole : y * D + p * p * p * g / D * D ≡ q * p * D
  whole =
      let sum : y + p * p * p * g / D ≡ q * p = omega (arith, step_fits) in
      omega (arith, ap (λ (x : ℕ). x * D) sum)

  -- y is the exact step, rounded up or one above that
  rounded : ((y - 1) * D ≤ exact) × (exact ≤ y * D)
  rounded = omega (arith, mul-sub D y 1, whole, exact_is, div-mul-le_self (p * p * p * g) D, lt-div-mul-add {a = p * p * p * g} some)

  -- Newton: y is neither too large nor too small
  pub stepped : (m : ℕ) → m * (D * D) ≡ 2 ^ 136 → Stepped D q m p g y
  stepped m squares = record {
    fits = step_fits;
    not_above =
        never_large square (y - 1) D p (2 ^ 48) g (1024 * m) some rounded.0
        (rw (mul_assoc 1024 m (D * D), squares) (lit≤ tt));
    hardly_below =
        never_small square y D p (2 ^ 48) g (1023 * m) (2 ^ 53 / 33 + 1) (33 * 2 ^ 43) some rounded.1 (omega arith) (omega arith)
        (rw (mul_assoc 1023 m (D * D), squares) (lit≤ tt)) (rw (mul_assoc 1023 m (D * D), squares) (lit≤ tt));
  }
