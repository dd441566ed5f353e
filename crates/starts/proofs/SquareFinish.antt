-- The last step of a square root, S = a + E·r/B with E = (n − a²)/B, once for both widths: r is near M/√n and a is near √n, and
-- S is then at most one above the root and at most two below it. Assumes nothing.
use mathlib.Core.Path.{◌≡◌, refl, ap}
use Prim.Native.Nat.{ℕ, zero, suc, ◌+◌, ◌*◌, ◌-◌, ◌/◌, ◌≤◌, ◌<◌}
use native.Mathlib.Nat.{le_of_eq, le_trans, le_of_lt, lt_of_not-le, lt_of_le_of_lt, div-mul-le_self, lt-div-mul-add}
use native.Mathlib.Nat.{mul-pos, mul-le-mul, mul-le-mul_left, mul-le-mul_right}
use native.Mathlib.Nat.{le_of_mul-le-mul_left, le_of_mul-le-mul_right, lt_of_mul-lt-mul_right}
use native.Mathlib.Omega.{arith, by_contra}
use Rattle.defs.specs.Kinds.{square}
use Rattle.laws.proofs.Powers.{below}

-- the numbers of a width: n is below B², and M is half of B². The others say how good r and a are: r is measured in parts 1/ζ,
-- τ and ω are the least and the most that a is below r·g/M, κ is how far r can be too large and σ how far too small, but for one
-- part in K + 1, which of B² is J-as-B, and G is above all that E, and so the last correction, can be
pub record Figures (B M ζ τ κ σ ω J K G : ℕ) : Type 0 where
  pub some : (0 < B) × (0 < M) × (0 < ζ)
  pub halves : 2 * M ≡ B * B
  pub shares : B * B ≡ (K + 1) * (J * B)
  pub small : (2 * ω + J + 3 ≤ G) × (σ ≤ ω) × (ω * ω ≤ B)
  pub high_left : (G + 1) * G * B ≤ M
  pub low_left : G * (2 * κ + G) ≤ B
  pub bound_left : (κ + (τ + 1) * (G + 1)) * B < M

-- what a width shows of r and a: r is s/ζ + ρ/ζ, where s/ζ is not above M/√g and ρ is small, r + σ is hardly below M/√g, and a is
-- r·g/M less something from τ to ω. Here g is n at 32 bits, and n with its low half struck out at 64
pub record Aimed (B M ζ τ κ σ ω K g n a r s ρ : ℕ) : Type 0 where
  pub g_low : g ≤ n
  pub g_high : n < g + B
  pub in_width : n < B * B
  pub r_fits : r < B
  pub parts : r * ζ ≡ s + ρ
  pub not_above : s * s * g ≤ ζ * M * (ζ * M)
  pub excess : ρ * g ≤ τ * (ζ * M)
  pub excess_small : ρ ≤ κ * ζ
  pub hardly_below : K * (M * M) ≤ (K + 1) * ((r + σ) * (r + σ) * g)
  pub a_low : (a + τ) * M ≤ r * g
  pub a_high : (r + σ) * g ≤ (a + ω) * M

-- E is (n − a²)/B, and F, what S adds to a, is E·r/B
pub record Floors (B n a r E F : ℕ) : Type 0 where
  pub e_low : a * a + E * B ≤ n
  pub e_high : n < a * a + E * B + B
  pub f_low : F * B ≤ E * r
  pub f_high : E * r < F * B + B

-- so they are, where they are divisions
pub floors : (B n a r : ℕ) → 0 < B → a * a ≤ n → Floors B n a r ((n - a * a) / B) ((n - a * a) / B * r / B)
floors B n a r some h =
    let E = (n - a * a) / B in
    record {
      e_low = omega (arith, div-mul-le_self (n - a * a) B);
      e_high = omega (arith, lt-div-mul-add {a = n - a * a} some);
      f_low = div-mul-le_self (E * r) B;
      f_high = lt-div-mul-add some;
    }

-- squares rise, so their roots do
pub root_rises : (a b : ℕ) → a * a ≤ b * b → a ≤ b
root_rises a b h = by_contra a b (λ (l : b < a). omega (arith, mul-le-mul l l))

module _ {B M ζ τ κ σ ω J K G g n a r s ρ : ℕ} (f : Figures B M ζ τ κ σ ω J K G) (i : Aimed B M ζ τ κ σ ω K g n a r s ρ) where
  -- the unit is not 0
  scale : 0 < ζ * M
  scale = mul-pos f.some.2 f.some.1

  -- a·M/g is at most what is not above M/√g
  a_by_s : a * (ζ * M) ≤ s * g
  a_by_s = omega (arith, mul-le-mul_right ζ i.a_low, mul-le-mul_right g (le_of_eq i.parts), i.excess)

  -- so a is not above the root
  pub a_below : a * a ≤ g
  a_below = le_of_mul-le-mul_right (squared (ζ * M) a_by_s i.not_above) (mul-pos scale scale)
    where
      squared : (u : ℕ) → a * u ≤ s * g → s * s * g ≤ u * u → a * a * (u * u) ≤ g * (u * u)
      squared u h l = omega (arith, mul-le-mul h h, mul-le-mul_right g l)

  -- it fits
  a_fits : a < B
  a_fits = below square a B (lt_of_le_of_lt (le_trans a_below i.g_low) i.in_width)

  -- and a·r is hardly above M
  product_high : a * r ≤ M + κ * B
  product_high =
      le_of_mul-le-mul_right
      (omega (arith, mul-le-mul_left a (le_of_eq i.parts), by_s, mul-le-mul (le_of_lt a_fits) i.excess_small))
      f.some.2
    where
      by_s : a * s ≤ ζ * M
      by_s = le_of_mul-le-mul_right (omega (arith, mul-le-mul_right s a_by_s, i.not_above)) scale

  -- nor is it much below
  product_low : M ≤ a * r + G * B
  product_low =
      omega (
        arith,
        shared,
        mul-le-mul_right σ (le_of_lt a_fits),
        mul-le-mul_left ω (le_of_lt i.r_fits),
        mul-le-mul_left ω f.small.1,
        f.small.2,
        mul-le-mul_right B f.small.0,
        mul-le-mul_right B f.small.1,
      )
    where
      cancelled : K * M ≤ (K + 1) * ((a + ω) * (r + σ))
      cancelled =
          le_of_mul-le-mul_right (omega (arith, i.hardly_below, mul-le-mul_left ((K + 1) * (r + σ)) i.a_high)) f.some.1

      shared : M ≤ (a + ω) * (r + σ) + J * B
      shared = le_of_mul-le-mul_left {k = K + 1} (omega (arith, cancelled, f.halves, f.shares)) (omega arith)

  -- g is not much above the square of a + ω
  g_above : g ≤ (a + ω) * (a + ω) + J * B
  g_above = le_of_mul-le-mul_left {k = K + 1} (omega (arith, cancelled, f.shares, i.g_low, i.in_width)) (omega arith)
    where
      squared : (K + 1) * ((r + σ) * (r + σ) * g) * g ≤ (K + 1) * ((a + ω) * (a + ω)) * (M * M)
      squared = omega (arith, mul-le-mul_left (K + 1) (mul-le-mul i.a_high i.a_high))

      cancelled : K * g ≤ (K + 1) * ((a + ω) * (a + ω))
      cancelled =
          le_of_mul-le-mul_right {k = M * M} (omega (arith, squared, mul-le-mul_right g i.hardly_below))
          (mul-pos f.some.1 f.some.1)

  -- so n − a² is small
  close : n + B < a * a + G * B
  close =
      omega
      (arith, g_above, i.g_high, mul-le-mul_left ω (le_of_lt a_fits), f.small.2, mul-le-mul_right B f.small.0)

  -- r times a root q + 1 is hardly above M, where q² fits and q + 1 is not below a
  pub bound : (q : ℕ) → q * q ≤ n → a ≤ q + 1 → r * (q + 1) ≤ M + (τ + 3) * r
  bound q fits near = le_of_mul-le-mul_right (omega (arith, by_s, by_ρ, mul-le-mul_right q (le_of_eq i.parts))) f.some.2
    where
      by_s : s * q ≤ ζ * M + ζ * r
      by_s =
          let s_below : s ≤ r * ζ = omega (arith, i.parts) in
          let part : s * s * B ≤ ζ * ζ * r * (2 * M) =
          omega (
            arith,
            mul-le-mul_right B (mul-le-mul s_below s_below),
            mul-le-mul_left (r * ζ * ζ * B) (le_of_lt i.r_fits),
            ap (λ (x : ℕ). ζ * ζ * r * x) f.halves,
          ) in
          root_rises (s * q) (ζ * M + ζ * r)
          (omega (arith, mul-le-mul_left (s * s) fits, mul-le-mul_left (s * s) (le_of_lt i.g_high), i.not_above, part))

      cancelled : (τ + 1) * (ζ * r) ≤ ρ * q → (τ + 1) * (r * q) ≤ τ * M + κ * B
      cancelled h =
          le_of_mul-le-mul_right
          (omega (
            arith,
            mul-le-mul_right q h,
            mul-le-mul_left ρ fits,
            mul-le-mul_left ρ (le_of_lt i.g_high),
            i.excess,
            mul-le-mul_right B i.excess_small,
          ))
          f.some.2

      against : (τ + 1) * (r * q) ≤ τ * M + κ * B → ⊥
      against h =
          let large : M ≤ r * q + (G + 1) * B = omega (arith, product_low, mul-le-mul_right r near, i.r_fits) in
          omega (arith, mul-le-mul_left (τ + 1) large, f.bound_left)

      by_ρ : ρ * q ≤ (τ + 1) * (ζ * r)
      by_ρ = by_contra (ρ * q) ((τ + 1) * (ζ * r)) (λ (h : (τ + 1) * (ζ * r) < ρ * q). against (cancelled (le_of_lt h)))

  module _ {E F : ℕ} (l : Floors B n a r E F) where
    -- the correction is small
    correction : F + 2 ≤ G
    correction = omega (arith, e_small, f_small)
      where
        e_small : E + 1 < G
        e_small = lt_of_mul-lt-mul_right B (omega (arith, l.e_low, close))

        f_small : F ≤ E
        f_small = le_of_mul-le-mul_right (omega (arith, l.f_low, mul-le-mul_left E (le_of_lt i.r_fits))) f.some.0

    -- the root is at most two above S
    pub high : n < (a + F + 3) * (a + F + 3)
    high = lt_of_not-le (λ (h : (a + F + 3) * (a + F + 3) ≤ n). against (omega (arith, h, l.e_high)))
      where
        against : 2 * (a * (F + 3)) ≤ E * B + B → ⊥
        against h =
            omega (
              arith,
              mul-le-mul_right r h,
              mul-le-mul_right B l.f_high,
              mul-le-mul_right B (le_of_lt i.r_fits),
              ap (λ (x : ℕ). (F + 2) * x) f.halves,
              mul-le-mul_right (F + 3) product_low,
              mul-le-mul_left (G * B) correction,
              f.high_left,
              f.some.0,
            )

    -- a correction by one less is not above the root
    one_less : (x : ℕ) → x + 1 ≤ F → (a + x) * (a + x) ≤ n
    one_less x h = by_contra ((a + x) * (a + x)) n (λ (above : n < (a + x) * (a + x)). against (omega (arith, above, l.e_low)))
      where
        against : E * B ≤ 2 * (x * a) + x * x → ⊥
        against e =
            let short : B * B ≤ x * (2 * κ + x) * B =
            omega (
              arith,
              mul-le-mul_right r e,
              mul-le-mul_right B l.f_low,
              mul-le-mul_left x product_high,
              mul-le-mul_left (x * x) (le_of_lt i.r_fits),
              mul-le-mul_right (B * B) h,
              ap (λ (z : ℕ). x * z) f.halves,
            ) in
            let steps : (x + 1) * (2 * κ + x + 1) ≤ G * (2 * κ + G) =
            mul-le-mul (omega (arith, correction)) (omega (arith, correction)) in
            omega (arith, le_of_mul-le-mul_right short f.some.0, steps, f.low_left)

    -- so the root is at most one below S
    pub low : (a + F - 1) * (a + F - 1) ≤ n
    low = by_F F refl
      where
        by_F : (x : ℕ) → F ≡ x → (a + x - 1) * (a + x - 1) ≤ n
        by_F zero e = le_trans (mul-le-mul (omega arith) (omega arith)) (le_trans a_below i.g_low)
        by_F (suc x) e = le_trans (mul-le-mul (omega arith) (omega arith)) (one_less x (omega arith))
