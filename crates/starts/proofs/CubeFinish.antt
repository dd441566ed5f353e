-- The last step of a cube root from r near the root of R/h: r·r·h in units of Q is a start that is never above the root, and is
-- at most c below it where an entry's test passes. Over all numbers: no width stands here. Assumes nothing.
use mathlib.Core.Path.{◌≡◌}
use Prim.Native.Nat.{ℕ, ◌+◌, ◌*◌, ◌-◌, ◌≤◌, ◌<◌}
use native.Mathlib.Nat.{add-sub_of_le, le_of_lt, lt_of_not-le}
use native.Mathlib.Nat.{mul-pos, mul-le-mul, mul-le-mul_left, mul-le-mul_right, le_of_mul-le-mul_right, lt_of_mul-lt-mul_right}
use native.Mathlib.Omega.{arith}
use Rattle.defs.specs.Kinds.{cube, pow}
use Rattle.laws.proofs.Powers.{rises}

-- with r³·h at most R, the start S, r·r·h in units of Q, has a cube of at most B·h
pub never_above : (B Q R h r S : ℕ) → 0 < Q → R * R ≡ Q * Q * Q * B → S * Q ≤ r * r * h → r * r * r * h ≤ R → S * S * S ≤ B * h
never_above B Q R h r S pos unit start most =
    let cubed = rises cube start in
    let squared = mul-le-mul_right h (mul-le-mul most most) in
    let same : R * R * h ≡ Q * Q * Q * B * h = rw unit in
    le_of_mul-le-mul_right {m = S * S * S} {n = B * h} {k = Q * Q * Q} (omega arith) (mul-pos (mul-pos pos pos) pos)

-- the area of r + e, its square times h, is at least D below s·Q for each s above S + c
area : (B Q c e h r S H R D s : ℕ) → r * r * h ≤ (S + 1) * Q + r * B → h ≤ H → r ≤ R → R * B + 2 * e * (R + e) * H + D ≡ c * Q →
    S + 1 + c ≤ s → (r + e) * (r + e) * h + D ≤ s * Q
area B Q c e h r S H R D s start in_h in_r split far =
    let wide : r + e ≤ R + e = omega arith in
    omega (arith, mul-le-mul_right Q far, mul-le-mul_right B in_r, mul-le-mul_left (2 * e) (mul-le-mul wide in_h))

-- s·Q less D grows faster than s, so that up to m it is at most s/m of what it is at m; and so for the cubes
slope : (A D Q Z m s : ℕ) → A + D ≤ s * Q → Z + D ≡ m * Q → s ≤ m → pow cube A * pow cube m ≤ pow cube s * pow cube Z
slope A D Q Z m s h split le =
    let scaled : s * (Z + D) ≡ s * (m * Q) = rw split in
    let less : A * m ≤ s * Z = omega (arith, mul-le-mul_right m h, mul-le-mul_right D le) in
    omega (arith, rises cube less)

-- the square of u³·h is the cube of u·u·h over h
sixth : (K u h : ℕ) → K ≤ u * u * u * h → K * K * h ≤ pow cube (u * u * h)
sixth K u h le = omega (arith, mul-le-mul_right h (mul-le-mul le le))

-- what grows by Y a step and not by X does not stay within w of it
outgrown : (X Y w a b : ℕ) → X * a + w < Y * a → a ≤ b → Y * b ≤ X * b + w → ⊥
outgrown X Y w a b less le most = apart (Y - X) (add-sub_of_le (le_of_lt (lt_of_mul-lt-mul_right a {m = X} {n = Y} (omega arith))))
  where
    apart : (d : ℕ) → X + d ≡ Y → ⊥
    apart d split =
        let at_a : (X + d) * a ≡ Y * a = rw split in
        let at_b : (X + d) * b ≡ Y * b = rw split in
        omega (arith, mul-le-mul_left d le)

-- the entry's test refutes such an s, in names for the cubes: q of s, A of its area, Z of the greatest area, m and a of the
-- greatest and the least s
refuted : (B K h q A Z m a : ℕ) → q < (h + 1) * B → K * h ≤ A → A * m ≤ q * Z → B * Z * a + K * m * B < K * m * a → a ≤ q → ⊥
refuted B K h q A Z m a near six steep test le =
    outgrown (B * Z) (K * m) (K * m * B) a q test le
    (omega (arith, mul-le-mul_left (K * m) (le_of_lt near), mul-le-mul_right (m * B) six, mul-le-mul_right B steep))

-- what the entry's test says, with the greatest h and r, the least and the greatest root, and the least (r + e)³·h, which is K
pub record Sharp (B Q c e K H R D Z least greatest : ℕ) : Type 0 where
  pub split : R * B + 2 * e * (R + e) * H + D ≡ c * Q
  pub scaled : Z + D ≡ greatest * Q
  pub steep : B * pow cube Z * pow cube least + K * K * pow cube greatest * B < K * K * pow cube greatest * pow cube least

-- a root s between those ends, whose cube is below the end of h's unit, is at most c above the start
pub never_far : {B Q c e K H R D Z least greatest : ℕ} (h r S s : ℕ) → Sharp B Q c e K H R D Z least greatest →
    r * r * h ≤ (S + 1) * Q + r * B → h ≤ H → r ≤ R → K ≤ pow cube (r + e) * h → least ≤ s → s ≤ greatest → pow cube s < (h + 1) * B →
    s ≤ S + c
never_far {B} {Q} {c} {e} {K} {H} {R} {D} {Z} {least} {greatest} h r S s sharp start in_h in_r large from to low =
    let closer : s < S + 1 + c = lt_of_not-le far in
    omega arith
  where
    A : ℕ
    A = (r + e) * (r + e) * h

    far : S + 1 + c ≤ s → ⊥
    far beyond =
        refuted B (K * K) h (pow cube s) (pow cube A) (pow cube Z) (pow cube greatest) (pow cube least) low (sixth K (r + e) h large)
        (slope A D Q Z greatest s (area B Q c e h r S H R D s start in_h in_r sharp.split beyond) sharp.scaled to)
        sharp.steep (rises cube from)
