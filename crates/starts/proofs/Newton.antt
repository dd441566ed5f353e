-- One step of Newton towards a root of 1/g, over the kind: it is a polynomial in v = p^k·g that rises up to c and falls after it,
-- so that its top says "never too large" and its two ends say "never too small". Assumes nothing.
use mathlib.Core.Path.{◌≡◌, refl, ap, subst₂}
use mathlib.Core.Bool.{Bool, true, false}
use Prim.Native.Nat.{ℕ, ◌+◌, ◌*◌, ◌-◌, ◌≤◌, ◌<◌}
use native.Mathlib.Nat.{le_refl, le_trans, le_of_lt, add-sub_of_le, sub-eq-zero_of_le}
use native.Mathlib.Nat.{mul_right_comm, mul-le-mul_left, mul-le-mul_right, le_of_mul-le-mul_right}
use native.Mathlib.Omega.{arith}
use lib.Dec.{leb}
use borrow.Author.Tests.{leb-true, leb-false}
use Rattle.defs.specs.Kinds.{Kind, square, cube, pow, degree}
use Rattle.laws.proofs.Powers.{rises, pow_product, pow_positive}

-- the k-th power of p·((k+1)c − v), times g, where v = p^k·g
abbrev pub phi : Kind → ℕ → ℕ → ℕ
phi k c v = v * pow k ((degree k + 1) * c - v)

-- up to the top: v·(N+d)^k ≤ (v+d)·N^k
climbs : (k : Kind) (v d N : ℕ) → degree k * (v + d) ≤ N → v * pow k (N + d) ≤ (v + d) * pow k N
climbs square v d N h = omega (arith, mul-le-mul_right (N * d) h, mul-le-mul_right (d * d) h)
climbs cube v d N h = omega (arith, mul-le-mul_right (N * N * d) h, mul-le-mul_right (N * d * d) h, mul-le-mul_right (d * d * d) h)

-- past the top: (w+d)·N^k ≤ w·(N+d)^k
sinks : (k : Kind) (w d N : ℕ) → N ≤ degree k * w → (w + d) * pow k N ≤ w * pow k (N + d)
sinks square w d N h = omega (arith, mul-le-mul_right (N * d) h)
sinks cube w d N h = omega (arith, mul-le-mul_right (N * N * d) h)

-- the power of 0 is 0
no_power : (k : Kind) (v : ℕ) → v * pow k 0 ≡ 0
no_power square v = omega arith
no_power cube v = omega arith

-- phi rises up to c
phi_rises : (k : Kind) (c v w : ℕ) → v ≤ w → w ≤ c → phi k c v ≤ phi k c w
phi_rises k c v w vw wc =
    let N = (degree k + 1) * c - w in
    let far : degree k * w ≤ degree k * c = mul-le-mul_left (degree k) wc in
    subst₂ (λ (M : ℕ) (u : ℕ). v * pow k M ≤ u * pow k N) (omega arith) (omega arith)
    (climbs k v (w - v) N (rw (add-sub_of_le vw) (omega arith)))

-- phi falls from c on
phi_falls : (k : Kind) (c w v : ℕ) → c ≤ w → w ≤ v → phi k c v ≤ phi k c w
phi_falls k c w v cw wv = by_size (leb v ((degree k + 1) * c)) refl
  where
    N : ℕ
    N = (degree k + 1) * c - v

    far : degree k * c ≤ degree k * w
    far = mul-le-mul_left (degree k) cw

    by_size : (t : Bool) → leb v ((degree k + 1) * c) ≡ t → phi k c v ≤ phi k c w
    by_size true e =
        let fits = leb-true v ((degree k + 1) * c) e in
        subst₂ (λ (u : ℕ) (M : ℕ). u * pow k N ≤ w * pow k M) (omega arith) (omega arith)
        (sinks k w (v - w) N (omega (arith, far)))
    by_size false e = rw (sub-eq-zero_of_le (le_of_lt (leb-false v ((degree k + 1) * c) e))) (omega (arith, no_power k v))

-- phi is nowhere above its value at c
top : (k : Kind) (c v : ℕ) → phi k c v ≤ c * pow k (degree k * c)
top k c v = by_size (leb v c) refl
  where
    is_top : phi k c c ≡ c * pow k (degree k * c)
    is_top = ap (λ (M : ℕ). c * pow k M) (omega arith)

    by_size : (t : Bool) → leb v c ≡ t → phi k c v ≤ c * pow k (degree k * c)
    by_size true e = rw is_top at (phi_rises k c v c (leb-true v c e) (le_refl c))
    by_size false e = rw is_top at (phi_falls k c c v (le_refl c) (le_of_lt (leb-false v c e)))

-- between two ends phi is at least what it is at both
ends : (k : Kind) (c lo v hi m : ℕ) → lo ≤ v → v ≤ hi → m ≤ phi k c lo → m ≤ phi k c hi → m ≤ phi k c v
ends k c lo v hi m a b at_lo at_hi = by_size (leb v c) refl
  where
    by_size : (t : Bool) → leb v c ≡ t → m ≤ phi k c v
    by_size true e = le_trans at_lo (phi_rises k c lo v a (leb-true v c e))
    by_size false e = le_trans at_hi (phi_falls k c v hi (le_of_lt (leb-false v c e)) b)

-- the power of a step y·D, times g; and of the right side, which is phi
left_side : (k : Kind) (y D g : ℕ) → pow k (y * D) * g ≡ pow k y * g * pow k D
left_side k y D g = rw (pow_product k y D) (mul_right_comm (pow k y) (pow k D) g)

right_side : (k : Kind) (p c g : ℕ) → pow k (p * ((degree k + 1) * c - pow k p * g)) * g ≡ phi k c (pow k p * g)
right_side k p c g =
    let Q = (degree k + 1) * c - pow k p * g in
    rw (pow_product k p Q) (mul_right_comm (pow k p) (pow k Q) g)

-- a step y with y·D ≤ p·((k+1)c − p^k·g) is never too large: y^k·g ≤ m, where k^k·c^(k+1) ≤ m·D^k
pub never_large : (k : Kind) (y D p c g m : ℕ) → 0 < D → y * D ≤ p * ((degree k + 1) * c - pow k p * g) →
    c * pow k (degree k * c) ≤ m * pow k D → pow k y * g ≤ m
never_large k y D p c g m pos step enough =
    let raised = rw (left_side k y D g, right_side k p c g) at (mul-le-mul_right g (rises k step)) in
    le_of_mul-le-mul_right (le_trans raised (le_trans (top k c (pow k p * g)) enough)) (pow_positive k pos)

-- a step y with p·((k+1)c − p^k·g) ≤ y·D, where p^k·g lies from lo to hi, is never too small: m ≤ y^k·g, where m·D^k is at most
-- phi at both ends
pub never_small : (k : Kind) (y D p c g m lo hi : ℕ) → 0 < D → p * ((degree k + 1) * c - pow k p * g) ≤ y * D →
    lo ≤ pow k p * g → pow k p * g ≤ hi → m * pow k D ≤ phi k c lo → m * pow k D ≤ phi k c hi → m ≤ pow k y * g
never_small k y D p c g m lo hi pos step above below at_lo at_hi =
    let raised = rw (left_side k y D g, right_side k p c g) at (mul-le-mul_right g (rises k step)) in
    let least = ends k c lo (pow k p * g) hi (m * pow k D) above below at_lo at_hi in
    le_of_mul-le-mul_right (le_trans least raised) (pow_positive k pos)
