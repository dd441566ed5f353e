-- Where S could be above the root: r·S is hardly above M, so S is then one of few numbers, near H·E/F for small E and F, and n is
-- just below S². A computed scan refutes all of them, at both widths. Assumes nothing.
use mathlib.Core.Path.{◌≡◌, sym, ap, subst}
use mathlib.Core.Bool.{Bool}
use Prim.Native.Nat.{ℕ, ◌+◌, ◌*◌, ◌-◌, ◌/◌, ◌≤◌, ◌<◌}
use native.Mathlib.Nat.{le_trans, lt_of_not-le, lt_of_le_of_lt, div-mul-le_self, lt-div-mul-add}
use native.Mathlib.Nat.{mul-le-mul_left, mul-le-mul_right, le_of_mul-le-mul_right, lt_of_mul-lt-mul_right}
use native.Mathlib.Omega.{arith, by_contra}
use lib.Dec.{T}
use Rattle.defs.specs.Kinds.{square}
use Rattle.laws.proofs.Powers.{below}
use Rattle.starts.specs.Near.{Near}
use Rattle.starts.proofs.Ranges.{range, between}
use Rattle.starts.proofs.SquareFinish.{Figures, Aimed, Floors, floors, a_below, high, low, bound}

-- how far n can be below S²
abbrev pub depth : ℕ → ℕ → ℕ → ℕ → ℕ
depth B F E S = 2 * (F * S) - E * B - F * F

-- the test f passes at each S that could be above the root, with how far n can be below S²
abbrev pub scan : ℕ → ℕ → ℕ → (ℕ → ℕ → Bool) → Bool
scan B H β f =
    range
    (λ F. range (λ E. range (λ S. f S (depth B F E S)) (β - F / 2) (E * H / F + F / 2 + 1)) (F - 1) (F + 1))
    (2 * β - 2) 2

-- a passed scan is the test at each of them
scanned : (B H β : ℕ) (f : ℕ → ℕ → Bool) → T (scan B H β f) → (F E S : ℕ) → F < 2 * β → F < E → E < 2 * F →
    E * H / F + F / 2 < S → S ≤ E * H / F + β → T (f S (depth B F E S))
scanned B H β f t F E S f_less e_more e_less s_more s_less =
    let at_F = between _ (2 * β - 2) 2 t F (omega arith) (omega arith) in
    let at_E = between _ (F - 1) (F + 1) at_F E (omega arith) (omega arith) in
    between _ (β - F / 2) (E * H / F + F / 2 + 1) at_E S (omega arith) (omega arith)

-- S is a + F, with r·S hardly above M
module _ (B H M β : ℕ) {n a r E F : ℕ} (some : 0 < B) (double : B ≡ 2 * H) (halves : 2 * M ≡ B * B) (l : Floors B n a r E F)
    (small : r < B) (fits : a + F ≤ B) (bound : r * (a + F) ≤ M + β * r) where
  module _ (above : n < (a + F) * (a + F)) where
    -- twice F-as-S lies above E-as-B by more than F²
    deep : E * B + F * F < 2 * (F * (a + F))
    deep = omega (arith, l.e_low, above)

    -- neither F nor r is 0
    f_some : 0 < F
    f_some = lt_of_not-le (λ (none : F ≤ 0). omega (arith, deep, mul-le-mul_right (a + F) none))

    r_some : 0 < r
    r_some = lt_of_not-le (λ (none : r ≤ 0). omega (arith, mul-le-mul_left E none, l.f_low, mul-le-mul_right B f_some, some))

    -- and twice F-as-S lies above E-as-B by at most 2βF
    not_deeper : 2 * (F * (a + F)) ≤ E * B + 2 * (β * F)
    not_deeper =
        le_of_mul-le-mul_right
        (omega (arith, mul-le-mul_left (2 * F) bound, mul-le-mul_right B l.f_low, ap (λ (x : ℕ). F * x) halves)) r_some

    -- so F is small, and E lies between F and 2F
    f_less : F < 2 * β
    f_less = lt_of_mul-lt-mul_right F (omega (arith, deep, not_deeper))

    e_more : F < E
    e_more = lt_of_not-le (λ (most : E ≤ F). omega (arith, mul-le-mul_right r most, mul-le-mul_left F small, l.f_low, f_some))

    e_less : E < 2 * F
    e_less = lt_of_mul-lt-mul_right B (omega (arith, deep, mul-le-mul_left (2 * F) fits))

    -- and S lies above H·E/F, by more than F/2 and at most β
    s_more : E * H / F + F / 2 < a + F
    s_more =
        let twice : 2 * (E * H / F) + F < 2 * (a + F) =
        lt_of_mul-lt-mul_right F (omega (arith, deep, div-mul-le_self (E * H) F, ap (λ (x : ℕ). E * x) double)) in
        omega (arith, twice)

    s_less : a + F ≤ E * H / F + β
    s_less =
        let twice : 2 * (a + F) < 2 * (E * H / F) + 2 + 2 * β =
        lt_of_mul-lt-mul_right F
        (omega (arith, not_deeper, lt-div-mul-add {a = E * H} f_some, ap (λ (x : ℕ). E * x) double)) in
        omega (arith, twice)

    -- n is no farther below S² than the scan looks
    in_depth : (a + F) * (a + F) ≤ n + depth B F E (a + F)
    in_depth = omega (arith, deep, l.e_low)

  -- a scan whose test n refutes shows that S is not above the root
  pub not_above : (f : ℕ → ℕ → Bool) → T (scan B H β f) →
      ((d : ℕ) → n < (a + F) * (a + F) → (a + F) * (a + F) ≤ n + d → T (f (a + F) d) → ⊥) → (a + F) * (a + F) ≤ n
  not_above f t refuted =
      by_contra ((a + F) * (a + F)) n
      (λ (above : n < (a + F) * (a + F)).
      refuted (depth B F E (a + F)) above (in_depth above)
      (scanned B H β f t F E (a + F) (f_less above) (e_more above) (e_less above) (s_more above) (s_less above)))

-- the start S of a width: with r and a as `Aimed` says, and S below every s that passes the test of the scan with n just below s², it
-- is not above the root, and at most two below it
pub near : {B M ζ τ κ σ ω J K G g n a r s ρ : ℕ} → Figures B M ζ τ κ σ ω J K G → Aimed B M ζ τ κ σ ω K g n a r s ρ →
    (H S : ℕ) → B ≡ 2 * H → S ≡ a + (n - a * a) / B * r / B → (f : ℕ → ℕ → Bool) → T (scan B H (τ + 3) f) →
    ((s d : ℕ) → n < s * s → s * s ≤ n + d → T (f s d) → S < s) → Near square 2 n S
near {B} {M} {ζ} {τ} {κ} {σ} {ω} {J} {K} {G} {g} {n} {a} {r} figures aimed H S double is f t beaten =
    subst (Near square 2 n) (sym is) ended
  where
    F : ℕ
    F = (n - a * a) / B * r / B

    l : Floors B n a r ((n - a * a) / B) F
    l = floors B n a r figures.some.0 (le_trans (a_below figures aimed) aimed.g_low)

    q : ℕ
    q = a + F - 1

    fits : q < B
    fits = below square q B (lt_of_le_of_lt (low figures aimed l) aimed.in_width)

    bounded : r * (a + F) ≤ M + (τ + 3) * r
    bounded = le_trans (mul-le-mul_left r (omega arith)) (bound figures aimed q (low figures aimed l) (omega arith))

    ended : Near square 2 n (a + F)
    ended = record {
      low =
          not_above B H M (τ + 3) figures.some.0 double figures.halves l aimed.r_fits (omega (arith, fits)) bounded f t
          (λ d above deep passed. omega (arith, is, beaten (a + F) d above deep passed));
      high = omega (arith, high figures aimed l);
    }
