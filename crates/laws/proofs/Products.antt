-- A guess has nine bits, its square eighteen and its cube twenty-seven. Assumes nothing.
use Prim.Native.Nat.{ℕ, ◌*◌, ◌^◌, ◌≤◌, ◌<◌}
use native.Mathlib.Nat.{mul-le-mul}
use native.Mathlib.Omega.{arith}

pub guess_powers : {p : ℕ} → p < 512 → (p * p < 2 ^ 18) × (p * p * p < 2 ^ 27)
guess_powers {p} h =
    let l : p ≤ 511 = omega arith in
    (omega (arith, mul-le-mul l l), omega (arith, mul-le-mul (mul-le-mul l l) l))
