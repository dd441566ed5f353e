-- What is left of a list after some of it was read. Assumes nothing.
use Rattle.std.proofs.Common.{◌≡◌, ◌≤◌, ◌+◌, ℕ, List, length, drop, arith}
use Rattle.std.proofs.lemmas.List.{length-drop}

pub left : (before : List ℕ) (n k : ℕ) {after : List ℕ} → after ≡ drop n before → n + k ≤ length before → k ≤ length after
left before n k e h = rw (e, length-drop n before) (omega (arith, h))
