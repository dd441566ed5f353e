-- Laws on texts put into a list: two in a row are one text, and what a list with room then begins with. Assumes nothing.
use mathlib.Core.Path.{◌≡◌, ◌∙◌, ap, subst}
use mathlib.Core.List.{List, [], ◌∷◌, ◌++◌}
use Prim.Native.Nat.{ℕ, ◌+◌, ◌≤◌}
use native.Mathlib.Omega.{arith}
use lib.ListN.{length, take, length-append}
use lib.Seq.{take-append_seam}
use Rattle.std.proofs.lemmas.Option.{same_Some, none-some}
use Rattle.text.specs.Writing.{Wrote}
use Rattle.std.specs.Prelude.{Option, Some, None}
use Rattle.text.proofs.Writing.{length-pasted, pasted_fits, wrote_fits, writes_on}
use Rattle.reply.specs.Lines.{line}
use Rattle.reply.specs.Putting.{Puts}

-- what was written was put
pub puts : {old : List ℕ} {at : ℕ} {bytes new : List ℕ} {r : Option ℕ} → Wrote old at bytes new r → Puts old at bytes new r
puts w = record { in_room = λ h. w }

-- a put of the same bytes
pub puts_same : {old : List ℕ} {at : ℕ} {a b new : List ℕ} {r : Option ℕ} → a ≡ b → Puts old at a new r → Puts old at b new r
puts_same {old} {at} {new = new} {r = r} e p = subst (λ (l : List ℕ). Puts old at l new r) e p

-- two texts in a row, the second where the first ended
pub puts_on : {old : List ℕ} {at next : ℕ} {a b mid new : List ℕ} {q r : Option ℕ} → Puts old at a mid q → q ≡ Some next → Puts mid next b new r →
    Puts old at (a ++ b) new r
puts_on {old} {at} {next} {a} {b} {mid} {new} {q} {r} first is_next second = record { in_room = both }
  where
    both : at + length (a ++ b) ≤ length old → Wrote old at (a ++ b) new r
    both h =
        let room : at + length a ≤ length old = omega (arith, length-append a b) in
        let one : Wrote old at a mid (Some next) = rw is_next at (first.in_room room) in
        let place : next ≡ at + length a = same_Some _ _ (wrote_fits room one) in
        let long : length mid ≡ length old = ap length one.is_text ∙ length-pasted old at a in
        writes_on h one (second.in_room (omega (arith, length-append a b)))

-- a first text that was not put: it had no room, nor had both
pub puts_stop : {old : List ℕ} {at : ℕ} {a mid : List ℕ} (b : List ℕ) → Puts old at a mid None → Puts old at (a ++ b) mid None
puts_stop {old} {at} {a} {mid} b first = record { in_room = none }
  where
    none : at + length (a ++ b) ≤ length old → Wrote old at (a ++ b) mid None
    none h =
        let room : at + length a ≤ length old = omega (arith, length-append a b) in
        absurd (none-some _ (wrote_fits room (first.in_room room)))

-- a line: its name, its text and a newline
pub puts_line : {old : List ℕ} {at behind next : ℕ} {name text named said new : List ℕ} {p q r : Option ℕ} → Wrote old at name named p → p ≡ Some behind →
    Wrote named behind text said q → q ≡ Some next → Wrote said next (10 ∷ []) new r → Puts old at (line name text) new r
unfolding line
puts_line a is_behind b is_next c = puts_on (puts a) is_behind (puts_on (puts b) is_next (puts c))

-- a text written from the front is what the list begins with
pub begins_with : {old bytes new : List ℕ} {end : ℕ} → 0 + length bytes ≤ length old → Wrote old 0 bytes new (Some end) → take end new ≡ bytes
begins_with {old} {bytes} {end = end} h w =
    let place : end ≡ length bytes = omega (arith, same_Some _ _ (wrote_fits h w)) in
    rw (w.is_text, pasted_fits old 0 bytes h, place) (take-append_seam bytes _)
