-- A reply that was written from the front of a list with room for 128 bytes stands there whole. Assumes nothing.
use mathlib.Core.Path.{◌≡◌, sym, ◌∙◌, ap}
use mathlib.Core.Bool.{true}
use mathlib.Core.List.{List}
use Prim.Native.Nat.{ℕ, ◌+◌, ◌≤◌}
use native.Mathlib.Nat.{zero-add, le_trans}
use native.Mathlib.Omega.{arith}
use lib.ListN.{length, take, length-take}
use Rattle.text.specs.Request.{request_of}
use Rattle.text.specs.Writing.{Wrote}
use Rattle.text.specs.declared.request.Request.{Request}
use Rattle.std.specs.Prelude.{Option, Some, is_some}
use Rattle.std.proofs.lemmas.Option.{same_Some}
use Rattle.text.proofs.Writing.{length-pasted, wrote_fits}
use Rattle.reply.specs.Putting.{Puts}
use Rattle.reply.specs.Reply.{answer_to, reply_of}
use Rattle.reply.proofs.Putting.{begins_with, puts_same}
use Rattle.reply.proofs.Lengths.{reply_length}

fits : (s old : List ℕ) → 128 ≤ length old → 0 + length (reply_of s) ≤ length old
fits s old room = rw zero-add (le_trans (reply_length s) room)

module _ (s : List ℕ) {old new : List ℕ} {r : Option ℕ} (room : 128 ≤ length old) (w : Wrote old 0 (reply_of s) new r) where
  -- it is written
  pub reply_written : is_some r ≡ true
  reply_written = rw (wrote_fits (fits s old room) w)

  module _ {end : ℕ} (is_end : r ≡ Some end) where
    -- what the list begins with, up to the place behind the reply
    pub reply_held : take end new ≡ reply_of s
    reply_held = begins_with (fits s old room) (rw is_end at w)

    -- that place is in the list
    pub end_inside : end ≤ length new
    end_inside =
        let place = same_Some _ _ (sym is_end ∙ wrote_fits (fits s old room) w) in
        let long : length new ≡ length old = ap length w.is_text ∙ length-pasted old 0 (reply_of s) in
        omega (arith, place, fits s old room)

    pub end_is_length : end ≡ length (take end new)
    end_is_length = simp length-take (omega (arith, end_inside))

-- what is put for the request that was read is the reply
pub put_whole : (s : List ℕ) {old new : List ℕ} {r : Option ℕ} → 128 ≤ length old → {q : Option Request} → q ≡ request_of s → Puts old 0 (answer_to q) new r →
    Wrote old 0 (reply_of s) new r
unfolding reply_of
put_whole s {old} room read put = (puts_same (ap answer_to read) put).in_room (fits s old room)
