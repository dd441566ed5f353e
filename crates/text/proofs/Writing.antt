-- Laws on writes: one that fits, one that does not, and two in a row. Assumes nothing.
use mathlib.Core.Path.{◌≡◌, refl, sym, ◌∙◌, ap, subst}
use mathlib.Core.Bool.{Bool, true, false}
use mathlib.Core.List.{List, ◌++◌, append_assoc}
use Prim.Native.Nat.{ℕ, ◌+◌, ◌-◌, ◌≤◌, ◌<◌}
use native.Mathlib.Nat.{add_assoc}
use native.Mathlib.Omega.{arith}
use lib.ListN.{length, take, drop, length-append}
use lib.Seq.{take-length, paste, length-paste, take-paste, drop-paste, drop-drop}
use borrow.Rule.Slice.PartMut.{put_mid}
use borrow.Author.Tests.{le-leb, lt-leb, leb-true, leb-false}
use Rattle.std.specs.Prelude.{Option, Some, None}
use Rattle.std.proofs.lemmas.Option.{same_Some}
use Rattle.std.proofs.lemmas.Slice.{put_mid-paste}
use Rattle.text.specs.Writing.{fits_at, pasted, Wrote}

-- a write that fits, and one that does not
pub pasted_fits : (old : List ℕ) (at : ℕ) (bytes : List ℕ) → at + length bytes ≤ length old →
    pasted old at bytes ≡ take at old ++ (bytes ++ drop (at + length bytes) old)
unfolding pasted
pasted_fits old at bytes h = rw (le-leb (at + length bytes) (length old) h)

pub pasted_past : (old : List ℕ) (at : ℕ) (bytes : List ℕ) → length old < at + length bytes → pasted old at bytes ≡ old
unfolding pasted
pasted_past old at bytes h = rw (lt-leb (at + length bytes) (length old) h)

pasted-paste : (old : List ℕ) (at : ℕ) (bytes : List ℕ) → at + length bytes ≤ length old →
    pasted old at bytes ≡ paste old at bytes (length bytes)
pasted-paste old at bytes h =
    pasted_fits old at bytes h ∙ sym (append_assoc (take at old) bytes _) ∙ rw (take-length bytes)

-- a write of the same bytes
pub wrote_same : {old : List ℕ} {at : ℕ} {a b new : List ℕ} {r : Option ℕ} → a ≡ b → Wrote old at a new r → Wrote old at b new r
wrote_same {old} {at} {new = new} {r = r} e w = subst (λ (l : List ℕ). Wrote old at l new r) e w

-- a write that does not fit leaves the list, and says so
pub wrote_none : (old : List ℕ) (at : ℕ) (bytes : List ℕ) → length old < at + length bytes → Wrote old at bytes old None
wrote_none old at bytes h = record {
  is_text = sym (pasted_past old at bytes h);
  is_answer = rw (lt-leb (at + length bytes) (length old) h);
}

-- a part of the list that was overwritten with the bytes
pub wrote_part : (old : List ℕ) (at end : ℕ) (bytes part : List ℕ) → end ≡ at + length bytes → end ≤ length old → part ≡ bytes →
    Wrote old at bytes (put_mid at (end - at) old part) (Some end)
wrote_part old at end bytes part e h same =
    let fits : at + length bytes ≤ length old = omega arith in
    record {
      is_text = put_mid-paste at (end - at) old part bytes (length bytes) same (omega arith) refl ∙ sym (pasted-paste old at bytes fits);
      is_answer = rw (le-leb (at + length bytes) (length old) fits, e);
    }

-- a write keeps the length
pub length-pasted : (old : List ℕ) (at : ℕ) (bytes : List ℕ) → length (pasted old at bytes) ≡ length old
length-pasted old at bytes = by_test (fits_at old at bytes) refl
  where
    by_test : (t : Bool) → fits_at old at bytes ≡ t → length (pasted old at bytes) ≡ length old
    by_test true e =
        let fits = leb-true (at + length bytes) (length old) e in
        ap length (pasted-paste old at bytes fits) ∙ length-paste old at bytes (length bytes) fits (omega arith)
    by_test false e = ap length (pasted_past old at bytes (leb-false (at + length bytes) (length old) e))

-- two writes in a row, where both fit, are one write of the bytes in a row
pub two_writes : (old : List ℕ) (at : ℕ) (a b : List ℕ) → at + length (a ++ b) ≤ length old →
    pasted (pasted old at a) (at + length a) b ≡ pasted old at (a ++ b)
two_writes old at a b h =
    pasted_fits (pasted old at a) next b (omega (arith, length-append a b, length-pasted old at a))
    ∙ rw (pasted-paste old at a first, take-paste old at a (length a) (omega arith) (omega arith), behind, take-length a)
    (rw (length-append, ← add_assoc) (simp append_assoc))
    ∙ sym (pasted_fits old at (a ++ b) h)
  where
    next : ℕ
    next = at + length a

    first : at + length a ≤ length old
    first = omega (arith, length-append a b)

    behind : drop (next + length b) (paste old at a (length a)) ≡ drop (next + length b) old
    behind =
        sym (drop-drop (length b) next (paste old at a (length a)))
        ∙ ap (drop (length b)) (drop-paste old at a (length a) (omega arith) (omega arith))
        ∙ drop-drop (length b) next old

-- the answer to a write that fits
pub wrote_fits : {old : List ℕ} {at : ℕ} {bytes new : List ℕ} {r : Option ℕ} → at + length bytes ≤ length old → Wrote old at bytes new r →
    r ≡ Some (at + length bytes)
wrote_fits {old} {at} {bytes} h w = w.is_answer ∙ rw (le-leb (at + length bytes) (length old) h)

-- the same of the writers: two writes in a row, the second where the first ended
pub writes_on : {old : List ℕ} {at next : ℕ} {a b mid new : List ℕ} {r : Option ℕ} → at + length (a ++ b) ≤ length old →
    Wrote old at a mid (Some next) → Wrote mid next b new r → Wrote old at (a ++ b) new r
writes_on {old} {at} {next} {a} {b} {mid} {new} h first second =
    let place : next ≡ at + length a = same_Some _ _ (wrote_fits (omega (arith, length-append a b)) first) in
    let long : length mid ≡ length old = ap length first.is_text ∙ length-pasted old at a in
    let end : next + length b ≡ at + length (a ++ b) = omega (arith, length-append a b) in
    record {
      is_text = second.is_text ∙ rw (place, first.is_text) (two_writes old at a b h);
      is_answer = wrote_fits (omega arith) second ∙ rw (end, le-leb (at + length (a ++ b)) (length old) h);
    }
