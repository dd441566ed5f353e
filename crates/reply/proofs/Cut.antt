-- A good input has at most 18 bytes, so a reader may cut the input anywhere behind them. Assumes nothing.
use mathlib.Core.Path.{◌≡◌, sym, ◌∙◌, ap}
use mathlib.Core.List.{List, [], ◌∷◌}
use mathlib.Core.Logic.{◌⊎◌, inl, inr}
use Prim.Native.Nat.{ℕ, ◌≤◌, ◌<◌, min}
use native.Mathlib.Omega.{arith}
use lib.Dec.{lit≤}
use lib.ListN.{length, take, length-append, length-take}
use lib.Seq.{take_all, length-take-le}
use Rattle.std.proofs.lemmas.List.{take_min}
use Rattle.defs.specs.Kinds.{Kind, square, cube}
use Rattle.laws.proofs.Powers.{le_or_lt}
use Rattle.text.specs.Request.{Asks, word_of}
use Rattle.text.specs.Writing.{Wrote}
use Rattle.std.specs.Prelude.{Option}
use Rattle.text.proofs.Writing.{wrote_same}
use Rattle.reply.specs.Lines.{bad_input}
use Rattle.reply.specs.Reply.{reply_of, Replied}
use Rattle.reply.proofs.Replies.{bad_reply}

word_length : (k : Kind) → length (word_of k) ≤ 7
word_length square = lit≤ tt
word_length cube = lit≤ tt

good_length : (k : Kind) {v : ℕ} {s : List ℕ} → Asks k v s → length s ≤ 18
good_length k a =
    let behind = length-append a.digits (10 ∷ []) in
    rw (a.whole, length-append) (omega (arith, behind, word_length k, a.reads.few_digits))

long_reply : (s : List ℕ) → 18 < length s → reply_of s ≡ bad_input
long_reply s h = bad_reply s (λ k v a. omega (arith, good_length k a))

-- the reply to the first n bytes is the reply to the whole input
pub cut_reply : (n : ℕ) (s : List ℕ) → 18 < n → reply_of (take n s) ≡ reply_of s
cut_reply n s h = by_size (le_or_lt (length s) n)
  where
    by_size : (length s ≤ n) ⊎ (n < length s) → reply_of (take n s) ≡ reply_of s
    by_size (inl short) = ap reply_of (take_all n s short)
    by_size (inr long) = long_reply (take n s) (omega (arith, length-take-le n s (omega arith))) ∙ sym (long_reply s (omega arith))

-- so a window longer than any good input is enough: the reply to what was read is the reply to every input of which it was read
pub replied : {window : List ℕ} {read : ℕ} {old new : List ℕ} {r : Option ℕ} → 18 < length window →
    Wrote old 0 (reply_of (take read window)) new r → Replied window read old new r
replied {window} long w = record { to_each = λ input seen. wrote_same (ap reply_of seen ∙ cut_reply (length window) input long) w }

-- and so is a slice of it that ends where the read did, or at the window's end
pub replied_at : {window : List ℕ} {read end : ℕ} {old new : List ℕ} {r : Option ℕ} → 18 < length window → end ≡ min read (length window) →
    Wrote old 0 (reply_of (take end window)) new r → Replied window read old new r
replied_at {window} {read} long e w = replied long (wrote_same (ap reply_of (rw e (take_min read window))) w)

-- what was read is such an input itself
pub own_reply : {window : List ℕ} {read : ℕ} {old new : List ℕ} {r : Option ℕ} → Replied window read old new r →
    Wrote old 0 (reply_of (take read window)) new r
own_reply {window} {read} a = a.to_each (take read window) (sym (take_all (length window) (take read window) (omega (arith, length-take read window))))

-- so no second output and no second answer fit
pub one_reply : {window : List ℕ} {read : ℕ} {old new new' : List ℕ} {r r' : Option ℕ} → Replied window read old new r →
    Replied window read old new' r' → (new ≡ new') × (r ≡ r')
one_reply a b =
    let p = own_reply a in
    let q = own_reply b in
    (p.is_text ∙ sym q.is_text, p.is_answer ∙ sym q.is_answer)
