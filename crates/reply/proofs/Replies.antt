-- What the output is for a good request, and for anything else. Assumes nothing.
use mathlib.Core.Path.{◌≡◌, refl}
use mathlib.Core.List.{List, ◌++◌}
use Prim.Native.Nat.{ℕ}
use Rattle.defs.specs.Kinds.{Kind, square, cube, Width, u32}
use Rattle.defs.specs.Answers.{Full}
use Rattle.laws.proofs.Roots.{one_answer, answer_is}
use Rattle.std.specs.Prelude.{Option, Some, None}
use Rattle.text.specs.Request.{Asks, request_of}
use Rattle.text.specs.declared.request.Request.{Request}
use Rattle.text.proofs.Asking.{answers, asks}
use Rattle.reply.specs.Lines.{bad_input, asked_lines, found_lines}
use Rattle.reply.specs.Reply.{answer_of, answer_to, reply_of}

-- a good request gets the seven lines of its kind and value
pub good_reply : (k : Kind) {v : ℕ} {s : List ℕ} → Asks k v s → reply_of s ≡ answer_of k u32 v
unfolding reply_of answer_to
good_reply square a = rw (answers square a)
good_reply cube a = rw (answers cube a)

-- anything else gets the line `bad input`
pub bad_reply : (s : List ℕ) → ((k : Kind) (v : ℕ) → Asks k v s → ⊥) → reply_of s ≡ bad_input
unfolding reply_of answer_to
bad_reply s none = by_cases (request_of s) refl
  where
    by_cases : (r : Option Request) → request_of s ≡ r → reply_of s ≡ bad_input
    by_cases (Some r) e = absurd (none _ _ (asks s e))
    by_cases None e = rw e

-- the seven lines from what a full call answers
pub answer_found : {k : Kind} {w : Width} {v root rest start steps : ℕ} → Full k w v root rest start steps →
    asked_lines k w v ++ found_lines root rest start steps ≡ answer_of k w v
unfolding answer_of
answer_found {k} {w} {v} f =
    let same = one_answer k f.root_rem (answer_is k v) in
    rw (same.0, same.1, f.is_start, f.is_steps)
