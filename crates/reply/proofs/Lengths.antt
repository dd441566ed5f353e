-- How long a reply is at most: short enough for the 128 bytes in which it is put together. Assumes nothing.
use mathlib.Core.Path.{◌≡◌, refl}
use mathlib.Core.List.{List, [], ◌∷◌, ◌++◌}
use Prim.Native.Nat.{ℕ, zero, suc, ◌+◌, ◌^◌, ◌≤◌, ◌<◌}
use native.Mathlib.Nat.{zero-mul}
use native.Mathlib.Omega.{arith}
use lib.Dec.{lit<, lit≤}
use lib.ListN.{length, length-append}
use Rattle.defs.specs.Kinds.{Kind, square, cube, Width, u32, bits_of, root_bits}
use Rattle.defs.specs.Roots.{root_of, rest_of}
use Rattle.defs.specs.Cells.{raised, full_start, full_steps}
use Rattle.laws.proofs.Roots.{root_is, comes_back, answer_is}
use Rattle.laws.proofs.FixUp.{root_fits}
use Rattle.laws.proofs.Shift.{raised_top}
use Rattle.starts.proofs.Calls.{full_counts}
use Rattle.text.specs.Decimal.{text_of}
use Rattle.std.specs.Prelude.{Option, Some, None}
use Rattle.values.specs.Kinds.{kind_of}
use Rattle.text.specs.Request.{request_of}
use Rattle.text.specs.declared.request.Request.{Request}
use Rattle.text.proofs.Texts.{text_length_32}
use Rattle.text.proofs.Asking.{asks}
use Rattle.reply.specs.Lines.{line, number_line, width_name, kind_name, value_name, root_name, rest_name, start_name, steps_name, kind_text, asked_lines, found_lines}
use Rattle.reply.specs.Reply.{answer_of, answer_to, reply_of}

-- a value brought to its top bits stays within its width
raised_fits : (k : Kind) (w : Width) (n : ℕ) → n < 2 ^ bits_of w → raised k w n < 2 ^ bits_of w
unfolding raised
raised_fits k w zero h = rw zero-mul h
raised_fits k w (suc n) h = (raised_top k w (omega arith) h).in_width

-- so start and steps of a full call, which add up to its root, fit the root's type
full_fits : (k : Kind) (w : Width) (n : ℕ) → n < 2 ^ bits_of w → full_start k w n + full_steps k w n < 2 ^ root_bits w
full_fits k w n h =
    let top : ℕ = raised k w n in
    rw (full_counts k w n h).0 (root_fits k w (root_of k top) top (root_is k top).fits (raised_fits k w n h))

-- a line is its name, its text and a newline
line_length : (name text : List ℕ) → length (line name text) ≡ length name + length text + 1
unfolding line
line_length name text = omega (arith, length-append name (text ++ (10 ∷ [])), length-append text (10 ∷ []))

number_length : (name : List ℕ) (n : ℕ) → n < 2 ^ 32 → length (number_line name n) ≤ length name + 11
number_length name n h = omega (arith, line_length name (text_of n), text_length_32 n h)

-- the seven lines of a u32, with at most ten digits a number
answer_length : (k : Kind) (v : ℕ) → v < 2 ^ 32 → length (answer_of k u32 v) ≤ 128
unfolding answer_of asked_lines found_lines
answer_length k v h =
    let bill = full_fits k u32 v h in
    let root : root_of k v < 2 ^ 16 = root_fits k u32 (root_of k v) v (root_is k v).fits h in
    let back = comes_back k (answer_is k v) in
    simp length-append
    (omega (
      arith,
      number_length width_name 32 (lit< tt),
      line_length kind_name (kind_text k),
      kind_length k,
      number_length value_name v h,
      number_length root_name (root_of k v) (omega arith),
      number_length rest_name (rest_of k v) (omega arith),
      number_length start_name (full_start k u32 v) (omega arith),
      number_length steps_name (full_steps k u32 v) (omega arith),
    ))
  where
    kind_length : (k : Kind) → length (kind_text k) ≤ 6
    kind_length square = lit≤ tt
    kind_length cube = lit≤ tt

-- every reply
pub reply_length : (s : List ℕ) → length (reply_of s) ≤ 128
unfolding reply_of answer_to
reply_length s = by_cases (request_of s) refl
  where
    by_cases : (r : Option Request) → request_of s ≡ r → length (reply_of s) ≤ 128
    by_cases (Some r) e = rw e (answer_length (kind_of r.kind) r.value (omega (arith, (asks s e).reads.small)))
    by_cases None e = rw e (lit≤ tt)
