-- The whole output of the program `root`, for every input.
use Rattle.std.specs.Prelude.{◌≡◌, List, ◌++◌, ℕ, length, take, Option, Some, None}
use Rattle.defs.specs.Kinds.{Kind, Width, u32}
use Rattle.defs.specs.Roots.{root_of, rest_of}
use Rattle.defs.specs.Cells.{full_start, full_steps}
use Rattle.values.specs.Kinds.{kind_of}
use Rattle.text.specs.Request.{request_of}
use Rattle.text.specs.Writing.{Wrote}
use Rattle.text.specs.declared.request.Request.{Request}
use Rattle.reply.specs.Lines.{bad_input, asked_lines, found_lines}

-- the seven lines of the root of a value: what was asked, and the numbers of its full call
unfoldable pub answer_of : Kind → Width → ℕ → List ℕ
answer_of k w v = asked_lines k w v ++ found_lines (root_of k v) (rest_of k v) (full_start k w v) (full_steps k w v)

-- the output for what was read of the input: the seven lines of a good request, else `bad input`
unfoldable pub answer_to : Option Request → List ℕ
answer_to (Some r) = answer_of (kind_of r.kind) u32 r.value
answer_to None = bad_input

-- the output for the whole input
unfoldable pub reply_of : List ℕ → List ℕ
reply_of s = answer_to (request_of s)

-- the first `read` bytes of the window are what was read of the input: as many of its first bytes as the window has room for
abbrev pub ReadInto : List ℕ → ℕ → List ℕ → Type 0
ReadInto window read input = take read window ≡ take (length window) input

-- the output for every input of which that was read is written to the front of a list
pub record Replied (window : List ℕ) (read : ℕ) (old new : List ℕ) (r : Option ℕ) : Type 0 where
  pub to_each : (input : List ℕ) → ReadInto window read input → Wrote old 0 (reply_of input) new r
