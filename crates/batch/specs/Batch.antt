-- What a batch of u32 square roots is to do, done within a budget of steps: definitions alone.
use Rattle.std.specs.Prelude.{◌≡◌, cond, List, ◌++◌, map, sum_by, ℕ, ◌+◌, ◌-◌, ◌^◌, ◌≤◌, ◌<◌, ltb, eqb, length, take, drop, get_or}
use Rattle.defs.specs.Kinds.{square, u32}
use Rattle.defs.specs.Roots.{root_of}
use Rattle.defs.specs.Cells.{full_steps}
use Rattle.defs.specs.Refusals.{no_refusal, first_beyond, count_beyond, lengths_differ}

-- what one value costs: the steps of its full call
abbrev pub cost_of : ℕ → ℕ
cost_of n = full_steps square u32 n

-- what the values of a list cost together
abbrev pub costs : List ℕ → ℕ
costs values = sum_by cost_of values

-- k is at most the length of the list, and its first k values cost at most the budget together
pub record Affords (values : List ℕ) (budget k : ℕ) : Type 0 where
  pub within : k ≤ length values
  pub in_budget : costs (take k values) ≤ budget

-- k is the largest such number, and no other is: the theorem `one_largest` of proofs/Largest.antt
pub record Largest (values : List ℕ) (budget k : ℕ) : Type 0 where
  pub affords : Affords values budget k
  pub largest : (j : ℕ) → Affords values budget j → j ≤ k

-- a batch over the values of a part, whose roots go to the places from `first` on: done is the largest number of values that the budget
-- affords, spent is what they cost, never above the budget, their roots are written, and every other place is as it was
pub record Ran (values before : List ℕ) (first budget done spent : ℕ) (after : List ℕ) : Type 0 where
  pub is_done : Largest values budget done
  pub is_spent : spent ≡ costs (take done values)
  pub in_budget : spent ≤ budget
  pub is_after : after ≡ take first before ++ (map (root_of square) (take done values) ++ drop (first + done) before)

-- a batch that is refused: no value done, no step spent, and every place as it was
pub record NothingDone (before : List ℕ) (done spent : ℕ) (after : List ℕ) : Type 0 where
  pub none_done : done ≡ 0
  pub none_spent : spent ≡ 0
  pub unchanged : after ≡ before

-- the part of `count` values that starts at `first`
abbrev pub part : ℕ → ℕ → List ℕ → List ℕ
part first count values = take count (drop first values)

-- the refusal by the two numbers and the lengths of the two slices, in the order 2, 3, 4; else 0. By tests of numbers, as a wrong order is tried in this text
unfoldable pub refusal_of : ℕ → ℕ → ℕ → ℕ → ℕ
refusal_of first count values roots =
    cond (ltb values first) first_beyond (cond (ltb (values - first) count) count_beyond (cond (eqb values roots) no_refusal lengths_differ))

-- a batch, whole: its refusal, and what it then leaves
pub record Batched (values before : List ℕ) (first count budget refusal done spent : ℕ) (after : List ℕ) : Type 0 where
  pub is_refusal : refusal ≡ refusal_of first count (length values) (length before)
  pub if_refused : (refusal ≡ no_refusal → ⊥) → NothingDone before done spent after
  pub if_answered : refusal ≡ no_refusal → Ran (part first count values) before first budget done spent after

-- the list holds u32 values, as that of every lent slice of them does (past its end `get_or` gives 0)
abbrev pub U32s : List ℕ → Type 0
U32s l = (i : ℕ) → get_or l i 0 < 2 ^ 32
