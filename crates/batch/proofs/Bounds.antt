-- What follows of every batch from its promise alone: how far it goes, and what it spends at most. Assumes nothing.
use mathlib.Core.Path.{◌≡◌, sym, ◌∙◌}
use mathlib.Core.Logic.{⊎_elim}
use mathlib.Core.List.{List}
use Prim.Native.Nat.{ℕ, suc, ◌*◌, ◌-◌, ◌≤◌, ◌<◌}
use native.Mathlib.Nat.{lt_irrefl, le_refl, le_antisymm, lt_of_not-le, le_of_suc-le-suc}
use native.Mathlib.Omega.{arith}
use lib.ListN.{length, take}
use Rattle.defs.specs.Refusals.{no_refusal}
use Rattle.batch.specs.Batch.{costs, Affords, part, refusal_of, Batched, U32s}
use Rattle.batch.proofs.Costs.{part_most}
use Rattle.batch.proofs.Answers.{first_beyond_lem, count_beyond_lem, part_length, refused_or_not}

-- no refusal means that the part lies within the values
part_within : (first count values roots : ℕ) → refusal_of first count values roots ≡ no_refusal → (first ≤ values) × (count ≤ values - first)
part_within first count values roots none =
    let h : first ≤ values = le_of_suc-le-suc (lt_of_not-le (λ beyond. omega (arith, first_beyond_lem first count values roots beyond))) in
    (h, le_of_suc-le-suc (lt_of_not-le (λ beyond. omega (arith, count_beyond_lem first count values roots h beyond))))

module _ {values before after : List ℕ} {first count budget refusal done spent : ℕ} (b : Batched values before first count budget refusal done spent after) where
  -- a part that is not refused has `count` values
  part_is : refusal ≡ no_refusal → length (part first count values) ≡ count
  part_is none =
      let w = part_within first count (length values) (length before) (sym b.is_refusal ∙ none) in
      part_length first count values w.0 w.1

  -- done is at most `count`
  pub done_within : refusal ≡ no_refusal → done ≤ count
  done_within none = rw (part_is none) at (b.if_answered none).is_done.affords.within

  -- it stops short only where the next value would pass the budget
  pub done_short : refusal ≡ no_refusal → done < count → budget < costs (take (suc done) (part first count values))
  done_short none short =
      lt_of_not-le (λ fits.
      lt_irrefl done ((b.if_answered none).is_done.largest (suc done) (record { within = omega (arith, part_is none); in_budget = fits })))

  -- spent is at most the budget
  pub spent_in_budget : spent ≤ budget
  spent_in_budget =
      ⊎_elim (λ none. (b.if_answered none).in_budget) (λ some. omega (arith, (b.if_refused some).none_spent)) (refused_or_not refusal)

  -- spent is at most two steps for each value done
  pub spent_most : U32s values → spent ≤ 2 * done
  spent_most u =
      ⊎_elim (λ none. omega (arith, (b.if_answered none).is_spent, part_most first count values u done (done_within none))) (λ some.
      omega (arith, (b.if_refused some).none_spent)) (refused_or_not refusal)

  -- so a budget of two steps does at least one value
  pub moves_on : U32s values → refusal ≡ no_refusal → 0 < count → 2 ≤ budget → 0 < done
  moves_on u none some enough =
      (b.if_answered none).is_done.largest 1 (record { within = omega (arith, part_is none); in_budget = omega (arith, part_most first count values u 1 some) })

  -- and one of two steps a value finishes
  pub finishes : U32s values → refusal ≡ no_refusal → 2 * count ≤ budget → done ≡ count
  finishes u none enough =
      let whole : Affords (part first count values) budget count =
      record { within = omega (arith, part_is none); in_budget = omega (arith, part_most first count values u count (le_refl count)) } in
      le_antisymm (done_within none) ((b.if_answered none).is_done.largest count whole)
