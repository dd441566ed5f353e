-- A batch from its run: what each way through the call shows, and that no second answer fits. Assumes nothing.
use mathlib.Core.Path.{◌≡◌, refl, sym, ap, ◌∙◌}
use mathlib.Core.Logic.{◌⊎◌, inl, inr, ⊎_elim}
use mathlib.Core.List.{List, ◌++◌, append_assoc}
use Prim.Native.Nat.{ℕ, zero, suc, ◌+◌, ◌-◌, ◌≤◌, ◌<◌}
use native.Mathlib.Nat.{zero-add}
use native.Mathlib.Omega.{arith}
use lib.ListN.{length, take, drop, take-append-drop, length-take, length-drop}
use lib.Seq.{drop-append-le, drop-drop}
use borrow.Author.Tests.{lt-ltb, le-ltb, eq-eqb, ne_eqb}
use Rattle.defs.specs.Refusals.{no_refusal, first_beyond, count_beyond, lengths_differ}
use Rattle.std.specs.Prelude.{Result}
use Rattle.refusals.specs.declared.Refusal.{Refusal}
use Rattle.refusals.specs.Refusal.{number_in}
use Rattle.refusals.proofs.Numbers.{one_result}
use Rattle.batch.specs.declared.run.Finished.{Finished}
use Rattle.batch.specs.Outcome.{finished_in}
use Rattle.batch.specs.Batch.{part, refusal_of, NothingDone, Ran, Batched}
use Rattle.batch.proofs.Largest.{one_largest}

-- the refusal by what its tests found
module _ (first count values roots : ℕ) where
  pub first_beyond_lem : values < first → refusal_of first count values roots ≡ first_beyond
  unfolding refusal_of
  first_beyond_lem h = rw (lt-ltb values first h)

  pub count_beyond_lem : first ≤ values → values - first < count → refusal_of first count values roots ≡ count_beyond
  unfolding refusal_of
  count_beyond_lem h g = rw (le-ltb values first h, lt-ltb (values - first) count g)

  pub lengths_differ_lem : first ≤ values → count ≤ values - first → (values ≡ roots → ⊥) → refusal_of first count values roots ≡ lengths_differ
  unfolding refusal_of
  lengths_differ_lem h g d = rw (le-ltb values first h, le-ltb (values - first) count g, ne_eqb values roots d)

  none_refused : first ≤ values → count ≤ values - first → values ≡ roots → refusal_of first count values roots ≡ no_refusal
  unfolding refusal_of
  none_refused h g s = rw (le-ltb values first h, le-ltb (values - first) count g, eq-eqb values roots s)

-- a call that returns a refusal, with nothing written
pub refuses : {values before : List ℕ} {first count budget number : ℕ} → (number ≡ no_refusal → ⊥) →
    refusal_of first count (length values) (length before) ≡ number → Batched values before first count budget number 0 0 before
refuses some found = record {
  is_refusal = sym found;
  if_refused = λ refused. record { none_done = refl; none_spent = refl; unchanged = refl };
  if_answered = λ none. absurd (some none);
}

-- a part that lies within the list has as many values as it says
pub part_length : (first count : ℕ) (l : List ℕ) → first ≤ length l → count ≤ length l - first → length (part first count l) ≡ count
part_length first count l h g = omega (arith, length-take count (drop first l), length-drop first l)

-- the rest of a part that was lent, and what follows the part, are what follows in the whole
put_back : (first count done : ℕ) (before roots : List ℕ) → done ≤ length (part first count before) →
    (roots ++ drop (0 + done) (part first count before)) ++ drop count (drop first before) ≡ roots ++ drop (first + done) before
put_back first count done before roots h =
    let l : List ℕ = drop first before in
    rw (zero-add, append_assoc, ← (drop-append-le done (take count l) (drop count l) h), take-append-drop, drop-drop)

-- a call that passes every test, lends the two parts to a run, and returns what the run did
pub answers : {values before middle : List ℕ} {first count budget done spent : ℕ} → first ≤ length values →
    count ≤ length values - first → length values ≡ length before →
    Ran (part first count values) (part first count before) 0 budget done spent middle →
    Batched values before first count budget no_refusal done spent (take first before ++ (middle ++ drop count (drop first before)))
answers {values} {before} {first = first} {count = count} {done = done} h g same ran =
    let within : done ≤ length (part first count before) =
    omega (arith, ran.is_done.affords.within, part_length first count values h g, part_length first count before (omega arith) (omega arith)) in
    record {
      is_refusal = sym (none_refused first count (length values) (length before) h g same);
      if_refused = λ some. absurd (some refl);
      if_answered = λ none. record {
        is_done = ran.is_done;
        is_spent = ran.is_spent;
        in_budget = ran.in_budget;
        is_after = rw (ran.is_after, put_back first count done before _ within);
      };
    }

-- a number is that of no refusal, or of one
pub refused_or_not : (refusal : ℕ) → (refusal ≡ no_refusal) ⊎ (refusal ≡ no_refusal → ⊥)
refused_or_not zero = inl refl
refused_or_not (suc number) = inr (λ none. omega arith)

-- no second answer fits a run, nor a refusal
one_ran : {values before after after' : List ℕ} {first budget done spent done' spent' : ℕ} →
    Ran values before first budget done spent after → Ran values before first budget done' spent' after' →
    (done ≡ done') × (spent ≡ spent') × (after ≡ after')
one_ran x y =
    let same = one_largest x.is_done y.is_done in
    (same, (cc), (cc))

one_refused : {before after after' : List ℕ} {done spent done' spent' : ℕ} → NothingDone before done spent after → NothingDone before done' spent' after' →
    (done ≡ done') × (spent ≡ spent') × (after ≡ after')
one_refused x y = ((cc), (cc), (cc))

-- no second answer, and no second list of roots, fits a batch
pub one_batch : {values before after after' : List ℕ} {first count budget refusal done spent refusal' done' spent' : ℕ} →
    Batched values before first count budget refusal done spent after → Batched values before first count budget refusal' done' spent' after' →
    (refusal ≡ refusal') × (done ≡ done') × (spent ≡ spent') × (after ≡ after')
one_batch {refusal = refusal} {refusal' = refusal'} x y =
    let same : refusal ≡ refusal' = x.is_refusal ∙ sym y.is_refusal in
    let rest = ⊎_elim (λ none. one_ran (x.if_answered none) (y.if_answered (sym same ∙ none))) (λ some.
    one_refused (x.if_refused some) (y.if_refused (λ none. some (same ∙ none)))) (refused_or_not refusal) in
    (same, rest.0, rest.1, rest.2)

-- what was done is one where its two numbers are
one_finished : (x y : Finished) → x.done ≡ y.done → x.spent ≡ y.spent → x ≡ y
one_finished x y done spent =
    let of_done : ℕ → Finished = λ n. record { done = n; spent = x.spent } in
    let of_spent : ℕ → Finished = λ n. record { done = y.done; spent = n } in
    ap of_done done ∙ ap of_spent spent

-- no second result, and no second list of roots, fits a call
pub one_outcome : {values before after after' : List ℕ} {first count budget : ℕ} (a b : Result Finished Refusal) →
    Batched values before first count budget (number_in a) (finished_in a).done (finished_in a).spent after →
    Batched values before first count budget (number_in b) (finished_in b).done (finished_in b).spent after' → (a ≡ b) × (after ≡ after')
one_outcome a b x y =
    let same = one_batch x y in
    (one_result (record { done = 0; spent = 0 }) a b same.0 (one_finished (finished_in a) (finished_in b) same.1 same.2), same.3)
