-- No second answer fits a call over the value's type: what a call answers is known by its numbers. Assumes nothing.
use mathlib.Core.Path.{◌≡◌, refl, sym, ◌∙◌, ap}
use Prim.Native.Nat.{ℕ}
use Rattle.std.specs.Prelude.{Result, Ok, Err}
use Rattle.std.specs.Result.{result_unwrap_or}
use Rattle.defs.specs.Kinds.{Kind, Width}
use Rattle.laws.proofs.Bills.{one_full, one_normalised}
use Rattle.refusals.specs.declared.Refusal.{Refusal}
use Rattle.refusals.specs.Refusal.{part_in}
use Rattle.refusals.proofs.Numbers.{one_result}
use Rattle.roots.specs.declared.answer.RootRem.{RootRem}
use Rattle.roots.specs.Answers.{FullAnswer, NormalisedResult}

-- an answer is one where its four numbers are
one_rem : (a b : RootRem ℕ ℕ) → a.root ≡ b.root → a.rest ≡ b.rest → a.start ≡ b.start → a.steps ≡ b.steps → a ≡ b
one_rem a b root rest start steps =
    let of_root : ℕ → RootRem ℕ ℕ = λ n. record { root = n; rest = a.rest; start = a.start; steps = a.steps } in
    let of_rest : ℕ → RootRem ℕ ℕ = λ n. record { root = b.root; rest = n; start = a.start; steps = a.steps } in
    let of_start : ℕ → RootRem ℕ ℕ = λ n. record { root = b.root; rest = b.rest; start = n; steps = a.steps } in
    let of_steps : ℕ → RootRem ℕ ℕ = λ n. record { root = b.root; rest = b.rest; start = b.start; steps = n } in
    ap of_root root ∙ ap of_rest rest ∙ ap of_start start ∙ ap of_steps steps

-- a number of a result is that of its answer, or of one of zeros
part_is : (part : RootRem ℕ ℕ → ℕ) → (a : Result (RootRem ℕ ℕ) Refusal) → part (record { root = 0; rest = 0; start = 0; steps = 0 }) ≡ 0 →
    part_in part a ≡ part (result_unwrap_or a (record { root = 0; rest = 0; start = 0; steps = 0 }))
part_is part (Ok answer) none = refl
part_is part (Err refusal) none = sym none

module _ {k : Kind} {w : Width} {n : ℕ} where
  -- of a full call
  pub one_answered : (a b : RootRem ℕ ℕ) → FullAnswer k w (λ x. x) (λ x. x) n a → FullAnswer k w (λ x. x) (λ x. x) n b → a ≡ b
  one_answered a b x y =
      let same = one_full x y in
      one_rem a b same.0 same.1 same.2 same.3

  -- of a normalised call, whether it answers or refuses
  pub one_normalised_result : (a b : Result (RootRem ℕ ℕ) Refusal) → NormalisedResult k w (λ x. x) (λ x. x) n a →
      NormalisedResult k w (λ x. x) (λ x. x) n b → a ≡ b
  one_normalised_result a b x y =
      let zeros : RootRem ℕ ℕ = record { root = 0; rest = 0; start = 0; steps = 0 } in
      let same = one_normalised x y in
      let alike = λ (part : RootRem ℕ ℕ → ℕ) (none : part zeros ≡ 0) (e : part_in part a ≡ part_in part b).
      sym (part_is part a none) ∙ e ∙ part_is part b none in
      one_result zeros a b same.0
      (one_rem (result_unwrap_or a zeros) (result_unwrap_or b zeros) (alike (λ r. r.root) refl same.1) (alike (λ r. r.rest) refl same.2)
      (alike (λ r. r.start) refl same.3) (alike (λ r. r.steps) refl same.4))
