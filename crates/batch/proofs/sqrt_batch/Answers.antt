-- `batch::sqrt_batch` meets its contract: three refusals, and the run over the part put back in its place. Assumes nothing.
use Rattle.std.proofs.Common.{◌≡◌, arith, Err, length, ◌<◌, ◌-◌, ◌≤◌}
use Rattle.std.proofs.lemmas.Grind.{common_steps}
use native.Mathlib.Nat.{add-sub_cancel_left}
use Rattle.refusals.specs.declared.Refusal.TheVariants.{FirstBeyond, CountBeyond}
use Rattle.batch.specs.Batch.{part}
use Rattle.batch.proofs.Answers.{first_beyond_lem, count_beyond_lem, lengths_differ_lem, refuses, answers}
use Rattle.batch.proofs.sqrt_batch.Goals as goal

pub returns-in_err-rest : goal.returns-in_err-rest
returns-in_err-rest c =
    let beyond : length c.args.values.now < c.args.first = grind arith in
    let is_refusal : c.from_residual.result ≡ Err FirstBeyond = grind (arith, common_steps) in
    rw is_refusal (refuses (λ none. omega arith) (first_beyond_lem _ _ _ _ beyond))

pub returns-in_err-part : goal.returns-in_err-part
returns-in_err-part c =
    let within : c.args.first ≤ length c.args.values.now = grind arith in
    let beyond : length c.args.values.now - c.args.first < c.args.count = grind arith in
    let is_refusal : c.from_residual-in_err-part.result ≡ Err CountBeyond = grind (arith, common_steps) in
    rw is_refusal (refuses (λ none. omega arith) (count_beyond_lem _ _ _ _ within beyond))

pub returns-then-values-roots : goal.returns-then-values-roots
returns-then-values-roots c =
    let first_within : c.args.first ≤ length c.args.values.now = grind arith in
    let count_within : c.args.count ≤ length c.args.values.now - c.args.first = grind arith in
    refuses (λ none. omega arith) (lengths_differ_lem _ _ _ _ first_within count_within c.if-values-roots.true)

pub returns : goal.returns
returns c =
    let first_within : c.args.first ≤ length c.args.values.now = grind arith in
    let count_within : c.args.count ≤ length c.args.values.now - c.args.first = grind arith in
    let is_part : c.in_ok-part.part.now ≡ part c.args.first c.args.count c.args.values.now = grind (arith, common_steps) in
    let is_count = add-sub_cancel_left c.args.first c.args.count in
    rw is_count (answers first_within count_within c.if-values-roots.false (rw (is_count, is_part) at c.run_part.ensures))
