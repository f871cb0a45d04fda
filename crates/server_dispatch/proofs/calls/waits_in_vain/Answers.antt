use Rattle.std.proofs.Common.{◌∙◌, ℕ, sym}
use Rattle.std.proofs.lemmas.List.Folds.{list_any_at, list_any_more}
use Rattle.server_rules.specs.Waiting.{outlook}
use Rattle.server_rules.specs.Calls.{is_in_vain}
use Rattle.server_dispatch.proofs.calls.waits_in_vain.Goals as goal

pub returns-then-is_in_vain : goal.returns-then-is_in_vain
returns-then-is_in_vain c = λ now session stands.
    sym (list_any_at (λ (other : ℕ). is_in_vain (outlook session c.args.jobs.now.jobs other)) c.args.numbers.now c.loop-place.place 0 c.loop-place-test.true
    (sym (c.is_in_vain.ensures now session stands) ∙ c.if-is_in_vain.true))

pub loop-place-preserved : goal.loop-place-preserved
loop-place-preserved c = λ now session stands.
    let one = sym (c.is_in_vain.ensures now session stands) ∙ c.if-is_in_vain.false in
    list_any_more (λ (other : ℕ). is_in_vain (outlook session c.args.jobs.now.jobs other)) c.args.numbers.now c.loop-place.place 0 c.loop-place-test.true
    ∙ (rw (c.loop-place.invariant now session stands) one)
