use Rattle.std.proofs.Common.{◌≡◌, ◌∙◌, false, arith}
use Rattle.std.proofs.lemmas.Grind.{common_steps}
use Rattle.inbox.specs.Refusals.{is_valid_salt}
use Rattle.inbox.proofs.TestLemmas.{salt_test}
use Rattle.inbox.proofs.refusal.by_envelope.Goals as goal

pub returns : goal.returns
returns c salts stands =
    let invalid : is_valid_salt salts c.args.now c.args.salt ≡ false = salt_test salts c.args.now c.args.salt c.judge.result (c.judge.ensures.judged salts stands) ∙ c.if-judge.false in
    rw invalid (grind (arith, common_steps))
