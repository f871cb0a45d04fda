use Rattle.std.proofs.Common.{◌∙◌, List, [], fold, ap, arith, rules}
use Rattle.std.proofs.lemmas.Grind.{common_steps}
use Rattle.std.proofs.lemmas.List.{take_all}
use Rattle.inbox.specs.declared.judged.Judgement.{Judgement}
use Rattle.server_dispatch.specs.Acks.{noted}
use Rattle.server_dispatch.proofs.Once.{noted-are}
use Rattle.server_dispatch.proofs.opening.acks_in.Goals as goal

pub returns-clause-acks : goal.returns-clause-acks
returns-clause-acks c told is =
    c.loop-judgement.invariant.0
    ∙ (ap (λ (some : List Judgement). fold noted [] some) (take_all c.loop-judgement.judgement-index c.args.judged.now (omega arith) ∙ is) ∙ noted-are told)

pub loop-judgement-preserved : goal.loop-judgement-preserved
loop-judgement-preserved c = (
  grind (arith, common_steps),
  omega (arith, c.note-greatest.ensures.len, c.loop-judgement.invariant.1),
  search rules,
  c.note-greatest.ensures.below,
)
