use Rattle.std.proofs.Common.{ap}
use Rattle.inbox.specs.Verdicts.{Verdict}
use Rattle.inbox.specs.Kinds.{kind_of}
use Rattle.inbox.specs.Judging.{recorded, remembered, inner_session, unfolded}
use Rattle.inbox.proofs.AcceptanceLemmas.{acceptable_judged}
use Rattle.inbox.proofs.laws.acceptable_messages_are_accepted.Goals as goal

pub returns-clause-accepted : goal.returns-clause-accepted
returns-clause-accepted c = acceptable_judged

pub returns-clause-recorded : goal.returns-clause-recorded
returns-clause-recorded c now line salt session message is =
    ap (λ (verdict : Verdict). remembered message.number message.seq (recorded (kind_of message) verdict) session) (acceptable_judged now line salt session message is)

pub returns-clause-remembered : goal.returns-clause-remembered
returns-clause-remembered c now line salt session message is =
    ap (λ (verdict : Verdict). inner_session (remembered message.number message.seq (recorded (kind_of message) verdict) session) (unfolded verdict message)) (acceptable_judged now line salt session message is)
