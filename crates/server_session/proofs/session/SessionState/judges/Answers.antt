use Rattle.std.proofs.Common.{◌≡◌, ap, subst, Result, Ok, Err}
use Rattle.std.specs.Prelude.{OnOk}
use Rattle.id_window.specs.Marks.{Marks}
use Rattle.inbox.specs.Inbox.{Stands as InboxStands, message_in}
use Rattle.inbox.specs.Judging.{Session as Remembered, session_after}
use Rattle.inbox.specs.Refusals.{InEnvelope}
use Rattle.server_rules.specs.Server.{marks_of, remembered}
use Rattle.server_session.proofs.session.SessionState.judges.Goals as goal

-- where it went well, what follows from what holds then
then : {A E : Type 0} (result : Result A E) (P Q : Type 0) → (P → Q) → OnOk result P → OnOk result Q
then (Ok value) P Q follows holds = follows holds
then (Err error) P Q follows holds = tt

pub returns-clause-judged : goal.returns-clause-judged
returns-clause-judged c = λ session stands. c.judge.ensures.judged (remembered session) session.salts stands.inbox stands.salts

pub returns-clause-stands : goal.returns-clause-stands
returns-clause-stands c = λ session jobs stands order.
    let way = InEnvelope c.args.now session.salts c.args.outer.now.salt in
    let after : Remembered = session_after way (remembered session) (message_in c.args.outer.now) in
    let same : after.marks ≡ marks_of after.history session.replies =
    ap (λ (s : Remembered). s.marks) (c.packets_are_judged.ensures.marks way session (message_in c.args.outer.now) jobs order) in
    then c.judge.result _ _
    (λ remembers. record {
      key = stands.key;
      number = stands.number;
      first = stands.first;
      unique = stands.unique;
      salts = stands.salts;
      latest = stands.latest;
      inbox = subst (λ (marks : Marks). InboxStands c.judge.new.self after.history marks) same remembers;
      outbox = stands.outbox;
      counters = stands.counters;
    })
    (c.judge.ensures.recorded (remembered session) session.salts stands.inbox stands.salts)
