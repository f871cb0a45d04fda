use Rattle.std.proofs.Common.{◌≡◌, ◌∙◌, ℕ, length, map, ap, sym, subst}
use Rattle.std.specs.Prelude.{min}
use Rattle.inbox.specs.declared.outer.Outer.{Outer}
use Rattle.inbox.specs.Inbox.{message_in}
use Rattle.inbox.specs.Judging.{judgements, session_after}
use Rattle.inbox.specs.Refusals.{InEnvelope}
use Rattle.inbox.specs.Verdicts.{bare_judgement}
use Rattle.server_rules.specs.Server.{Session, mark_in, remembered}
use Rattle.server_session.specs.declared.session.SessionState.{SessionState}
use Rattle.server_session.specs.Rooms.{with_replies_left}
use Rattle.server_session.specs.SessionState.{Stands, replies_left}
use Rattle.server_core.specs.Room.{dues_in, settling_messages}
use Rattle.server_core.proofs.PacketDues.{are-fitting}
use Rattle.server_core.proofs.Rooms.{given-back, stands-with}
use Rattle.server_core.proofs.room.judges_in_room.Goals as goal

-- with the room that was taken it stands for the same session
with-room : (room now : ℕ) (standing after : SessionState) (session : Session) → after ≡ with_replies_left room standing → Stands now standing session → Stands now after session
with-room room now standing after session kept stands =
    subst (λ (one : SessionState). Stands now one session) (sym kept) (stands-with room now standing session stands)

pub returns-in-Ok-clause-stands : goal.returns-in-Ok-clause-stands
returns-in-Ok-clause-stands c = λ session queue stands orderly.
    let reserved = with-room _ c.args.now c.args.standing.now c.takes_room.new.standing session c.in_ok-room.ensures.kept stands in
    subst (λ (outer : Outer). Stands c.args.now c.judges.new.self (record session {
      history = (session_after (InEnvelope c.args.now session.salts outer.salt) (remembered session) (message_in outer)).history;
    })) c.read-received.ensures
    (c.in-Ok.ensures.stands session queue reserved orderly)

pub returns-in-Ok-clause-dues : goal.returns-in-Ok-clause-dues
returns-in-Ok-clause-dues c = λ session stands.
    subst (λ (outer : Outer). c.in_ok-room.room.dues.items ≡ dues_in (mark_in session outer.number) (message_in outer)) c.read-received.ensures
    (c.in_ok-room.ensures.dues c.args.now session stands)

pub returns-in-Ok-clause-judged : goal.returns-in-Ok-clause-judged
returns-in-Ok-clause-judged c = λ session stands.
    let reserved = with-room _ c.args.now c.args.standing.now c.takes_room.new.standing session c.in_ok-room.ensures.kept stands in
    subst (λ (outer : Outer). c.in-Ok.judged ≡ map bare_judgement (judgements (InEnvelope c.args.now session.salts outer.salt) (remembered session) (message_in outer)))
    c.read-received.ensures (c.in-Ok.ensures.judged session reserved)

pub returns-in-Ok-clause-fitting : goal.returns-in-Ok-clause-fitting
returns-in-Ok-clause-fitting c = λ session stands.
    let reserved = with-room _ c.args.now c.args.standing.now c.takes_room.new.standing session c.in_ok-room.ensures.kept stands in
    are-fitting (InEnvelope c.args.now session.salts c.read-received.result.salt) (remembered session) (message_in c.read-received.result) _ _ (c.in-Ok.ensures.judged session reserved)
    (c.in_ok-room.ensures.dues c.args.now session stands)

pub returns-in-Err-clause-unchanged_on_memory : goal.returns-in-Err-clause-unchanged_on_memory
returns-in-Err-clause-unchanged_on_memory c =
    let room = c.in_ok-room.room in
    let before = c.replies_left-before.result in
    given-back c.args.standing.now c.takes_room.new.standing c.release.new.self before (settling_messages (length room.dues.items) room.limit)
    c.replies_left-before.ensures c.in_ok-room.ensures.kept
    (c.release.ensures ∙ ap (λ (one : SessionState). with_replies_left (min (replies_left one) before) one) c.in-Err.ensures.unchanged_on_memory)
