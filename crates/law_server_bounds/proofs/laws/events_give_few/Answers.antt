use Rattle.std.specs.Prelude.{⊤}
use Rattle.std.proofs.lemmas.List.Elements.{All-weaker}
use Rattle.outbox.specs.Replies.{IsWithin}
use Rattle.server_rules.specs.Server.{Session, kept_replies}
use Rattle.server_rules.specs.Events.{course_of}
use Rattle.law_server_bounds.proofs.Bounded.{Few, bounded-course}
use Rattle.law_server_bounds.proofs.Given.{event-few}
use Rattle.law_server_bounds.proofs.laws.events_give_few.Goals as goal

pub returns-clause-event : goal.returns-clause-event
returns-clause-event g c = λ setting serve service course event few.
    let Kept : Session → Type 0 = λ session. IsWithin (kept_replies session.replies) in
    event-few c.oldest_replies_are_dropped.ensures.within
    (record { own = c.sessions_speak.ensures.own; others = c.sessions_speak.ensures.others }) c.packets_have_all_messages.ensures.few
    setting serve service course event (All-weaker Kept (Few ⊤) (λ session one h. one) course.server.sessions few)

pub returns-clause-all : goal.returns-clause-all
returns-clause-all g c = λ setting serve service draw events event short.
    event-few c.oldest_replies_are_dropped.ensures.within
    (record { own = c.sessions_speak.ensures.own; others = c.sessions_speak.ensures.others }) c.packets_have_all_messages.ensures.few
    setting serve service (course_of setting serve service draw events) event
    (bounded-course ⊤ ⊥ c.oldest_replies_are_dropped.ensures.within setting serve service draw events (λ h. short)).0
