use Rattle.std.specs.Prelude.{⊤}
use Rattle.std.proofs.lemmas.List.Elements.{All-weaker}
use Rattle.outbox.specs.Replies.{IsWithin}
use Rattle.server_rules.specs.Server.{Session, kept_replies}
use Rattle.server_rules.specs.Events.{after_event, course_of}
use Rattle.law_server_bounds.proofs.Bounded.{Few, bounded-event, bounded-course}
use Rattle.law_server_bounds.proofs.laws.replies_are_few.Goals as goal

pub returns-clause-event : goal.returns-clause-event
returns-clause-event g c = λ setting serve service course event short few.
    let Kept : Session → Type 0 = λ session. IsWithin (kept_replies session.replies) in
    All-weaker (Few ⊤) Kept (λ session one. one tt) (after_event setting serve service course event).server.sessions
    (bounded-event ⊤ ⊥ c.oldest_replies_are_dropped.ensures.within setting serve service course event (λ h. short)
    (All-weaker Kept (Few ⊤) (λ session one h. one) course.server.sessions few, λ j. absurd j)).0

pub returns-clause-all : goal.returns-clause-all
returns-clause-all g c = λ setting serve service draw events short.
    let Kept : Session → Type 0 = λ session. IsWithin (kept_replies session.replies) in
    All-weaker (Few ⊤) Kept (λ session one. one tt) (course_of setting serve service draw events).server.sessions
    (bounded-course ⊤ ⊥ c.oldest_replies_are_dropped.ensures.within setting serve service draw events (λ h. short)).0
