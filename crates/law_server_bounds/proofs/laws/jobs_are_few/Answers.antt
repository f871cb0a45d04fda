use Rattle.std.specs.Prelude.{⊤, map}
use Rattle.std.specs.List.{All}
use Rattle.std.proofs.Common.{List, [], ◌∷◌}
use Rattle.std.proofs.lemmas.List.Elements.{All-nil, All-cons}
use Rattle.server_rules.specs.Server.{Session}
use Rattle.law_server_bounds.proofs.Bounded.{Few, bounded-event, bounded-course, any-few}
use Rattle.law_server_bounds.proofs.laws.jobs_are_few.Goals as goal

pub returns-clause-event : goal.returns-clause-event
returns-clause-event g c = λ setting serve service course event within.
    (bounded-event ⊥ ⊤ c.oldest_replies_are_dropped.ensures.within setting serve service course event (λ h. absurd h)
    (any-few course.server.sessions, λ j. within)).1 tt

pub returns-clause-all : goal.returns-clause-all
returns-clause-all g c = λ setting serve service draw events.
    (bounded-course ⊥ ⊤ c.oldest_replies_are_dropped.ensures.within setting serve service draw events (λ h. absurd h)).1 tt
