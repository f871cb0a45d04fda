-- The events with their lives are the events.
use Rattle.std.proofs.Common.{◌≡◌, List, [], ◌∷◌, refl}
use Rattle.std.specs.Prelude.{fold}
use Rattle.regs_service.specs.Served.{Step}
use Rattle.server_rules.specs.Event.{Setting}
use Rattle.server_rules.specs.Events.{Event, after_event, begun_course, course_of}
use Rattle.law_server.specs.Lives.{Told, told_after, told_from, told_of}

told-from : {S V : Type 0} (setting : Setting S) (serve : Step V) (fresh : V) (events : List Event) (told : Told S V)
    → (told_from setting serve fresh told events).course ≡ fold (after_event setting serve fresh) told.course events
told-from setting serve fresh [] told = refl
told-from setting serve fresh (event ∷ events) told = told-from setting serve fresh events (told_after setting serve fresh told event)

pub told-course : {S V : Type 0} (setting : Setting S) (serve : Step V) (fresh : V) (draw : S) (events : List Event)
    → (told_of setting serve fresh draw events).course ≡ course_of setting serve fresh draw events
told-course setting serve fresh draw events = told-from setting serve fresh events (record { course = begun_course fresh draw; lives = [] })
