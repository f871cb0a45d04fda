-- Lives that show that the laws aren't empty.
use Rattle.std.specs.Prelude.{ℕ, Bool, Some, List, ◌∷◌, [], length, map}
use Rattle.server_rules.specs.Events.{Event, Loss}
use Rattle.server_rules.specs.Witness.{setting, temporary, binding, binding_body}
use Rattle.law_server.specs.Witness.{serve, packet}
use Rattle.inbox.specs.Inbox.{was_heard}
use Rattle.law_server.specs.Lives.{Told, told_of}
use Rattle.law_server.specs.Finality.{is_asking}

abbrev pub told : List Event → Told ℕ ℕ
told events = told_of setting serve 0 0 events

-- the session of the events is lost
abbrev pub loss : Event
loss = Loss (record { key = 1; session = 9 })

-- whether each life stands, and whether it has accepted a message
abbrev pub standing : Told ℕ ℕ → List (Bool × Bool)
standing told = map (λ life. (life.stands, was_heard life.history)) told.lives

-- of each life how many packets it made
abbrev pub packets : Told ℕ ℕ → List ℕ
packets told = map (λ life. length life.packets) told.lives

-- the numbers that each life accepted, with whether they ask anything of the service
abbrev pub accepted : Told ℕ ℕ → List (List (ℕ × Bool))
accepted told = map (λ life. map (λ one. (one.number, is_asking one)) life.accepted) told.lives

-- the numbers that each life entered, with whether they ran
abbrev pub entered : Told ℕ ℕ → List (List (ℕ × Bool))
entered told = map (λ life. map (λ entry. (entry.number, entry.ran)) life.entries) told.lives

-- the numbers of the unfinished jobs
abbrev pub unfinished : Told ℕ ℕ → List ℕ
unfinished told = map (λ one. one.job.number) told.course.server.jobs

-- a binding call that is spelt right, under a temporary key: a right one
abbrev pub bound : Told ℕ ℕ
bound = told_of (record temporary { bound_by = λ now name call. Some binding }) serve 0 0 (packet 4 1 binding_body ∷ [])
