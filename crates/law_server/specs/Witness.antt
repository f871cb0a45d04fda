-- Lists of events that show that the laws aren't empty.
use Rattle.std.specs.Prelude.{ℕ, Bool, Some, List, map}
use Rattle.draws.specs.Steps.{step_word}
use Rattle.service_tl.specs.declared.item.Item.TheVariants.{InvokeAfterMsg}
use Rattle.service_tl.specs.Items.{spelling_of}
use Rattle.server_rules.specs.Server.{has_accepted}
use Rattle.server_rules.specs.Events.{Event, Packet, Work, Course, course_of}
use Rattle.server_rules.specs.Witness.{setting, first_envelope, add_x, good_reply}

-- a service without a state, each of whose replies is good
abbrev pub serve : ℕ → List ℕ → List ℕ × ℕ
serve service request = (good_reply, service)

abbrev pub course : List Event → Course ℕ ℕ
course events = course_of setting serve 0 0 events

-- a packet under salt 0, which isn't the session's
abbrev pub wrong_salt : Event
wrong_salt = Packet 0 (Some first_envelope)

-- a call under the right salt, another that waits for it, and the run of the first and of the second
abbrev pub packet : ℕ → ℕ → List ℕ → Event
packet number seq body = Packet 0 (Some (record { key = 1; salt = step_word 2; session = 9; number = number; seq = seq; body = body }))

abbrev pub call : Event
call = packet 4 1 (add_x 5)

abbrev pub waiting_call : Event
waiting_call = packet 8 3 (spelling_of (InvokeAfterMsg 4 (add_x 1)))

abbrev pub run : Event
run = Work 0 0

-- whether each session has accepted a message
abbrev pub accepted : Course ℕ ℕ → List Bool
accepted course = map has_accepted course.server.sessions

-- the numbers of the jobs with those that each waits for, and the entries with whether they ran
abbrev pub waiting : Course ℕ ℕ → List (ℕ × List ℕ)
waiting course = map (λ one. (one.job.number, one.job.after)) course.server.jobs

abbrev pub entered : Course ℕ ℕ → List (ℕ × Bool)
entered course = map (λ entry. (entry.number, entry.ran)) course.entries
