-- The sessions that an event leaves have room for further numbers.
use Rattle.std.proofs.Common.{◌≡◌, ◌∙◌, ℕ, ◌≤◌, Bool, false, Option, Some, None, List, [], ◌∷◌, ap, sym, refl, inl, inr}
use Rattle.std.specs.Prelude.{fold, not, ◌⊎◌}
use Rattle.std.specs.List.{filter, All}
use Rattle.std.proofs.lemmas.Bool.{cases_Bool, cond_both, ltb-false, false≢true}
use Rattle.std.proofs.lemmas.List.Elements.{All-nil, All-cons, All-head, All-tail, All-weaker}
use Rattle.msg_ids.specs.Counters.{room}
use Rattle.regs_service.specs.Served.{Step}
use Rattle.waits.specs.declared.job.Job.{Job}
use Rattle.waits.specs.Jobs.{ready_job}
use Rattle.server_rules.specs.Server.{Session, Server, name_of, is_named, without_session}
use Rattle.server_rules.specs.Event.{Setting, State, speaks, lost}
use Rattle.server_rules.specs.Sending.{all_sent}
use Rattle.server_rules.specs.Answer.{takes, attaches, runs, ticks, is_spent, begun, ended, after_run}
use Rattle.server_rules.specs.Events.{Event, Packet, Work, Tick, Attach, Loss, Restart, Course, setting_at, after_event, begun_course, course_of}
use Rattle.law_server.proofs.Names.{names-same}

abbrev pub HaveRoom : List Session → Type 0
HaveRoom sessions = All (λ session. 16384 ≤ room session.counters) sessions

-- it has room, or is one of these
abbrev HasOrIs : List Session → Session → Type 0
HasOrIs [] session = is_spent session ≡ false
HasOrIs (one ∷ others) session = (session ≡ one) ⊎ HasOrIs others session

has : (spent : List Session) (session : Session) → is_spent session ≡ false → HasOrIs spent session
has [] session is = is
has (one ∷ others) session is = inr (has others session is)

all-have : (sessions : List Session) → All (HasOrIs (filter is_spent sessions)) sessions
all-have [] = All-nil (HasOrIs [])
all-have (session ∷ sessions) =
    let spent = filter is_spent sessions in
    let rest = all-have sessions in
    cond_both (is_spent session) (session ∷ spent) spent (λ (spent : List Session). All (HasOrIs spent) (session ∷ sessions))
    (λ is. All-cons (HasOrIs (session ∷ spent)) session sessions (inl refl) (All-weaker (HasOrIs spent) (HasOrIs (session ∷ spent)) (λ other one. inr one) sessions rest))
    (λ is. All-cons (HasOrIs spent) session sessions (has spent session is) rest)

-- the first of these is lost
one-lost : (spent : Session) (others sessions : List Session) → All (HasOrIs (spent ∷ others)) sessions → All (HasOrIs others) (without_session (name_of spent) sessions)
one-lost spent others [] all = All-nil (HasOrIs others)
one-lost spent others (session ∷ sessions) all =
    let name = name_of spent in
    let P : Session → Type 0 = HasOrIs (spent ∷ others) in
    let rest = one-lost spent others sessions (All-tail P session sessions all) in
    elim (cases_Bool (is_named name session)) [
      | inl holds ↦ rw holds rest
      | inr fails ↦
          let left : HasOrIs others session =
          elim (All-head P session sessions all) [
            | inl same ↦ absurd (false≢true (sym fails ∙ names-same name (name_of session) (ap name_of (sym same))))
            | inr other ↦ other
          ] in
          rw fails (All-cons (HasOrIs others) session (without_session name sessions) left rest)
    ]

all-lost : {S : Type 0} (spent : List Session) (state : State S) → All (HasOrIs spent) state.sessions
    → All (λ session. is_spent session ≡ false) (fold (λ so_far session. lost (name_of session) so_far) state spent).sessions
all-lost [] state all = all
all-lost (session ∷ spent) state all = all-lost spent (lost (name_of session) state) (one-lost session spent state.sessions all)

ended-room : {S : Type 0} (setting : Setting S) (state : State S) → HaveRoom (ended setting state).server.sessions
ended-room setting state =
    let sent = all_sent setting state in
    All-weaker (λ (session : Session). is_spent session ≡ false) (λ (session : Session). 16384 ≤ room session.counters)
    (λ session is. ltb-false (room session.counters) 16384 is) (ended setting state).server.sessions
    (all-lost (filter is_spent sent.sessions) sent (all-have sent.sessions))

lost-room : (sessions : List Session) (test : Session → Bool) → HaveRoom sessions → HaveRoom (filter test sessions)
lost-room [] test all = all
lost-room (session ∷ sessions) test all =
    let P : Session → Type 0 = λ session. 16384 ≤ room session.counters in
    let rest = lost-room sessions test (All-tail P session sessions all) in
    cond_both (test session) (session ∷ filter test sessions) (filter test sessions) HaveRoom
    (λ is. All-cons P session (filter test sessions) (All-head P session sessions all) rest) (λ is. rest)

run-room : {S V : Type 0} (setting : Setting S) (place : ℕ) (job : Option Job) (serve : Step V) (service : V) (server : Server) (draw : S)
    → HaveRoom (after_run setting place job serve service server draw).0.server.sessions
run-room setting place None serve service server draw = ended-room setting (begun server draw)
run-room setting place (Some job) serve service server draw = ended-room setting (runs setting place job (serve service job.request).0 (begun server draw))

pub event-room : {S V : Type 0} (setting : Setting S) (serve : Step V) (fresh : V) (course : Course S V) (event : Event) → HaveRoom course.server.sessions
    → HaveRoom (after_event setting serve fresh course event).server.sessions
event-room setting serve fresh course (Packet moment None) all = all
event-room setting serve fresh course (Packet moment (Some envelope)) all =
    let at = setting_at setting moment course.server in ended-room at (takes at envelope (begun course.server course.draw))
event-room setting serve fresh course (Work moment place) all =
    run-room (setting_at setting moment course.server) place (ready_job place course.server.jobs) serve course.service course.server course.draw
event-room setting serve fresh course (Tick moment) all =
    let at = setting_at setting moment course.server in ended-room at (ticks at (begun course.server course.draw))
event-room setting serve fresh course (Attach moment name) all =
    let at = setting_at setting moment course.server in ended-room at (speaks name (attaches at) (begun course.server course.draw))
event-room setting serve fresh course (Loss name) all = lost-room course.server.sessions (λ session. not (is_named name session)) all
event-room setting serve fresh course Restart all = All-nil (λ (session : Session). 16384 ≤ room session.counters)

events-room : {S V : Type 0} (setting : Setting S) (serve : Step V) (fresh : V) (events : List Event) (course : Course S V) → HaveRoom course.server.sessions
    → HaveRoom (fold (after_event setting serve fresh) course events).server.sessions
events-room setting serve fresh [] course all = all
events-room setting serve fresh (event ∷ events) course all =
    events-room setting serve fresh events (after_event setting serve fresh course event) (event-room setting serve fresh course event all)

pub course-room : {S V : Type 0} (setting : Setting S) (serve : Step V) (fresh : V) (draw : S) (events : List Event)
    → HaveRoom (course_of setting serve fresh draw events).server.sessions
course-room setting serve fresh draw events =
    events-room setting serve fresh events (begun_course fresh draw) (All-nil (λ (session : Session). 16384 ≤ room session.counters))
