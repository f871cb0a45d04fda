-- A session is lost for a cause.
use Rattle.std.proofs.Common.{◌≡◌, ◌≢◌, ◌∙◌, ℕ, zero, suc, ◌≤◌, true, Option, Some, None, List, [], ◌∷◌, ◌++◌, length, ap, sym, subst, refl, arith, inl, inr}
use Rattle.std.specs.Prelude.{map, fold, not, is_some, nat_lt, ◌⊎◌, ◌&&◌, ◌==◌}
use Rattle.std.specs.List.{Contains, filter, zip}
use Rattle.std.proofs.lemmas.Bool.{cases_Bool, cond_both, cond-false, and_parts, eq-eqb, ltb-false, false≢true}
use Rattle.std.proofs.lemmas.List.Elements.{All-contains, Contains-append_right}
use Rattle.service_tl.specs.declared.item.Item.{Item}
use Rattle.service_tl.specs.declared.item.Item.TheVariants.{DestroySession, DestroySessionOk, DestroySessionNone}
use Rattle.inbox.specs.Verdicts.{Judgement, Verdict, Accepted, Again, Noticed}
use Rattle.inbox.specs.Refusals.{InEnvelope}
use Rattle.inbox.specs.Judging.{judgements, session_after}
use Rattle.regs_service.specs.Served.{Step}
use Rattle.waits.specs.declared.job.Job.{Job}
use Rattle.waits.specs.Jobs.{Queue, ready_job, without_ready}
use Rattle.server_rules.specs.Server.{Name, Server, Session, is_named, name_of, remembered, session_named, sessions_max, without_session}
use Rattle.server_rules.specs.Event.{Setting, State, Speaker, Envelope, Owed, speaker_in, spoken_by, speaks, lost}
use Rattle.server_rules.specs.Speaking.{says, msg_wait_failed, msg_wait_timeout}
use Rattle.server_rules.specs.Waiting.{after_failures, after_timeouts, all_given_up, first_failed, first_given_up, first_overdue, given_up, gives_up, tells_of}
use Rattle.server_rules.specs.Rows.{destroys, owes, row, settles}
use Rattle.server_rules.specs.Sending.{all_sent, messages_by, names_in, sends}
use Rattle.server_rules.specs.Answer.{after_run, attaches, begun, ended, finishes, hears, hears_by, is_spent, message_in, messages_judged, name_in, opens, runs, session_for, takes, takes_by, ticks, without_first}
use Rattle.server_rules.specs.Events.{Course, Event, Packet, Work, Tick, Attach, Loss, Restart, after_event, setting_at, worked}
use Rattle.law_server.specs.Speech.{SaidFor}
use Rattle.law_server_bounds.specs.Losing.{GivesPlace, IsDestroyed, IsLostIn, IsSpentAmong, runs_of}
use Rattle.law_server_bounds.proofs.Lists.{filter-there, none-some}
use Rattle.law_server_bounds.proofs.Names.{cases_name, found-named, lost-named, named, names-same}
use Rattle.law_server_bounds.proofs.Unsaid.{not-true}
use Rattle.law_server_bounds.proofs.Counted.{Speak}
use Rattle.law_server_bounds.proofs.Taking.{Same, for-itself, opens-name, sends-same}

-- ---- sessions of a name

-- one of these has this name
abbrev pub Stands : Name → List Session → Type 0
Stands name sessions = (session : Session) × (session_named name sessions ≡ Some session)

none-stands : (name : Name) (sessions : List Session) → session_named name sessions ≡ None → Stands name sessions → ⊥
none-stands name sessions none stands = none-some stands.0 (sym none ∙ stands.1)

still-stands : (name : Name) (sessions more : List Session) → Stands name sessions → Stands name (sessions ++ more)
still-stands name [] more stands = absurd (none-some stands.0 stands.1)
still-stands name (first ∷ sessions) more stands =
    elim (cases_Bool (is_named name first)) [
      | inl is ↦ (first, rw is refl)
      | inr other ↦
          let rest =
          still-stands name sessions more
          (stands.0, sym (cond-false (is_named name first) (Some first) (session_named name sessions) other) ∙ stands.1) in
          (rest.0, cond-false (is_named name first) (Some first) (session_named name (sessions ++ more)) other ∙ rest.1)
    ]

last-stands : (name : Name) (sessions : List Session) (session : Session) → name ≡ name_of session → Stands name (sessions ++ session ∷ [])
last-stands name [] session same = let is : is_named name session ≡ true = names-same name (name_of session) same in (session, rw is refl)
last-stands name (first ∷ sessions) session same =
    elim (cases_Bool (is_named name first)) [
      | inl is ↦ (first, rw is refl)
      | inr other ↦ let rest = last-stands name sessions session same in (rest.0, rw other rest.1)
    ]

other-stands : (name other : Name) (sessions : List Session) → name ≢ other → Stands name sessions → Stands name (without_session other sessions)
other-stands name other sessions apart stands = (stands.0, lost-named other name sessions apart ∙ stands.1)

-- one of the sessions that are lost has this name
abbrev IsAmong : Name → List Session → Type 0
IsAmong name sessions = (session : Session) × Contains sessions session × (name_of session ≡ name)

spent-among : {S : Type 0} (name : Name) (spent : List Session) (state : State S) → Stands name state.sessions
    → Stands name (fold (λ so_far session. lost (name_of session) so_far) state spent).sessions ⊎ IsAmong name spent
spent-among name [] state stands = inl stands
spent-among name (session ∷ spent) state stands =
    elim (cases_name name (name_of session)) [
      | inl same ↦ inr (session, (0, omega arith, refl), sym same)
      | inr apart ↦
          elim (spent-among name spent (lost (name_of session) state) (other-stands name (name_of session) state.sessions apart stands)) [
            | inl left ↦ inl left
            | inr among ↦ inr (among.0, Contains-append_right (session ∷ []) spent among.0 among.1, among.2)
          ]
    ]

-- ---- what a packet judges

-- one of these judgements accepts a message that asks to destroy the session of this name, in another one of its key
abbrev IsAsked : Name → Name → List Judgement → Type 0
IsAsked own name judged =
    (own.key ≡ name.key) × (own ≢ name) × ((judgement : Judgement) × Contains judged judgement × (judgement.verdict ≡ Accepted (DestroySession name.session)))

-- what the laws say of sessions that speak
pub record Says {S : Type 0} (setting : Setting S) : Type 0 where
  pub owes_for : (speaker : Speaker S) (number seq : ℕ) (verdict : Verdict) (body : List ℕ) → SaidFor S speaker (owes setting number seq verdict body speaker)
  pub gives_for : (speaker : Speaker S) (content : List ℕ) (job : Job) → SaidFor S speaker (gives_up setting content job speaker)
  pub finishes_for : (speaker : Speaker S) (job : Job) (reply : List ℕ) → SaidFor S speaker (finishes setting job reply speaker)
  pub attaches_for : (speaker : Speaker S) → SaidFor S speaker (attaches setting speaker)

module _ {S : Type 0} (laws : Speak S) (setting : Setting S) (says_so : Says setting) (name : Name) where
  same-name : (x y : Speaker S) → Same setting x y → name_of y.session ≡ name_of x.session
  same-name x y same = ap (λ (key : ℕ). named key y.session.number) same.key ∙ ap (λ (session : ℕ). named x.session.key session) same.number

  by-speaks : (found : Option Session) (own : Name) (speak : Speaker S → Speaker S) (state : State S) → session_named own state.sessions ≡ found
      → ((x : Speaker S) → name_of (speak x).session ≡ name_of x.session) → Stands name state.sessions → Stands name (spoken_by found speak state).sessions
  by-speaks None own speak state is names stands = stands
  by-speaks (Some session) own speak state is names stands =
      let x = speaker_in state session in
      let named_so : name_of (speak x).session ≡ own = names x ∙ found-named own state.sessions session is in
      elim (cases_name name own) [
        | inl same ↦
            let N : Name → Type 0 = λ name. Stands name (spoken_by (Some session) speak state).sessions in
            let Q : Option Session → Type 0 = λ found. session_named own (spoken_by found speak state).sessions ≡ Some (speak x).session in
            subst N (sym same) ((speak x).session, subst Q is (laws.own own speak state session is named_so))
        | inr apart ↦
            let Q : Option Session → Type 0 = λ found. session_named name (spoken_by found speak state).sessions ≡ session_named name state.sessions in
            (stands.0, subst Q is (laws.others own name speak state session is named_so apart) ∙ stands.1)
      ]

  names-speak : (own : Name) (speak : Speaker S → Speaker S) (state : State S) → ((x : Speaker S) → name_of (speak x).session ≡ name_of x.session)
      → Stands name state.sessions → Stands name (speaks own speak state).sessions
  names-speak own speak state names stands = by-speaks (session_named own state.sessions) own speak state refl names stands

  one-speaks : (own : Name) (speak : Speaker S → Speaker S) (state : State S) → ((x : Speaker S) → Same setting x (speak x))
      → Stands name state.sessions → Stands name (speaks own speak state).sessions
  one-speaks own speak state goes stands = names-speak own speak state (λ x. same-name x (speak x) (goes x)) stands

  -- ---- jobs that are given up

  one-given : (content : List ℕ) (job : Option Job) (state : State S) → Stands name state.sessions → Stands name (given_up setting content job state).sessions
  one-given content None state stands = stands
  one-given content (Some job) state stands =
      one-speaks (named job.key job.session) (gives_up setting content job) state
      (λ x. for-itself setting x (gives_up setting content job x) (says_so.gives_for x content job)) stands

  all-given : (content : List ℕ) (first : Queue → Option Job × Queue) (n : ℕ) (state : State S) → Stands name state.sessions
      → Stands name (all_given_up setting content first n state).sessions
  all-given content first zero state stands = stands
  all-given content first (suc n) state stands =
      all-given content first n (first_given_up setting content first state)
      (one-given content (first state.jobs).0 (record state { jobs = (first state.jobs).1 }) stands)

  failures : (state : State S) → Stands name state.sessions → Stands name (after_failures setting state).sessions
  failures state stands = all-given msg_wait_failed first_failed (length state.jobs) state stands

  -- ---- judgements

  says-named : (item : Item) (x : Speaker S) → name_of (says setting item x).session ≡ name_of x.session
  says-named item x = refl

  destroyed : (own : Name) (message other_number : ℕ) (state : State S) → Stands name state.sessions
      → Stands name (destroys setting message other_number own state).sessions ⊎ ((own.key ≡ name.key) × (own ≢ name) × (other_number ≡ name.session))
  destroyed own message other_number state stands =
      let other : Name = record own { session = other_number } in
      let test = not (other_number == own.session) && is_some (session_named other state.sessions) in
      let Then : State S → Type 0 = λ after. Stands name after.sessions ⊎ ((own.key ≡ name.key) × (own ≢ name) × (other_number ≡ name.session)) in
      cond_both test (speaks own (says setting (DestroySessionOk other_number)) (lost other state)) (speaks own (says setting (DestroySessionNone other_number)) state) Then
      (λ is.
      elim (cases_name name other) [
        | inl same ↦
            let off = not-true (other_number == own.session) (and_parts (not (other_number == own.session)) (is_some (session_named other state.sessions)) is).0 in
            let is_number : other_number ≡ name.session = sym (ap (λ (name : Name). name.session) same) in
            inr (
              sym (ap (λ (name : Name). name.key) same),
              λ own_one. false≢true (sym off ∙ eq-eqb other_number own.session (is_number ∙ sym (ap (λ (name : Name). name.session) own_one))),
              is_number,
            )
        | inr apart ↦
            inl (names-speak own (says setting (DestroySessionOk other_number)) (lost other state) (says-named (DestroySessionOk other_number)) (other-stands name other state.sessions apart stands))
      ])
      (λ is. inl (names-speak own (says setting (DestroySessionNone other_number)) state (says-named (DestroySessionNone other_number)) stands))

  -- what is left of it, once a judgement with this verdict is settled
  abbrev Rowed : Name → Verdict → State S → Type 0
  Rowed own verdict after = Stands name after.sessions ⊎ ((own.key ≡ name.key) × (own ≢ name) × (verdict ≡ Accepted (DestroySession name.session)))

  owed-by : (own : Name) (message seq : ℕ) (verdict : Verdict) (body : List ℕ) (state : State S) → Stands name state.sessions
      → Stands name (speaks own (owes setting message seq verdict body) state).sessions
  owed-by own message seq verdict body state stands =
      one-speaks own (owes setting message seq verdict body) state
      (λ x. for-itself setting x (owes setting message seq verdict body x) (says_so.owes_for x message seq verdict body)) stands

  rowed : (own : Name) (message seq : ℕ) (verdict : Verdict) (body : List ℕ) (state : State S) → Stands name state.sessions
      → Rowed own verdict (row setting own message seq verdict body state)
  rowed own message seq (Accepted (DestroySession other_number)) body state stands =
      elim (destroyed own message other_number state stands) [
        | inl left ↦ inl left
        | inr gone ↦ inr (gone.0, gone.1, ap (λ (number : ℕ). Accepted (DestroySession number)) gone.2)
      ]
  rowed own message seq (Accepted item) body state stands = inl (owed-by own message seq (Accepted item) body state stands)
  rowed own message seq (Again mark) body state stands = inl (owed-by own message seq (Again mark) body state stands)
  rowed own message seq (Noticed code) body state stands = inl (owed-by own message seq (Noticed code) body state stands)

  tells-named : (number : ℕ) (x : Speaker S) → name_of (tells_of number x).session ≡ name_of x.session
  tells-named number x = refl

  all-settled : (own : Name) (judged : List Judgement) (bodies : List (List ℕ)) (state : State S) → Stands name state.sessions
      → Stands name (fold (settles setting own) state (zip judged bodies)).sessions ⊎ IsAsked own name judged
  all-settled own [] bodies state stands = inl stands
  all-settled own (judgement ∷ judged) [] state stands = inl stands
  all-settled own (judgement ∷ judged) (body ∷ bodies) state stands =
      let done = row setting own judgement.number judgement.seq judgement.verdict body state in
      elim (rowed own judgement.number judgement.seq judgement.verdict body state stands) [
        | inl left ↦
            elim (all-settled own judged bodies (settles setting own state (judgement, body))
            (failures (speaks own (tells_of judgement.number) done) (names-speak own (tells_of judgement.number) done (tells-named judgement.number) left))) [
              | inl so ↦ inl so
              | inr asked ↦ inr (asked.0, asked.1, (asked.2.0, Contains-append_right (judgement ∷ []) judged asked.2.0 asked.2.1, asked.2.2))
            ]
        | inr gone ↦ inr (gone.0, gone.1, (judgement, (0, omega arith, refl), gone.2))
      ]

  -- ---- the end

  each-sent : (owed : List Owed) (names : List Name) (state : State S) → Stands name state.sessions
      → Stands name (fold (λ so_far name. speaks name (sends setting (messages_by name owed)) so_far) state names).sessions
  each-sent owed [] state stands = stands
  each-sent owed (own ∷ names) state stands =
      each-sent owed names (speaks own (sends setting (messages_by own owed)) state)
      (one-speaks own (sends setting (messages_by own owed)) state (λ x. sends-same setting (messages_by own owed) x) stands)

  ended-why : (state : State S) → Stands name state.sessions → session_named name (ended setting state).server.sessions ≡ None
      → IsSpentAmong name (all_sent setting state).sessions
  ended-why state stands none =
      let sent : State S = all_sent setting state in
      let There : Session → Type 0 = λ session. Contains sent.sessions session × (is_spent session ≡ true) in
      elim (spent-among name (filter is_spent sent.sessions) sent (each-sent state.owed (names_in state.owed) state stands)) [
        | inl left ↦ absurd (none-some left.0 (sym none ∙ left.1))
        | inr among ↦
            let spent = All-contains There (filter is_spent sent.sessions) among.0 (filter-there is_spent sent.sessions) among.1 in
            (among.0, spent.0, among.2, spent.1)
      ]

  -- ---- a packet

  placed : (envelope : Envelope) (server : Server) (sessions : List Session) (state : State S) → state.sessions ≡ sessions → server.sessions ≡ sessions
      → session_named (name_in envelope) server.sessions ≡ None → 256 ≤ length sessions → Stands name sessions
      → Stands name (without_first sessions state).sessions ⊎ GivesPlace envelope server name
  placed envelope server [] state is same none full stands = absurd (none-some stands.0 stands.1)
  placed envelope server (first ∷ sessions) state is same none full stands =
      elim (cases_name name (name_of first)) [
        | inl own ↦
            inr (record {
              made = none;
              full = subst (λ (sessions : List Session). 256 ≤ length sessions) (sym same) full;
              first = (first, sessions, same, sym own);
            })
        | inr apart ↦
            let P : List Session → Type 0 = λ sessions. Stands name (without_session (name_of first) sessions) in
            inl (subst P (sym is) (other-stands name (name_of first) (first ∷ sessions) apart stands))
      ]

  heard-by : (envelope : Envelope) (server : Server) (draw : S) (found : Option Session) → session_named (name_in envelope) server.sessions ≡ found
      → Stands name server.sessions → Stands name (hears_by setting envelope found (begun server draw)).sessions ⊎ GivesPlace envelope server name
  heard-by envelope server draw (Some session) is stands =
      elim (cases_name name (name_of session)) [
        | inl same ↦ inl (last-stands name (without_session (name_of session) server.sessions) session same)
        | inr apart ↦
            inl (still-stands name (without_session (name_of session) server.sessions) (session ∷ []) (other-stands name (name_of session) server.sessions apart stands))
      ]
  heard-by envelope server draw None is stands =
      let state : State S = begun server draw in
      let Then : State S → Type 0 = λ placed. Stands name (placed.sessions ++ session_for setting envelope placed.draw ∷ []) ⊎ GivesPlace envelope server name in
      let more : (placed : State S) → Stands name placed.sessions → Stands name (placed.sessions ++ session_for setting envelope placed.draw ∷ []) =
      λ placed there. still-stands name placed.sessions (session_for setting envelope placed.draw ∷ []) there in
      cond_both (nat_lt (length server.sessions) sessions_max) state (without_first server.sessions state) Then
      (λ is_less. inl (more state stands))
      (λ is_full.
      elim (placed envelope server server.sessions state refl refl is (ltb-false (length server.sessions) sessions_max is_full) stands) [
        | inl left ↦ inl (more (without_first server.sessions state) left)
        | inr gone ↦ inr gone
      ])

  taken-by : (envelope : Envelope) (server : Server) (draw : S) (found : Option Session)
      → session_named (name_in envelope) (hears setting envelope (begun server draw)).sessions ≡ found
      → Stands name (hears setting envelope (begun server draw)).sessions
      → Stands name (takes_by setting envelope found (hears setting envelope (begun server draw))).sessions ⊎ IsDestroyed setting envelope server draw name
  taken-by envelope server draw None is stands = inl stands
  taken-by envelope server draw (Some session) is stands =
      let heard = hears setting envelope (begun server draw) in
      let own = name_of session in
      let way = InEnvelope setting.now session.salts envelope.salt in
      let message = message_in envelope in
      let judged = judgements way (remembered session) message in
      let bodies = map (λ one. one.body) (messages_judged way session message) in
      let speak = opens setting (session_after way (remembered session) message).history judged in
      let named_so : own ≡ name_in envelope = found-named (name_in envelope) heard.sessions session is in
      elim (all-settled own judged bodies (speaks own speak heard)
      (names-speak own speak heard (λ x. opens-name setting (session_after way (remembered session) message).history judged x) stands)) [
        | inl left ↦ inl left
        | inr asked ↦
            inr (record {
              key = sym (ap (λ (name : Name). name.key) named_so) ∙ asked.0;
              apart = λ same. asked.1 (named_so ∙ same);
              session = session;
              heard = is;
              judgement = asked.2.0;
              judged = asked.2.1;
              asked = asked.2.2;
            })
      ]

  pub packet-why : (envelope : Envelope) (server : Server) (draw : S) → Stands name server.sessions
      → session_named name (ended setting (takes setting envelope (begun server draw))).server.sessions ≡ None
      → GivesPlace envelope server name ⊎ (IsDestroyed setting envelope server draw name ⊎ IsSpentAmong name (all_sent setting (takes setting envelope (begun server draw))).sessions)
  packet-why envelope server draw stands none =
      let heard = hears setting envelope (begun server draw) in
      elim (heard-by envelope server draw (session_named (name_in envelope) server.sessions) refl stands) [
        | inr gives ↦ inl gives
        | inl there ↦
            elim (taken-by envelope server draw (session_named (name_in envelope) heard.sessions) refl there) [
              | inr gone ↦ inr (inl gone)
              | inl left ↦ inr (inr (ended-why (takes setting envelope (begun server draw)) left none))
            ]
      ]

  -- ---- other events

  runs-stands : (place : ℕ) (job : Job) (reply : List ℕ) (state : State S) → Stands name state.sessions → Stands name (runs setting place job reply state).sessions
  runs-stands place job reply state stands =
      let rest : State S = record state { jobs = without_ready place state.jobs } in
      failures (speaks (named job.key job.session) (finishes setting job reply) rest)
      (one-speaks (named job.key job.session) (finishes setting job reply) rest
      (λ x. for-itself setting x (finishes setting job reply x) (says_so.finishes_for x job reply)) stands)

  pub run-why : {V : Type 0} (course : Course S V) (place : ℕ) (found : Option Job) (serve : Step V) → Stands name course.server.sessions
      → session_named name (worked course (after_run setting place found serve course.service course.server course.draw)).server.sessions ≡ None
      → IsSpentAmong name (all_sent setting (runs_of setting place found serve course.service (begun course.server course.draw))).sessions
  run-why course place None serve stands none = ended-why (begun course.server course.draw) stands none
  run-why course place (Some job) serve stands none =
      let reply = (serve course.service job.request).0 in
      ended-why (runs setting place job reply (begun course.server course.draw)) (runs-stands place job reply (begun course.server course.draw) stands) none

  pub tick-why : (server : Server) (draw : S) → Stands name server.sessions → session_named name (ended setting (ticks setting (begun server draw))).server.sessions ≡ None
      → IsSpentAmong name (all_sent setting (ticks setting (begun server draw))).sessions
  tick-why server draw stands none =
      let start : State S = begun server draw in
      ended-why (ticks setting start)
      (failures (after_timeouts setting start) (all-given msg_wait_timeout (first_overdue setting.now) (length start.jobs) start stands)) none

  pub attach-why : (other : Name) (server : Server) (draw : S) → Stands name server.sessions
      → session_named name (ended setting (speaks other (attaches setting) (begun server draw))).server.sessions ≡ None
      → IsSpentAmong name (all_sent setting (speaks other (attaches setting) (begun server draw))).sessions
  attach-why other server draw stands none =
      let start : State S = begun server draw in
      ended-why (speaks other (attaches setting) start)
      (one-speaks other (attaches setting) start (λ x. for-itself setting x (attaches setting x) (says_so.attaches_for x)) stands) none

-- ---- all events

pub lost-why : {S V : Type 0} (laws : Speak S) (setting : Setting S) (says_so : (now : ℕ) → Says (record setting { now = now })) (serve : Step V) (service : V) (course : Course S V) (event : Event) (name : Name)
    → Stands name course.server.sessions → session_named name (after_event setting serve service course event).server.sessions ≡ None → IsLostIn setting serve course name event
lost-why laws setting says_so serve service course (Packet moment None) name stands none = none-stands name course.server.sessions none stands
lost-why laws setting says_so serve service course (Packet moment (Some envelope)) name stands none =
    let at = setting_at setting moment course.server in
    packet-why laws at (says_so at.now) name envelope course.server course.draw stands none
lost-why laws setting says_so serve service course (Work moment place) name stands none =
    let at = setting_at setting moment course.server in
    run-why laws at (says_so at.now) name course place (ready_job place course.server.jobs) serve stands none
lost-why laws setting says_so serve service course (Tick moment) name stands none =
    let at = setting_at setting moment course.server in
    tick-why laws at (says_so at.now) name course.server course.draw stands none
lost-why laws setting says_so serve service course (Attach moment other) name stands none =
    let at = setting_at setting moment course.server in
    attach-why laws at (says_so at.now) name other course.server course.draw stands none
lost-why laws setting says_so serve service course (Loss other) name stands none =
    elim (cases_name name other) [
      | inl same ↦ sym same
      | inr apart ↦ absurd (none-stands name (without_session other course.server.sessions) none (other-stands name other course.server.sessions apart stands))
    ]
lost-why laws setting says_so serve service course Restart name stands none = tt
