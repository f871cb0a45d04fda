-- Each event keeps calls in turn.
use Rattle.std.proofs.Common.{◌≡◌, ◌∙◌, ℕ, zero, suc, Bool, true, cond, Option, Some, None, List, [], ◌∷◌, ◌++◌, length, map, append_assoc, ap, sym, subst, refl}
use Rattle.std.specs.Prelude.{fold, nat_lt}
use Rattle.std.specs.List.{AllByRecursion, filter, zip}
use Rattle.std.proofs.lemmas.Bool.{cond_both, and_parts, eqb-true}
use Rattle.std.proofs.lemmas.List.{append-nil}
use Rattle.service_tl.specs.declared.item.Item.{Item}
use Rattle.service_tl.specs.declared.item.Item.TheVariants.{DestroySession, DestroySessionOk, DestroySessionNone}
use Rattle.service_tl.specs.declared.lists.Message.{Message}
use Rattle.salt_line.specs.Line.{current_salt}
use Rattle.id_window.specs.History.{History, found}
use Rattle.id_window.specs.declared.mark.Mark.{Mark}
use Rattle.inbox.specs.Kinds.{item_told, kind_of}
use Rattle.inbox.specs.Refusals.{Way, InContainer, InEnvelope, refusal}
use Rattle.inbox.specs.Judging.{Session as Remembered, inner_judgements, judge, judged_session, judgement_on, judgements, session_after, unfolded, verdict_by}
use Rattle.inbox.specs.Verdicts.{Judgement, Verdict, Accepted, Again, Noticed}
use Rattle.packing.specs.Packing.{packets_of, after_packets}
use Rattle.regs_service.specs.Served.{Step}
use Rattle.waits.specs.declared.job.Job.{Job}
use Rattle.waits.specs.declared.job.Unfinished.{Unfinished}
use Rattle.waits.specs.Jobs.{first_job, has_failed, is_overdue, ready_job, without_first, without_ready}
use Rattle.server_rules.specs.Server.{Name, Session, has_accepted, is_named, name_of, remembered, session_named, without_session}
use Rattle.server_rules.specs.Event.{Entry, Envelope, Setting, Speaker, State, lost, speaker_in, speaks, spoken_by}
use Rattle.server_rules.specs.Events.{Attach, Course, Event, Loss, Packet, Restart, Tick, Work, after_event, setting_at}
use Rattle.server_rules.specs.Speaking.{msg_wait_failed, msg_wait_timeout, needs_salts, says, says_it_is_new}
use Rattle.server_rules.specs.Waiting.{after_failures, after_timeouts, all_given_up, first_given_up, given_up, gives_up, tells_of}
use Rattle.server_rules.specs.Rows.{acks_of, destroys, owes, row, settles}
use Rattle.server_rules.specs.Sending.{all_sent, messages_by, names_in, seals, sends}
use Rattle.server_rules.specs.Answer.{Answer, after_run, attaches, begun, ended, finishes, hears, hears_by, is_spent, message_in, name_in, opens, runs, session_for, takes, takes_by, ticks, with_place, without_first as without_first_session}
use Rattle.law_order.specs.After.{AreInTurn, HasRun, IsAnswer, IsEventFor, IsFor, IsPacketFor, IsWaiting, Pair}
use Rattle.law_order.proofs.Lists.{all-append, all-filter, all-found, all-map}
use Rattle.law_order.proofs.ServerWaiting.{first-left, ready-left, ready-ran}
use Rattle.law_order.proofs.Rows.{IsVerdictFor, Sound, acknowledges-sound, attaches-sound, failed-bad, finishes-sound, gives_up-sound, more-answers, new-sound, owes-sound, says-sound, salts-sound, tells-sound, timeout-bad}

its-own : (name : Name) (session : Session) → is_named name session ≡ true → name_of session ≡ name
its-own name session is =
    let parts = and_parts _ _ is in
    let of_key = eqb-true name.key session.key parts.0 in
    let of_session = eqb-true name.session session.number parts.1 in
    sym (ap (λ (k : ℕ). record { key = k; session = name.session }) of_key ∙ ap (λ (s : ℕ). record { key = session.key; session = s }) of_session)

module _ {S : Type 0} (setting : Setting S) (pair : Pair) (past : List Entry) where
  abbrev pub Ran : State S → Type 0
  Ran state = HasRun pair (past ++ state.entries)

  abbrev pub Kept : State S → Type 0
  Kept state = AreInTurn pair state.sessions state.jobs (past ++ state.entries)

  abbrev IsSession : Type 0 → Session → Type 0
  IsSession R session = name_of session ≡ pair.name → AllByRecursion (IsAnswer pair R) session.replies

  -- ---- a session speaks

  found-kept : (name : Name) (found : Option Session) (speak : Speaker S → Speaker S) (state : State S) → session_named name state.sessions ≡ found
      → ((speaker : Speaker S) → Sound pair past name (Ran state) speaker → Sound pair past name (Ran state) (speak speaker))
      → Kept state → Kept (spoken_by found speak state)
  found-kept name None speak state is sound kept = kept
  found-kept name (Some session) speak state is sound kept =
      let found = all-found (IsSession (Ran state)) (is_named name) state.sessions session is kept.answers in
      let named = its-own name session found.1 in
      let after = speak (speaker_in state session) in
      let a = sound (speaker_in state session) (record {
        named = named;
        waiting = kept.waiting;
        answers = λ own. found.0 (named ∙ own);
        behind = kept.behind;
        honest = kept.honest;
        stays = λ r. r;
      }) in
      let Now = HasRun pair (past ++ after.entries) in
      record {
        waiting = a.waiting;
        answers =
            all-map (IsSession (Ran state)) (IsSession Now) (λ other. cond (is_named (name_of after.session) other) after.session other) state.sessions
            (λ other its.
            cond_both (is_named (name_of after.session) other) after.session other (IsSession Now)
            (λ same own. a.answers (sym a.named ∙ own))
            (λ apart own. more-answers pair (Ran state) Now other.replies a.stays (its own)))
            kept.answers;
        behind = a.behind;
        honest = a.honest;
      }

  pub speaks-kept : (name : Name) (speak : Speaker S → Speaker S) (state : State S)
      → ((speaker : Speaker S) → Sound pair past name (Ran state) speaker → Sound pair past name (Ran state) (speak speaker))
      → Kept state → Kept (speaks name speak state)
  speaks-kept name speak state sound kept = found-kept name (session_named name state.sessions) speak state refl sound kept

  lost-kept : (name : Name) (state : State S) → Kept state → Kept (lost name state)
  lost-kept name state kept = record {
    waiting = all-filter (IsWaiting pair (Ran state)) _ state.jobs kept.waiting;
    answers = all-filter (IsSession (Ran state)) _ state.sessions kept.answers;
    behind = kept.behind;
    honest = kept.honest;
  }

  -- ---- jobs that are given up

  given-kept : (content : List ℕ) (bad : (state : State S) (job : Job) (speaker : Speaker S) → Sound pair past (record { key = job.key; session = job.session }) (Ran state) speaker
      → Sound pair past (record { key = job.key; session = job.session }) (Ran state) (gives_up setting content job speaker))
      → (job : Option Job) (state : State S) → Kept state → Kept (given_up setting content job state)
  given-kept content bad None state kept = kept
  given-kept content bad (Some job) state kept =
      speaks-kept (record { key = job.key; session = job.session }) (gives_up setting content job) state (bad state job) kept

  all_given-kept : (content : List ℕ) (bad : (state : State S) (job : Job) (speaker : Speaker S) → Sound pair past (record { key = job.key; session = job.session }) (Ran state) speaker
      → Sound pair past (record { key = job.key; session = job.session }) (Ran state) (gives_up setting content job speaker))
      → (test : Unfinished → Bool) (n : ℕ) (state : State S) → Kept state
      → Kept (all_given_up setting content (λ queue. (first_job test queue, without_first test queue)) n state)
  all_given-kept content bad test zero state kept = kept
  all_given-kept content bad test (suc n) state kept =
      all_given-kept content bad test n (first_given_up setting content (λ queue. (first_job test queue, without_first test queue)) state)
      (given-kept content bad (first_job test state.jobs) (record state { jobs = without_first test state.jobs }) (record {
        waiting = first-left pair (Ran state) test state.jobs kept.waiting;
        answers = kept.answers;
        behind = kept.behind;
        honest = kept.honest;
      }))

  pub failures-kept : (state : State S) → Kept state → Kept (after_failures setting state)
  failures-kept state kept =
      all_given-kept msg_wait_failed (λ state job. gives_up-sound setting pair past (record { key = job.key; session = job.session }) (Ran state) msg_wait_failed job failed-bad)
      has_failed (length state.jobs) state kept

  timeouts-kept : (state : State S) → Kept state → Kept (after_timeouts setting state)
  timeouts-kept state kept =
      all_given-kept msg_wait_timeout (λ state job. gives_up-sound setting pair past (record { key = job.key; session = job.session }) (Ran state) msg_wait_timeout job timeout-bad)
      (is_overdue setting.now) (length state.jobs) state kept

  runs-kept : (place : ℕ) (job : Job) (reply : List ℕ) (state : State S) → ready_job place state.jobs ≡ Some job → Kept state → Kept (runs setting place job reply state)
  runs-kept place job reply state is kept =
      let name : Name = record { key = job.key; session = job.session } in
      let rest : State S = record state { jobs = without_ready place state.jobs } in
      failures-kept (speaks name (finishes setting job reply) rest)
      (speaks-kept name (finishes setting job reply) rest
      (finishes-sound setting pair past name (Ran state) job reply (ready-ran pair (Ran state) place state.jobs job is kept.waiting) refl)
      (record {
        waiting = ready-left pair (Ran state) place state.jobs kept.waiting;
        answers = kept.answers;
        behind = kept.behind;
        honest = kept.honest;
      }))

  -- ---- judgements

  destroys-kept : (number destroyed : ℕ) (name : Name) (state : State S) → Kept state → Kept (destroys setting number destroyed name state)
  destroys-kept number destroyed name state kept =
      let other : Name = record name { session = destroyed } in
      cond_both _ _ _ Kept
      (λ is.
      speaks-kept name (says setting (DestroySessionOk destroyed)) (lost other state) (says-sound setting pair past name (Ran state) (DestroySessionOk destroyed))
      (lost-kept other state kept))
      (λ is. speaks-kept name (says setting (DestroySessionNone destroyed)) state (says-sound setting pair past name (Ran state) (DestroySessionNone destroyed)) kept)

  row-kept : (name : Name) (number seq : ℕ) (verdict : Verdict) (body : List ℕ) (state : State S) → IsVerdictFor setting pair past name (Ran state) number verdict
      → Kept state → Kept (row setting name number seq verdict body state)
  row-kept name number seq (Accepted (DestroySession destroyed)) body state is kept = destroys-kept number destroyed name state kept
  row-kept name number seq verdict body state is kept =
      speaks-kept name (owes setting number seq verdict body) state (owes-sound setting pair past name (Ran state) number seq verdict body is) kept

  -- what is judged of a message is such
  abbrev IsJudged : Name → Judgement × List ℕ → Type 0
  IsJudged name (judgement, body) = (item : Item) → judgement.verdict ≡ Accepted item → name ≡ pair.name → IsFor pair judgement.number item

  settles-kept : (name : Name) (one : Judgement × List ℕ) (state : State S) → IsJudged name one → Kept state → Kept (settles setting name state one)
  settles-kept name (judgement, body) state is kept =
      let owed = row setting name judgement.number judgement.seq judgement.verdict body state in
      failures-kept (speaks name (tells_of judgement.number) owed)
      (speaks-kept name (tells_of judgement.number) owed (tells-sound setting pair past name (Ran owed) judgement.number)
      (row-kept name judgement.number judgement.seq judgement.verdict body state is kept))

  all_settled-kept : (name : Name) (judged : List (Judgement × List ℕ)) (state : State S) → AllByRecursion (IsJudged name) judged → Kept state
      → Kept (fold (settles setting name) state judged)
  all_settled-kept name [] state are kept = kept
  all_settled-kept name (one ∷ judged) state are kept = all_settled-kept name judged (settles setting name state one) are.1 (settles-kept name one state are.0 kept)

  verdict-item : (way : Way) (session : Remembered) (message : Message) (one : Item) → judge way session message ≡ Accepted one → item_told message.body ≡ one
  verdict-item way session message one is = go (found message.number session.history session.marks) (refusal way session.history message) is where
    go : (mark : Option Mark) (code : Option ℕ) → verdict_by mark code (kind_of message) (item_told message.body) ≡ Accepted one → item_told message.body ≡ one
    go (Some mark) code is =
        absurd (cond_both _ (Noticed 19) (Again mark) (λ (verdict : Verdict). verdict ≡ Accepted one → ⊥) (λ test no. cc) (λ test no. cc) is)
    go None (Some code) is = absurd (let no : Noticed code ≡ Accepted one = is in cc)
    go None None is = let same : Accepted (item_told message.body) ≡ Accepted one = is in cc

  abbrev IsMessage : Name → Message → Type 0
  IsMessage name message = name ≡ pair.name → IsFor pair message.number (item_told message.body)

  judged-so : (way : Way) (session : Remembered) (name : Name) (message : Message) → IsMessage name message → IsJudged name (judgement_on way session message, message.body)
  judged-so way session name message so = λ item is own. subst (IsFor pair message.number) (verdict-item way session message item is) (so own)

  inner-judged : (name : Name) (session : Remembered) (messages : List Message) → AllByRecursion (IsMessage name) messages
      → AllByRecursion (IsJudged name) (zip (inner_judgements session messages) (map (λ (one : Message). one.body) messages))
  inner-judged name session [] are = tt
  inner-judged name session (message ∷ messages) are = (
    judged-so InContainer session name message are.0,
    inner-judged name (judged_session InContainer session message) messages are.1,
  )

  all-own : (name : Name) (messages : List Message) → (name ≡ pair.name → AllByRecursion (λ (message : Message). IsFor pair message.number (item_told message.body)) messages)
      → AllByRecursion (IsMessage name) messages
  all-own name [] are = tt
  all-own name (message ∷ messages) are = (λ own. (are own).0, all-own name messages (λ own. (are own).1))

  -- ---- a packet

  opens-sound : (name : Name) (R : Type 0) (history : History) (judged : List Judgement) (speaker : Speaker S) → Sound pair past name R speaker
      → Sound pair past name R (opens setting history judged speaker)
  opens-sound name R history judged speaker s =
      let ready : Speaker S = record speaker { session = record speaker.session { history = history } } in
      let r : Sound pair past name R ready = record { named = s.named; waiting = s.waiting; answers = s.answers; behind = s.behind; honest = s.honest; stays = s.stays } in
      acknowledges-sound setting pair past name R (acks_of judged) (cond (has_accepted ready.session) ready (says_it_is_new setting ready))
      (cond_both (has_accepted ready.session) ready (says_it_is_new setting ready) (Sound pair past name R) (λ is. r) (λ is. new-sound setting pair past name R ready r))

  takes_by-kept : (envelope : Envelope) (found : Option Session) (state : State S) → session_named (name_in envelope) state.sessions ≡ found → IsPacketFor pair envelope
      → Kept state → Kept (takes_by setting envelope found state)
  takes_by-kept envelope None state is are kept = kept
  takes_by-kept envelope (Some session) state is are kept =
      let way = InEnvelope setting.now session.salts envelope.salt in
      let message = message_in envelope in
      let inner = unfolded (judge way (remembered session) message) message in
      let history = (session_after way (remembered session) message).history in
      let judged = judgements way (remembered session) message in
      let name = name_of session in
      let found = all-found (IsSession (Ran state)) (is_named (name_in envelope)) state.sessions session is kept.answers in
      let named = its-own (name_in envelope) session found.1 in
      let all = all-own name (message ∷ inner) (λ own. are (sym named ∙ own) way session) in
      all_settled-kept name (zip judged (map (λ (one : Message). one.body) (message ∷ inner))) (speaks name (opens setting history judged) state)
      (judged-so way (remembered session) name message all.0, inner-judged name (judged_session way (remembered session) message) inner all.1)
      (speaks-kept name (opens setting history judged) state (opens-sound name (Ran state) history judged) kept)

  placed-kept : (sessions : List Session) (state : State S) → Kept state → Kept (without_first_session sessions state)
  placed-kept [] state kept = kept
  placed-kept (session ∷ sessions) state kept = lost-kept (name_of session) state kept

  hears-kept : (envelope : Envelope) (found : Option Session) (state : State S) → session_named (name_in envelope) state.sessions ≡ found → Kept state
      → Kept (hears_by setting envelope found state)
  hears-kept envelope (Some session) state is kept =
      let found = all-found (IsSession (Ran state)) (is_named (name_in envelope)) state.sessions session is kept.answers in
      record {
        waiting = kept.waiting;
        answers =
            all-append (IsSession (Ran state)) (without_session (name_of session) state.sessions) (session ∷ [])
            (all-filter (IsSession (Ran state)) _ state.sessions kept.answers) (found.0, tt);
        behind = kept.behind;
        honest = kept.honest;
      }
  hears-kept envelope None state is kept =
      let place = with_place state in
      let rest = cond_both (nat_lt (length state.sessions) 256) state (without_first_session state.sessions state) Kept (λ is. kept) (λ is. placed-kept state.sessions state kept) in
      record {
        waiting = rest.waiting;
        answers = all-append (IsSession (Ran place)) place.sessions (session_for setting envelope place.draw ∷ []) rest.answers (λ own. tt, tt);
        behind = rest.behind;
        honest = rest.honest;
      }

  takes-kept : (envelope : Envelope) (state : State S) → IsPacketFor pair envelope → Kept state → Kept (takes setting envelope state)
  takes-kept envelope state are kept =
      let heard = hears setting envelope state in
      takes_by-kept envelope (session_named (name_in envelope) heard.sessions) heard refl are
      (hears-kept envelope (session_named (name_in envelope) state.sessions) state refl kept)

  -- ---- the end of an event

  sealed-sound : (name : Name) (R : Type 0) (salt : ℕ) (packets : List Message) (speaker : Speaker S) → Sound pair past name R speaker
      → Sound pair past name R (fold (seals setting salt) speaker packets)
  sealed-sound name R salt [] speaker s = s
  sealed-sound name R salt (packet ∷ packets) speaker s =
      sealed-sound name R salt packets (seals setting salt speaker packet)
      (record { named = s.named; waiting = s.waiting; answers = s.answers; behind = s.behind; honest = s.honest; stays = s.stays })

  sends-sound : (name : Name) (R : Type 0) (messages : List Message) (speaker : Speaker S) → Sound pair past name R speaker
      → Sound pair past name R (sends setting messages speaker)
  sends-sound name R messages speaker s =
      let ready = needs_salts setting 1 speaker in
      let r = salts-sound setting pair past name R 1 speaker s in
      let counted : Speaker S = record ready { session = record ready.session { counters = after_packets setting.now ready.session.counters messages } } in
      sealed-sound name R (current_salt ready.session.salts setting.now) (packets_of setting.now ready.session.counters messages) counted
      (record { named = r.named; waiting = r.waiting; answers = r.answers; behind = r.behind; honest = r.honest; stays = r.stays })

  sent-kept : (messages : Name → List Message) (names : List Name) (state : State S) → Kept state
      → Kept (fold (λ so_far name. speaks name (sends setting (messages name)) so_far) state names)
  sent-kept messages [] state kept = kept
  sent-kept messages (name ∷ names) state kept =
      sent-kept messages names (speaks name (sends setting (messages name)) state)
      (speaks-kept name (sends setting (messages name)) state (sends-sound name (Ran state) (messages name)) kept)

  spent-kept : (sessions : List Session) (state : State S) → Kept state → Kept (fold (λ so_far session. lost (name_of session) so_far) state sessions)
  spent-kept [] state kept = kept
  spent-kept (session ∷ sessions) state kept = spent-kept sessions (lost (name_of session) state) (lost-kept (name_of session) state kept)

  abbrev pub IsAnswered : Answer S → Type 0
  IsAnswered answer = AreInTurn pair answer.server.sessions answer.server.jobs (past ++ answer.entries)

  pub ended-kept : (state : State S) → Kept state → IsAnswered (ended setting state)
  ended-kept state kept =
      let sent = all_sent setting state in
      let done = spent-kept (filter is_spent sent.sessions) sent (sent-kept (λ name. messages_by name state.owed) (names_in state.owed) state kept) in
      record { waiting = done.waiting; answers = done.answers; behind = done.behind; honest = done.honest }

  ticks-kept : (state : State S) → Kept state → Kept (ticks setting state)
  ticks-kept state kept = failures-kept (after_timeouts setting state) (timeouts-kept state kept)

-- ---- events

module _ {S V : Type 0} (setting : Setting S) (serve : Step V) (fresh : V) (pair : Pair) (past : List Entry) where
  abbrev pub AreSo : Course S V → Type 0
  AreSo course = AreInTurn pair course.server.sessions course.server.jobs (past ++ course.entries)

  begun-kept : (course : Course S V) → AreSo course → Kept setting pair (past ++ course.entries) (begun course.server course.draw)
  begun-kept course so = subst (AreInTurn pair course.server.sessions course.server.jobs) (sym (append-nil (past ++ course.entries))) so

  behind-all : (course : Course S V) (answer : Answer S) → IsAnswered setting pair (past ++ course.entries) answer
      → AreInTurn pair answer.server.sessions answer.server.jobs (past ++ (course.entries ++ answer.entries))
  behind-all course answer so = subst (AreInTurn pair answer.server.sessions answer.server.jobs) (append_assoc past course.entries answer.entries) so

  work-kept : (now : Setting S) (place : ℕ) (job : Option Job) (course : Course S V) → ready_job place course.server.jobs ≡ job → AreSo course
      → IsAnswered setting pair (past ++ course.entries) (after_run now place job serve course.service course.server course.draw).0
  work-kept now place None course is so = ended-kept now pair (past ++ course.entries) (begun course.server course.draw) (begun-kept course so)
  work-kept now place (Some job) course is so =
      let served = serve course.service job.request in
      let state = begun course.server course.draw in
      ended-kept now pair (past ++ course.entries) (runs now place job served.0 state)
      (runs-kept now pair (past ++ course.entries) place job served.0 state is (begun-kept course so))

  pub event-kept : (course : Course S V) (event : Event) → IsEventFor pair event → AreSo course → AreSo (after_event setting serve fresh course event)
  event-kept course (Packet moment None) are so = so
  event-kept course (Packet moment (Some envelope)) are so =
      let now = setting_at setting moment course.server in
      let state = begun course.server course.draw in
      behind-all course (ended now (takes now envelope state))
      (ended-kept now pair (past ++ course.entries) (takes now envelope state) (takes-kept now pair (past ++ course.entries) envelope state are (begun-kept course so)))
  event-kept course (Work moment place) are so =
      let now = setting_at setting moment course.server in
      behind-all course (after_run now place (ready_job place course.server.jobs) serve course.service course.server course.draw).0
      (work-kept now place (ready_job place course.server.jobs) course refl so)
  event-kept course (Tick moment) are so =
      let now = setting_at setting moment course.server in
      let state = begun course.server course.draw in
      behind-all course (ended now (ticks now state))
      (ended-kept now pair (past ++ course.entries) (ticks now state) (ticks-kept now pair (past ++ course.entries) state (begun-kept course so)))
  event-kept course (Attach moment name) are so =
      let now = setting_at setting moment course.server in
      let state = begun course.server course.draw in
      behind-all course (ended now (speaks name (attaches now) state))
      (ended-kept now pair (past ++ course.entries) (speaks name (attaches now) state)
      (speaks-kept now pair (past ++ course.entries) name (attaches now) state
      (attaches-sound now pair (past ++ course.entries) name (Ran now pair (past ++ course.entries) state)) (begun-kept course so)))
  event-kept course (Loss name) are so = record {
    waiting = all-filter (IsWaiting pair (HasRun pair (past ++ course.entries))) _ course.server.jobs so.waiting;
    answers =
        all-filter (λ (session : Session). name_of session ≡ pair.name → AllByRecursion (IsAnswer pair (HasRun pair (past ++ course.entries))) session.replies) _ course.server.sessions
        so.answers;
    behind = so.behind;
    honest = so.honest;
  }
  event-kept course Restart are so = record { waiting = tt; answers = tt; behind = so.behind; honest = so.honest }

  pub events-kept : (events : List Event) (course : Course S V) → AllByRecursion (IsEventFor pair) events → AreSo course
      → AreSo (fold (after_event setting serve fresh) course events)
  events-kept [] course are so = so
  events-kept (event ∷ events) course are so = events-kept events (after_event setting serve fresh course event) are.1 (event-kept course event are.0 so)
