-- No event says notice 19.
use Rattle.std.proofs.Common.{◌≡◌, ◌∙◌, ℕ, zero, suc, Bool, true, cond, Option, Some, None, List, [], ◌∷◌, ◌++◌, length, map, ap, sym, subst, refl}
use Rattle.std.specs.Prelude.{fold, nat_lt}
use Rattle.std.specs.List.{AllByRecursion, filter, zip}
use Rattle.std.proofs.lemmas.Bool.{cond_both, and_parts, eqb-true}
use Rattle.msg_ids.specs.Counters.{Counters}
use Rattle.service_tl.specs.declared.item.Item.TheVariants.{DestroySession, DestroySessionOk, DestroySessionNone}
use Rattle.service_tl.specs.declared.lists.Message.{Message}
use Rattle.salt_line.specs.Line.{current_salt}
use Rattle.id_window.specs.History.{History}
use Rattle.inbox.specs.Refusals.{InEnvelope}
use Rattle.inbox.specs.Judging.{judge, judgements, session_after, unfolded}
use Rattle.inbox.specs.Verdicts.{Judgement, Verdict, Accepted}
use Rattle.packing.specs.Packing.{after_outer, after_packets, grouped, groups, is_within, outer_of, outers_of, packets_of}
use Rattle.regs_service.specs.Served.{Step}
use Rattle.waits.specs.declared.job.Job.{Job}
use Rattle.waits.specs.declared.job.Unfinished.{Unfinished}
use Rattle.waits.specs.Jobs.{Queue, first_job, has_failed, is_overdue, ready_job, without_first, without_ready}
use Rattle.server_rules.specs.Server.{Name, Session, has_accepted, is_named, is_same, name_of, remembered, session_named, without_session}
use Rattle.server_rules.specs.Event.{Envelope, Owed, Sent, Setting, Speaker, State, lost, speaker_in, speaks, spoken_by}
use Rattle.server_rules.specs.Events.{Attach, Course, Event, Loss, Packet, Restart, Tick, Work, after_event, setting_at}
use Rattle.server_rules.specs.Speaking.{msg_wait_failed, msg_wait_timeout, needs_salts, says, says_it_is_new}
use Rattle.server_rules.specs.Waiting.{after_failures, after_timeouts, all_given_up, first_given_up, given_up, gives_up, tells_of}
use Rattle.server_rules.specs.Rows.{acks_of, destroys, owes, row, settles}
use Rattle.server_rules.specs.Sending.{all_sent, envelope_of, messages_by, names_in, seals, sends}
use Rattle.server_rules.specs.Answer.{Answer, after_run, attaches, begun, ended, finishes, hears, hears_by, is_spent, message_in, name_in, opens, runs, session_for, takes, takes_by, ticks, with_place, without_first as without_first_session}
use Rattle.law_order.specs.Apart.{AreQuiet, AreSessionsOf, IsEventOf, IsJudgementOf, IsOfKind, IsPacketOf, IsQuiet, IsQuietBody, IsSessionOf, Kinds}
use Rattle.law_order.proofs.Judging.{IsJudgedSo, IsVerdictSo, Remembers, all-so, marks-so}
use Rattle.law_order.proofs.Lists.{all-append, all-filter, all-found, all-map}
use Rattle.law_order.proofs.NoticeRows.{AreOwedQuiet, Sound, acknowledges-sound, attaches-sound, finishes-sound, gives_up-sound, new-sound, owes-sound, says-sound, salts-sound, tells-sound}

its-own : (name : Name) (session : Session) → is_named name session ≡ true → name_of session ≡ name
its-own name session is =
    let parts = and_parts _ _ is in
    let of_key = eqb-true name.key session.key parts.0 in
    let of_session = eqb-true name.session session.number parts.1 in
    sym (ap (λ (k : ℕ). record { key = k; session = name.session }) of_key ∙ ap (λ (s : ℕ). record { key = session.key; session = s }) of_session)

-- ---- the packets of messages

grouped-quiet : (begun messages : List Message) → AllByRecursion IsQuiet begun → AllByRecursion IsQuiet messages
    → AllByRecursion (λ group. AllByRecursion IsQuiet group) (grouped begun messages)
grouped-quiet begun [] first rest = (first, tt)
grouped-quiet begun (message ∷ messages) first rest =
    cond_both (is_within (begun ++ message ∷ [])) (grouped (begun ++ message ∷ []) messages) (begun ∷ grouped (message ∷ []) messages)
    (λ (all : List (List Message)). AllByRecursion (λ group. AllByRecursion IsQuiet group) all)
    (λ is. grouped-quiet (begun ++ message ∷ []) messages (all-append IsQuiet begun (message ∷ []) first (rest.0, tt)) rest.1)
    (λ is. (first, grouped-quiet (message ∷ []) messages (rest.0, tt) rest.1))

groups-quiet : (messages : List Message) → AllByRecursion IsQuiet messages → AllByRecursion (λ group. AllByRecursion IsQuiet group) (groups messages)
groups-quiet [] all = tt
groups-quiet (message ∷ messages) all = grouped-quiet (message ∷ []) messages (all.0, tt) all.1

outer-quiet : (now : ℕ) (counters : Counters) (group : List Message) → AllByRecursion IsQuiet group → IsQuietBody (outer_of now counters group).body
outer-quiet now counters [] all = record { group = []; packet = refl; quiet = all }
outer-quiet now counters (message ∷ []) all = record { group = message ∷ []; packet = refl; quiet = all }
outer-quiet now counters (first ∷ (second ∷ group)) all = record { group = first ∷ (second ∷ group); packet = refl; quiet = all }

outers-quiet : (now : ℕ) (counters : Counters) (all : List (List Message)) → AllByRecursion (λ group. AllByRecursion IsQuiet group) all
    → AllByRecursion (λ (outer : Message). IsQuietBody outer.body) (outers_of now counters all)
outers-quiet now counters [] quiet = tt
outers-quiet now counters (group ∷ all) quiet =
    (outer-quiet now counters group quiet.0, outers-quiet now (after_outer now counters group) all quiet.1)

by-quiet : (name : Name) (owed : List Owed) → AreOwedQuiet owed → AllByRecursion IsQuiet (messages_by name owed)
by-quiet name owed quiet =
    all-map (λ (one : Owed). IsQuiet one.message) IsQuiet (λ (one : Owed). one.message) (filter (λ (one : Owed). is_same name one.name) owed) (λ one is. is)
    (all-filter (λ (one : Owed). IsQuiet one.message) (λ (one : Owed). is_same name one.name) owed quiet)

-- ---- an event so far

pub record Kept {S : Type 0} (kinds : Kinds) (state : State S) : Type 0 where
  pub sessions : AreSessionsOf kinds state.sessions
  pub owed : AreOwedQuiet state.owed
  pub sent : AreQuiet state.sent

module _ {S : Type 0} (setting : Setting S) (kinds : Kinds) where
  abbrev K : State S → Type 0
  K state = Kept kinds state

  found-kept : (name : Name) (found : Option Session) (speak : Speaker S → Speaker S) (state : State S) → session_named name state.sessions ≡ found
      → ((speaker : Speaker S) → Sound kinds name speaker → Sound kinds name (speak speaker)) → K state → K (spoken_by found speak state)
  found-kept name None speak state is sound kept = kept
  found-kept name (Some session) speak state is sound kept =
      let found = all-found (IsSessionOf kinds) (is_named name) state.sessions session is kept.sessions in
      let named = its-own name session found.1 in
      let after = speak (speaker_in state session) in
      let a = sound (speaker_in state session) (record {
        named = named;
        history = subst (λ (name : Name). AllByRecursion (IsJudgementOf kinds name) session.history) named found.0;
        owed = kept.owed;
        sent = kept.sent;
      }) in
      let own : IsSessionOf kinds after.session = subst (λ (name : Name). AllByRecursion (IsJudgementOf kinds name) after.session.history) (sym a.named) a.history in
      record {
        sessions =
            all-map (IsSessionOf kinds) (IsSessionOf kinds) (λ other. cond (is_named (name_of after.session) other) after.session other) state.sessions
            (λ other its. cond_both (is_named (name_of after.session) other) after.session other (IsSessionOf kinds) (λ same. own) (λ apart. its))
            kept.sessions;
        owed = a.owed;
        sent = a.sent;
      }

  pub speaks-kept : (name : Name) (speak : Speaker S → Speaker S) (state : State S)
      → ((speaker : Speaker S) → Sound kinds name speaker → Sound kinds name (speak speaker)) → K state → K (speaks name speak state)
  speaks-kept name speak state sound kept = found-kept name (session_named name state.sessions) speak state refl sound kept

  lost-kept : (name : Name) (state : State S) → K state → K (lost name state)
  lost-kept name state kept = record { sessions = all-filter (IsSessionOf kinds) _ state.sessions kept.sessions; owed = kept.owed; sent = kept.sent }

  -- ---- jobs that are given up

  given-kept : (content : List ℕ) (job : Option Job) (state : State S) → K state → K (given_up setting content job state)
  given-kept content None state kept = kept
  given-kept content (Some job) state kept =
      let name : Name = record { key = job.key; session = job.session } in
      speaks-kept name (gives_up setting content job) state (gives_up-sound setting kinds name content job) kept

  jobs-kept : (jobs : Queue) (state : State S) → K state → K (record state { jobs = jobs })
  jobs-kept jobs state kept = record { sessions = kept.sessions; owed = kept.owed; sent = kept.sent }

  all_given-kept : (content : List ℕ) (test : Unfinished → Bool) (n : ℕ) (state : State S) → K state
      → K (all_given_up setting content (λ queue. (first_job test queue, without_first test queue)) n state)
  all_given-kept content test zero state kept = kept
  all_given-kept content test (suc n) state kept =
      all_given-kept content test n (first_given_up setting content (λ queue. (first_job test queue, without_first test queue)) state)
      (given-kept content (first_job test state.jobs) (record state { jobs = without_first test state.jobs }) (jobs-kept (without_first test state.jobs) state kept))

  pub failures-kept : (state : State S) → K state → K (after_failures setting state)
  failures-kept state kept = all_given-kept msg_wait_failed has_failed (length state.jobs) state kept

  timeouts-kept : (state : State S) → K state → K (after_timeouts setting state)
  timeouts-kept state kept = all_given-kept msg_wait_timeout (is_overdue setting.now) (length state.jobs) state kept

  runs-kept : (place : ℕ) (job : Job) (reply : List ℕ) (state : State S) → K state → K (runs setting place job reply state)
  runs-kept place job reply state kept =
      let name : Name = record { key = job.key; session = job.session } in
      let rest : State S = record state { jobs = without_ready place state.jobs } in
      failures-kept (speaks name (finishes setting job reply) rest)
      (speaks-kept name (finishes setting job reply) rest (finishes-sound setting kinds name job reply) (jobs-kept (without_ready place state.jobs) state kept))

  -- ---- judgements

  destroys-kept : (number destroyed : ℕ) (name : Name) (state : State S) → K state → K (destroys setting number destroyed name state)
  destroys-kept number destroyed name state kept =
      let other : Name = record name { session = destroyed } in
      cond_both _ _ _ K
      (λ is.
      speaks-kept name (says setting (DestroySessionOk destroyed)) (lost other state) (λ speaker s. says-sound setting kinds name (DestroySessionOk destroyed) speaker tt s)
      (lost-kept other state kept))
      (λ is. speaks-kept name (says setting (DestroySessionNone destroyed)) state (λ speaker s. says-sound setting kinds name (DestroySessionNone destroyed) speaker tt s) kept)

  row-kept : (name : Name) (number seq : ℕ) (verdict : Verdict) (body : List ℕ) (state : State S) → IsVerdictSo kinds name verdict → K state
      → K (row setting name number seq verdict body state)
  row-kept name number seq (Accepted (DestroySession destroyed)) body state is kept = destroys-kept number destroyed name state kept
  row-kept name number seq verdict body state is kept =
      speaks-kept name (owes setting number seq verdict body) state (owes-sound setting kinds name number seq verdict body is) kept

  settles-kept : (name : Name) (one : Judgement × List ℕ) (state : State S) → IsJudgedSo kinds name one → K state → K (settles setting name state one)
  settles-kept name (judgement, body) state is kept =
      let owed = row setting name judgement.number judgement.seq judgement.verdict body state in
      failures-kept (speaks name (tells_of judgement.number) owed)
      (speaks-kept name (tells_of judgement.number) owed (tells-sound setting kinds name judgement.number)
      (row-kept name judgement.number judgement.seq judgement.verdict body state is kept))

  all_settled-kept : (name : Name) (judged : List (Judgement × List ℕ)) (state : State S) → AllByRecursion (IsJudgedSo kinds name) judged → K state
      → K (fold (settles setting name) state judged)
  all_settled-kept name [] state are kept = kept
  all_settled-kept name (one ∷ judged) state are kept = all_settled-kept name judged (settles setting name state one) are.1 (settles-kept name one state are.0 kept)

  -- ---- a packet

  opens-sound : (name : Name) (history : History) (judged : List Judgement) (speaker : Speaker S) → AllByRecursion (IsJudgementOf kinds name) history
      → Sound kinds name speaker → Sound kinds name (opens setting history judged speaker)
  opens-sound name history judged speaker so s =
      let ready : Speaker S = record speaker { session = record speaker.session { history = history } } in
      let r : Sound kinds name ready = record { named = s.named; history = so; owed = s.owed; sent = s.sent } in
      acknowledges-sound setting kinds name (acks_of judged) (cond (has_accepted ready.session) ready (says_it_is_new setting ready))
      (cond_both (has_accepted ready.session) ready (says_it_is_new setting ready) (Sound kinds name) (λ is. r) (λ is. new-sound setting kinds name ready r))

  takes_by-kept : (envelope : Envelope) (found : Option Session) (state : State S) → session_named (name_in envelope) state.sessions ≡ found
      → IsPacketOf kinds envelope → K state → K (takes_by setting envelope found state)
  takes_by-kept envelope None state is are kept = kept
  takes_by-kept envelope (Some session) state is are kept =
      let way = InEnvelope setting.now session.salts envelope.salt in
      let message = message_in envelope in
      let history = (session_after way (remembered session) message).history in
      let judged = judgements way (remembered session) message in
      let name = name_of session in
      let found = all-found (IsSessionOf kinds) (is_named (name_in envelope)) state.sessions session is kept.sessions in
      let named = its-own (name_in envelope) session found.1 in
      let all : AllByRecursion (IsOfKind kinds name) (message ∷ unfolded (judge way (remembered session) message) message) =
      subst (λ (name : Name). AllByRecursion (IsOfKind kinds name) (message ∷ unfolded (judge way (remembered session) message) message)) (sym named) (are way session) in
      let r : Remembers kinds name (remembered session) = record { history = found.0; marks = marks-so kinds name session.history session.replies found.0 } in
      let so = all-so kinds name way (remembered session) message all.0 all.1 r in
      all_settled-kept name (zip judged (map (λ (one : Message). one.body) (message ∷ unfolded (judge way (remembered session) message) message)))
      (speaks name (opens setting history judged) state) so.0
      (speaks-kept name (opens setting history judged) state (λ speaker s. opens-sound name history judged speaker so.1.history s) kept)

  placed-kept : (sessions : List Session) (state : State S) → K state → K (without_first_session sessions state)
  placed-kept [] state kept = kept
  placed-kept (session ∷ sessions) state kept = lost-kept (name_of session) state kept

  hears-kept : (envelope : Envelope) (found : Option Session) (state : State S) → session_named (name_in envelope) state.sessions ≡ found → K state
      → K (hears_by setting envelope found state)
  hears-kept envelope (Some session) state is kept =
      let found = all-found (IsSessionOf kinds) (is_named (name_in envelope)) state.sessions session is kept.sessions in
      record {
        sessions =
            all-append (IsSessionOf kinds) (without_session (name_of session) state.sessions) (session ∷ [])
            (all-filter (IsSessionOf kinds) _ state.sessions kept.sessions) (found.0, tt);
        owed = kept.owed;
        sent = kept.sent;
      }
  hears-kept envelope None state is kept =
      let place = with_place state in
      let rest = cond_both (nat_lt (length state.sessions) 256) state (without_first_session state.sessions state) K (λ is. kept) (λ is. placed-kept state.sessions state kept) in
      record {
        sessions = all-append (IsSessionOf kinds) place.sessions (session_for setting envelope place.draw ∷ []) rest.sessions (tt, tt);
        owed = rest.owed;
        sent = rest.sent;
      }

  takes-kept : (envelope : Envelope) (state : State S) → IsPacketOf kinds envelope → K state → K (takes setting envelope state)
  takes-kept envelope state are kept =
      let heard = hears setting envelope state in
      takes_by-kept envelope (session_named (name_in envelope) heard.sessions) heard refl are
      (hears-kept envelope (session_named (name_in envelope) state.sessions) state refl kept)

  -- ---- the end of an event

  sealed-sound : (name : Name) (salt : ℕ) (packets : List Message) (speaker : Speaker S) → AllByRecursion (λ (packet : Message). IsQuietBody packet.body) packets
      → Sound kinds name speaker → Sound kinds name (fold (seals setting salt) speaker packets)
  sealed-sound name salt [] speaker quiet s = s
  sealed-sound name salt (packet ∷ packets) speaker quiet s =
      let sealed = seals setting salt speaker packet in
      sealed-sound name salt packets sealed quiet.1 (record {
        named = s.named;
        history = s.history;
        owed = s.owed;
        sent = all-append (λ (sent : Sent). IsQuietBody sent.envelope.body) speaker.sent (record { envelope = envelope_of salt speaker packet; padding = _ } ∷ []) s.sent (quiet.0, tt);
      })

  sends-sound : (name : Name) (messages : List Message) (speaker : Speaker S) → AllByRecursion IsQuiet messages → Sound kinds name speaker
      → Sound kinds name (sends setting messages speaker)
  sends-sound name messages speaker quiet s =
      let ready = needs_salts setting 1 speaker in
      let r = salts-sound setting kinds name 1 speaker s in
      let counted : Speaker S = record ready { session = record ready.session { counters = after_packets setting.now ready.session.counters messages } } in
      sealed-sound name (current_salt ready.session.salts setting.now) (packets_of setting.now ready.session.counters messages) counted
      (outers-quiet setting.now ready.session.counters (groups messages) (groups-quiet messages quiet))
      (record { named = r.named; history = r.history; owed = r.owed; sent = r.sent })

  sent-kept : (messages : Name → List Message) → ((name : Name) → AllByRecursion IsQuiet (messages name)) → (names : List Name) (state : State S) → K state
      → K (fold (λ so_far name. speaks name (sends setting (messages name)) so_far) state names)
  sent-kept messages quiet [] state kept = kept
  sent-kept messages quiet (name ∷ names) state kept =
      sent-kept messages quiet names (speaks name (sends setting (messages name)) state)
      (speaks-kept name (sends setting (messages name)) state (λ speaker s. sends-sound name (messages name) speaker (quiet name) s) kept)

  spent-kept : (sessions : List Session) (state : State S) → K state → K (fold (λ so_far session. lost (name_of session) so_far) state sessions)
  spent-kept [] state kept = kept
  spent-kept (session ∷ sessions) state kept = spent-kept sessions (lost (name_of session) state) (lost-kept (name_of session) state kept)

  abbrev pub IsAnswered : Answer S → Type 0
  IsAnswered answer = AreSessionsOf kinds answer.server.sessions × AreQuiet answer.packets

  pub ended-kept : (state : State S) → K state → IsAnswered (ended setting state)
  ended-kept state kept =
      let sent = all_sent setting state in
      let done =
      spent-kept (filter is_spent sent.sessions) sent
      (sent-kept (λ name. messages_by name state.owed) (λ name. by-quiet name state.owed kept.owed) (names_in state.owed) state kept) in
      (done.sessions, done.sent)

  ticks-kept : (state : State S) → K state → K (ticks setting state)
  ticks-kept state kept = failures-kept (after_timeouts setting state) (timeouts-kept state kept)

-- ---- events

module _ {S V : Type 0} (setting : Setting S) (serve : Step V) (fresh : V) (kinds : Kinds) where
  abbrev pub AreSo : Course S V → Type 0
  AreSo course = AreSessionsOf kinds course.server.sessions × AreQuiet course.packets

  begun-kept : (course : Course S V) → AreSo course → Kept kinds (begun course.server course.draw)
  begun-kept course so = record { sessions = so.0; owed = tt; sent = tt }

  behind-all : (course : Course S V) (packets : List Sent) → AreSo course → AreQuiet packets → AreQuiet (course.packets ++ packets)
  behind-all course packets so more = all-append (λ (sent : Sent). IsQuietBody sent.envelope.body) course.packets packets so.1 more

  work-kept : (now : Setting S) (place : ℕ) (job : Option Job) (course : Course S V) → AreSo course
      → IsAnswered now kinds (after_run now place job serve course.service course.server course.draw).0
  work-kept now place None course so = ended-kept now kinds (begun course.server course.draw) (begun-kept course so)
  work-kept now place (Some job) course so =
      let served = serve course.service job.request in
      let state = begun course.server course.draw in
      ended-kept now kinds (runs now place job served.0 state) (runs-kept now kinds place job served.0 state (begun-kept course so))

  pub event-kept : (course : Course S V) (event : Event) → IsEventOf kinds event → AreSo course → AreSo (after_event setting serve fresh course event)
  event-kept course (Packet moment None) are so = so
  event-kept course (Packet moment (Some envelope)) are so =
      let now = setting_at setting moment course.server in
      let state = begun course.server course.draw in
      let done = ended-kept now kinds (takes now envelope state) (takes-kept now kinds envelope state are (begun-kept course so)) in
      (done.0, behind-all course _ so done.1)
  event-kept course (Work moment place) are so =
      let now = setting_at setting moment course.server in
      let done = work-kept now place (ready_job place course.server.jobs) course so in
      (done.0, behind-all course _ so done.1)
  event-kept course (Tick moment) are so =
      let now = setting_at setting moment course.server in
      let state = begun course.server course.draw in
      let done = ended-kept now kinds (ticks now state) (ticks-kept now kinds state (begun-kept course so)) in
      (done.0, behind-all course _ so done.1)
  event-kept course (Attach moment name) are so =
      let now = setting_at setting moment course.server in
      let state = begun course.server course.draw in
      let done =
      ended-kept now kinds (speaks name (attaches now) state)
      (speaks-kept now kinds name (attaches now) state (attaches-sound now kinds name) (begun-kept course so)) in
      (done.0, behind-all course _ so done.1)
  event-kept course (Loss name) are so = (all-filter (IsSessionOf kinds) _ course.server.sessions so.0, so.1)
  event-kept course Restart are so = (tt, so.1)

  pub events-kept : (events : List Event) (course : Course S V) → AllByRecursion (IsEventOf kinds) events → AreSo course
      → AreSo (fold (after_event setting serve fresh) course events)
  events-kept [] course are so = so
  events-kept (event ∷ events) course are so = events-kept events (after_event setting serve fresh course event) are.1 (event-kept course event are.0 so)
