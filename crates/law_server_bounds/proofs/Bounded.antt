-- Each event leaves kept replies and jobs within the limits.
use Rattle.std.proofs.Common.{◌≡◌, ◌∙◌, ℕ, zero, suc, ◌≤◌, ltb, Bool, true, false, cond, Option, Some, None, List, [], ◌∷◌, ◌++◌, length, ap, sym, subst, refl, arith, inl, inr}
use Rattle.std.specs.Prelude.{map, fold, not, ⊤}
use Rattle.std.specs.List.{All, Contains, filter, zip}
use Rattle.std.proofs.lemmas.Bool.{cond_both}
use Rattle.std.proofs.lemmas.List.Elements.{All-nil, All-cons, All-append}
use Rattle.service_tl.specs.declared.item.Item.{Item}
use Rattle.service_tl.specs.declared.item.Item.TheVariants.{DestroySession, DestroySessionOk, DestroySessionNone, RpcResult}
use Rattle.service_tl.specs.declared.lists.Message.{Message}
use Rattle.service_tl.specs.Items.{spelling_of}
use Rattle.salt_line.specs.Line.{current_salt}
use Rattle.packing.specs.Packing.{packets_of, after_packets}
use Rattle.regs_service.specs.Served.{Step, reply_bytes_max}
use Rattle.inbox.specs.Verdicts.{Judgement, Verdict, Accepted, Again, Noticed}
use Rattle.inbox.specs.Refusals.{InEnvelope}
use Rattle.inbox.specs.Judging.{judgements, session_after}
use Rattle.outbox.specs.Replies.{IsWithin, kept_bytes_max}
use Rattle.waits.specs.declared.job.Job.{Job}
use Rattle.waits.specs.declared.job.Unfinished.{Unfinished}
use Rattle.waits.specs.Jobs.{Queue, AreWithinLimits, accepted as with_job, has_failed, is_call, is_overdue, without_first, ready_job, without_ready}
use Rattle.server_rules.specs.Server.{Name, Server, Session, Reply, has_accepted, is_kept, kept_replies, name_of, is_named, session_named, with_session, without_session, remembered, sessions_max}
use Rattle.server_rules.specs.Event.{Setting, State, Speaker, Envelope, Owed, speaker_in, spoken, spoken_by, speaks, lost}
use Rattle.server_rules.specs.Speaking.{says, says_again, says_it_is_new, has_said, owes_message, message_of, answers, msg_wait_failed, msg_wait_timeout}
use Rattle.server_rules.specs.Waiting.{outlook, gives_up, given_up, first_given_up, all_given_up, first_failed, first_overdue, after_failures, after_timeouts, tells_of}
use Rattle.server_rules.specs.Rows.{settles, row, owes, destroys}
use Rattle.server_rules.specs.Sending.{names_in, messages_by, seals, sends, all_sent}
use Rattle.server_rules.specs.Speaking.{needs_salts}
use Rattle.server_rules.specs.Answer.{name_in, message_in, messages_judged, finishes, hears, hears_by, makes, session_for, without_first as without_first_session, opens, takes, takes_by, attaches, runs, ticks, is_spent, begun, ended, after_run}
use Rattle.server_rules.specs.Events.{Event, Packet, Work, Tick, Attach, Loss, Restart, Course, setting_at, after_event, begun_course, course_of}
use Rattle.law_server_bounds.specs.Runs.{IsShortRun, AreShortRuns}
use Rattle.law_server_bounds.proofs.Lists.{find-all, all-filter, all-map}
use Rattle.law_server_bounds.proofs.Contents.{Fits, short-fits, failed-fits, timeout-fits}
use Rattle.law_server_bounds.proofs.Kept.{drops-within}
use Rattle.law_server_bounds.proofs.Jobs.{first-within, ready-within, lost-within, told-within, accepted-within}
use Rattle.law_server_bounds.proofs.Rows.{Steps, owed, opened, given, finished, new-said}

-- an answer leaves the kept replies within the limits
abbrev pub AnswersFit : Type 0 → Type 0
AnswersFit S = (setting : Setting S) (call : ℕ) (content : List ℕ) (speaker : Speaker S) → length (spelling_of (RpcResult call content)) ≤ kept_bytes_max
    → IsWithin (kept_replies (answers setting call content speaker).session.replies)

-- the replies are within the limits where H holds, and the jobs where J does
abbrev pub Few : Type 0 → Session → Type 0
Few H session = H → IsWithin (kept_replies session.replies)

abbrev pub Bounded : Type 0 → Type 0 → List Session → Queue → Type 0
Bounded H J sessions jobs = All (Few H) sessions × (J → AreWithinLimits jobs)

module _ {S : Type 0} (H J : Type 0) (fit : AnswersFit S) (setting : Setting S) where
  abbrev P : ℕ → Speaker S → Type 0
  P n x = Few H x.session × (J → AreWithinLimits x.jobs)

  abbrev F : List ℕ → Type 0
  F content = H → Fits content

  steps : Steps S setting F P
  steps = record {
    fine = λ content fits h. fits;
    more = λ n x p. p;
    said = λ item n x p. p;
    salted = λ count n x p. p;
    answered = λ call content n x fine p. (λ h. fit setting call content x (fine h call), p.1);
    placed = λ ran call request content n x fine p. (λ h. fit setting call content x (fine h call), p.1);
    repeated = λ reply n x p. cond_both (has_said reply.number x) x (owes_message (message_of reply) x) (P n) (λ is. p) (λ is. p);
    kept = λ reply n x there is p. cond_both (has_said reply.number x) x (owes_message (message_of reply) x) (P n) (λ is. p) (λ is. p);
    fated = λ change n x only p. (λ h. drops-within change only x.session.replies (p.0 h), p.1);
    joined = λ job n x key session room p. (p.0, λ j. accepted-within job x room (p.1 j));
    ended = λ job request content n x fine p.
        let left : Speaker S = record x { jobs = without_first (is_call job.key job.session job.number) x.jobs } in
        (λ h. fit setting job.number content left (fine h job.number), λ j. first-within (is_call job.key job.session job.number) x.jobs (p.1 j));
    told = λ number n x p. (p.0, λ j. told-within (outlook x.session x.jobs number) x.session number x.jobs (p.1 j));
    bound = λ bindings n x p. p;
    past = λ history n x p. p;
  }

  abbrev Good : State S → Type 0
  Good state = Bounded H J state.sessions state.jobs

  replaced : (session : Session) (sessions : List Session) → Few H session → All (Few H) sessions → All (Few H) (with_session session sessions)
  replaced session sessions few all =
      all-map (Few H) (λ other. cond (is_named (name_of session) other) session other) sessions
      (λ other own. cond_both (is_named (name_of session) other) session other (Few H) (λ is. few) (λ is. own)) all

  by-speaks : (found : Option Session) (name : Name) (speak : Speaker S → Speaker S) (state : State S) → session_named name state.sessions ≡ found
      → ((x : Speaker S) → P 0 x → P 0 (speak x)) → Good state → Good (spoken_by found speak state)
  by-speaks None name speak state is keeps good = good
  by-speaks (Some session) name speak state is keeps good =
      let own = find-all (Few H) (is_named name) state.sessions session good.0 is in
      let after = keeps (speaker_in state session) (own, good.1) in
      (replaced (speak (speaker_in state session)).session state.sessions after.0 good.0, after.1)

  speaks-good : (name : Name) (speak : Speaker S → Speaker S) (state : State S) → ((x : Speaker S) → P 0 x → P 0 (speak x)) → Good state → Good (speaks name speak state)
  speaks-good name speak state keeps good = by-speaks (session_named name state.sessions) name speak state refl keeps good

  lost-good : (name : Name) (state : State S) → Good state → Good (lost name state)
  lost-good name state good =
      (all-filter (Few H) (λ session. not (is_named name session)) state.sessions good.0, λ j. lost-within name.key name.session state.jobs (good.1 j))

  given-good : (content : List ℕ) (job : Option Job) (state : State S) → Fits content → Good state → Good (given_up setting content job state)
  given-good content None state fits good = good
  given-good content (Some job) state fits good =
      speaks-good (record { key = job.key; session = job.session }) (gives_up setting content job) state
      (λ x p. given setting F P steps content job 0 x (λ h. fits) p) good

  all-good : (content : List ℕ) (test : Unfinished → Bool) (first : Queue → Option Job × Queue) → ((queue : Queue) → (first queue).1 ≡ without_first test queue)
      → (n : ℕ) (state : State S) → Fits content → Good state → Good (all_given_up setting content first n state)
  all-good content test first is zero state fits good = good
  all-good content test first is (suc n) state fits good =
      let rest : State S = record state { jobs = (first state.jobs).1 } in
      let L : Queue → Type 0 = AreWithinLimits in
      let left : Good rest = (good.0, λ j. subst L (sym (is state.jobs)) (first-within test state.jobs (good.1 j))) in
      all-good content test first is n (first_given_up setting content first state) fits (given-good content (first state.jobs).0 rest fits left)

  failures-good : (state : State S) → Good state → Good (after_failures setting state)
  failures-good state good = all-good msg_wait_failed has_failed first_failed (λ queue. refl) (length state.jobs) state failed-fits good

  timeouts-good : (state : State S) → Good state → Good (after_timeouts setting state)
  timeouts-good state good =
      all-good msg_wait_timeout (is_overdue setting.now) (first_overdue setting.now) (λ queue. refl) (length state.jobs) state timeout-fits good

  -- ---- a packet

  destroys-good : (number destroyed : ℕ) (name : Name) (state : State S) → Good state → Good (destroys setting number destroyed name state)
  destroys-good number destroyed name state good =
      let other : Name = record name { session = destroyed } in
      cond_both _ _ _ Good
      (λ is. speaks-good name (says setting (DestroySessionOk destroyed)) (lost other state) (λ x p. p) (lost-good other state good))
      (λ is. speaks-good name (says setting (DestroySessionNone destroyed)) state (λ x p. p) good)

  owed-good : (name : Name) (number seq : ℕ) (verdict : Verdict) (body : List ℕ) (state : State S) → Good state → Good (speaks name (owes setting number seq verdict body) state)
  owed-good name number seq verdict body state good =
      speaks-good name (owes setting number seq verdict body) state (λ x p. owed setting F P steps number seq verdict body 0 x p) good

  row-good : (name : Name) (number seq : ℕ) (verdict : Verdict) (body : List ℕ) (state : State S) → Good state → Good (row setting name number seq verdict body state)
  row-good name number seq (Accepted (DestroySession destroyed)) body state good = destroys-good number destroyed name state good
  row-good name number seq (Accepted item) body state good = owed-good name number seq (Accepted item) body state good
  row-good name number seq (Again mark) body state good = owed-good name number seq (Again mark) body state good
  row-good name number seq (Noticed code) body state good = owed-good name number seq (Noticed code) body state good

  settle-good : (name : Name) (judged : List (Judgement × List ℕ)) (state : State S) → Good state → Good (fold (settles setting name) state judged)
  settle-good name [] state good = good
  settle-good name ((judgement, body) ∷ judged) state good =
      let done = row setting name judgement.number judgement.seq judgement.verdict body state in
      settle-good name judged (settles setting name state (judgement, body))
      (failures-good (speaks name (tells_of judgement.number) done)
      (speaks-good name (tells_of judgement.number) done (λ x p. Steps.told steps judgement.number 0 x p)
      (row-good name judgement.number judgement.seq judgement.verdict body state good)))

  takes-good : (envelope : Envelope) (found : Option Session) (state : State S) → Good state → Good (takes_by setting envelope found state)
  takes-good envelope None state good = good
  takes-good envelope (Some session) state good =
      let way = InEnvelope setting.now session.salts envelope.salt in
      let message = message_in envelope in
      let judged = judgements way (remembered session) message in
      let later = (session_after way (remembered session) message).history in
      let name = name_of session in
      settle-good name (zip judged (map (λ one. one.body) (messages_judged way session message))) (speaks name (opens setting later judged) state)
      (speaks-good name (opens setting later judged) state (λ x p. opened setting F P steps later judged 0 x p) good)

  none-within : IsWithin []
  none-within = record { count = omega arith; bytes = omega arith }

  added : (session : Session) (sessions : List Session) → Few H session → All (Few H) sessions → All (Few H) (sessions ++ session ∷ [])
  added session sessions few all = All-append (Few H) sessions (session ∷ []) all (All-cons (Few H) session [] few (All-nil (Few H)))

  made-good : (envelope : Envelope) (state : State S) → Good state → Good (makes setting envelope state)
  made-good envelope state good = (added (session_for setting envelope state.draw) state.sessions (λ h. none-within) good.0, good.1)

  place-good : (sessions : List Session) (state : State S) → Good state → Good (without_first_session sessions state)
  place-good [] state good = good
  place-good (session ∷ sessions) state good = lost-good (name_of session) state good

  pub hears-good : (envelope : Envelope) (found : Option Session) (state : State S) → session_named (name_in envelope) state.sessions ≡ found → Good state
      → Good (hears_by setting envelope found state)
  hears-good envelope (Some session) state is good =
      let own = find-all (Few H) (is_named (name_in envelope)) state.sessions session good.0 is in
      (added session (without_session (name_of session) state.sessions) own (all-filter (Few H) (λ other. not (is_named (name_of session) other)) state.sessions good.0), good.1)
  hears-good envelope None state is good =
      cond_both (ltb (length state.sessions) sessions_max) state (without_first_session state.sessions state) (λ (placed : State S). Good (makes setting envelope placed))
      (λ room. made-good envelope state good)
      (λ full. made-good envelope (without_first_session state.sessions state) (place-good state.sessions state good))

  -- ---- the end

  seals-good : (salt : ℕ) (packets : List Message) (x : Speaker S) → P 0 x → P 0 (fold (seals setting salt) x packets)
  seals-good salt [] x p = p
  seals-good salt (packet ∷ packets) x p = seals-good salt packets (seals setting salt x packet) p

  sends-good : (messages : List Message) (x : Speaker S) → P 0 x → P 0 (sends setting messages x)
  sends-good messages x p =
      let ready = needs_salts setting 1 x in
      let counters = after_packets setting.now ready.session.counters messages in
      seals-good (current_salt ready.session.salts setting.now) (packets_of setting.now ready.session.counters messages)
      (record ready { session = record ready.session { counters = counters } }) p

  sent-good : (all : List Owed) (names : List Name) (state : State S) → Good state
      → Good (fold (λ so_far name. speaks name (sends setting (messages_by name all)) so_far) state names)
  sent-good all [] state good = good
  sent-good all (name ∷ names) state good =
      sent-good all names (speaks name (sends setting (messages_by name all)) state)
      (speaks-good name (sends setting (messages_by name all)) state (λ x p. sends-good (messages_by name all) x p) good)

  spent-good : (spent : List Session) (state : State S) → Good state → Good (fold (λ so_far session. lost (name_of session) so_far) state spent)
  spent-good [] state good = good
  spent-good (session ∷ spent) state good = spent-good spent (lost (name_of session) state) (lost-good (name_of session) state good)

  abbrev Left : Server → Type 0
  Left server = Bounded H J server.sessions server.jobs

  ended-good : (state : State S) → Good state → Left (ended setting state).server
  ended-good state good =
      let sent = all_sent setting state in
      spent-good (filter is_spent sent.sessions) sent (sent-good state.owed (names_in state.owed) state good)

  -- ---- the events

  pub packet-good : (envelope : Envelope) (server : Server) (draw : S) → Left server → Left (ended setting (takes setting envelope (begun server draw))).server
  packet-good envelope server draw good =
      let state = begun server draw in
      let heard = hears setting envelope state in
      ended-good (takes setting envelope state)
      (takes-good envelope (session_named (name_in envelope) heard.sessions) heard
      (hears-good envelope (session_named (name_in envelope) state.sessions) state refl good))

  pub tick-good : (server : Server) (draw : S) → Left server → Left (ended setting (ticks setting (begun server draw))).server
  tick-good server draw good =
      let state = begun server draw in
      ended-good (ticks setting state) (failures-good (after_timeouts setting state) (timeouts-good state good))

  all-again : (replies : List Reply) (x : Speaker S) → P 0 x → P 0 (fold (λ speaker reply. says_again reply speaker) x replies)
  all-again [] x p = p
  all-again (reply ∷ replies) x p = all-again replies (says_again reply x) (Steps.repeated steps reply 0 x p)

  attached : (x : Speaker S) → P 0 x → P 0 (attaches setting x)
  attached x p =
      let first : P 0 (cond (has_accepted x.session) x (says_it_is_new setting x)) =
      cond_both (has_accepted x.session) x (says_it_is_new setting x) (P 0) (λ is. p) (λ is. new-said setting F P steps 0 x p) in
      all-again (filter is_kept x.session.replies) (cond (has_accepted x.session) x (says_it_is_new setting x)) first

  pub attach-good : (name : Name) (server : Server) (draw : S) → Left server → Left (ended setting (speaks name (attaches setting) (begun server draw))).server
  attach-good name server draw good =
      let state = begun server draw in
      ended-good (speaks name (attaches setting) state) (speaks-good name (attaches setting) state attached good)

  pub run-good : {V : Type 0} (place : ℕ) (job : Option Job) (serve : Step V) (service : V) (server : Server) (draw : S)
      → (H → (one : Job) → job ≡ Some one → length (serve service one.request).0 ≤ reply_bytes_max) → Left server
      → Left (after_run setting place job serve service server draw).0.server
  run-good place None serve service server draw short good = ended-good (begun server draw) good
  run-good place (Some job) serve service server draw short good =
      let state = begun server draw in
      let reply = (serve service job.request).0 in
      let rest : State S = record state { jobs = without_ready place state.jobs } in
      let name : Name = record { key = job.key; session = job.session } in
      let done = speaks name (finishes setting job reply) rest in
      ended-good (runs setting place job reply state)
      (failures-good done (speaks-good name (finishes setting job reply) rest
      (λ x p. finished setting F P steps job reply 0 x (λ h. short-fits reply (short h job refl)) p)
      (good.0, λ j. ready-within place state.jobs (good.1 j))))

pub bounded-loss : (H J : Type 0) (name : Name) (sessions : List Session) (jobs : Queue) → Bounded H J sessions jobs
    → All (Few H) (without_session name sessions)
bounded-loss H J name sessions jobs good = all-filter (Few H) (λ session. not (is_named name session)) sessions good.0

none-jobs : AreWithinLimits []
none-jobs = λ key session. (omega arith, omega arith)

pub bounded-event : {S V : Type 0} (H J : Type 0) (fit : AnswersFit S) (setting : Setting S) (serve : Step V) (fresh : V) (course : Course S V) (event : Event)
    → (H → IsShortRun serve course event) → Bounded H J course.server.sessions course.server.jobs
    → Bounded H J (after_event setting serve fresh course event).server.sessions (after_event setting serve fresh course event).server.jobs
bounded-event H J fit setting serve fresh course (Packet moment None) short good = good
bounded-event H J fit setting serve fresh course (Packet moment (Some envelope)) short good =
    packet-good H J fit (setting_at setting moment course.server) envelope course.server course.draw good
bounded-event H J fit setting serve fresh course (Work moment place) short good =
    run-good H J fit (setting_at setting moment course.server) place (ready_job place course.server.jobs) serve course.service course.server course.draw
    short good
bounded-event H J fit setting serve fresh course (Tick moment) short good =
    tick-good H J fit (setting_at setting moment course.server) course.server course.draw good
bounded-event H J fit setting serve fresh course (Attach moment name) short good =
    attach-good H J fit (setting_at setting moment course.server) name course.server course.draw good
bounded-event H J fit setting serve fresh course (Loss name) short good =
    (bounded-loss H J name course.server.sessions course.server.jobs good, λ j. lost-within name.key name.session course.server.jobs (good.1 j))
bounded-event H J fit setting serve fresh course Restart short good = (All-nil (Few H), λ j. none-jobs)

bounded-events : {S V : Type 0} (H J : Type 0) (fit : AnswersFit S) (setting : Setting S) (serve : Step V) (fresh : V) (events : List Event) (course : Course S V)
    → (H → AreShortRuns setting serve fresh course events) → Bounded H J course.server.sessions course.server.jobs
    → Bounded H J (fold (after_event setting serve fresh) course events).server.sessions (fold (after_event setting serve fresh) course events).server.jobs
bounded-events H J fit setting serve fresh [] course short good = good
bounded-events H J fit setting serve fresh (event ∷ events) course short good =
    bounded-events H J fit setting serve fresh events (after_event setting serve fresh course event) (λ h. (short h).1)
    (bounded-event H J fit setting serve fresh course event (λ h. (short h).0) good)

pub bounded-course : {S V : Type 0} (H J : Type 0) (fit : AnswersFit S) (setting : Setting S) (serve : Step V) (fresh : V) (draw : S) (events : List Event)
    → (H → AreShortRuns setting serve fresh (begun_course fresh draw) events)
    → Bounded H J (course_of setting serve fresh draw events).server.sessions (course_of setting serve fresh draw events).server.jobs
bounded-course H J fit setting serve fresh draw events short =
    bounded-events H J fit setting serve fresh events (begun_course fresh draw) short (All-nil (Few H), λ j. none-jobs)

pub any-few : (sessions : List Session) → All (Few ⊥) sessions
any-few [] = All-nil (Few ⊥)
any-few (session ∷ sessions) = All-cons (Few ⊥) session sessions (λ h. absurd h) (any-few sessions)
