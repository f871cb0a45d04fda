-- One event gives few packets and entries.
use Rattle.std.proofs.Common.{◌≡◌, ◌∙◌, ℕ, zero, suc, ◌+◌, ◌*◌, ◌≤◌, ltb, Bool, true, false, cond, Option, Some, None, Result, Ok, Err, List, [], ◌∷◌, ◌++◌, length, ap, sym, subst, refl, arith, inl, inr, drop}
use Rattle.std.specs.Prelude.{map, fold, not, ⊤}
use Rattle.std.specs.List.{All, filter, zip}
use Rattle.std.proofs.lemmas.Bool.{cond_both, ltb-false}
use Rattle.std.proofs.lemmas.List.{length-append, length-map}
use Rattle.byteorder.specs.Endian.{little_number}
use Rattle.service_tl.specs.declared.lists.Message.{Message}
use Rattle.containers.specs.declared.fault.ContainerFault.{ContainerFault}
use Rattle.containers.specs.declared.fault.Why.TheVariants.{Short, TooMany}
use Rattle.containers.specs.Container.{begins_container, container_head, messages_max}
use Rattle.containers.specs.Parts.{after, causes, first_from, message_in as first_message, messages_in, parts_of, texts, unless}
use Rattle.regs_service.specs.Served.{Step}
use Rattle.inbox.specs.Kinds.{container_in, inner_messages, parts_among}
use Rattle.inbox.specs.Verdicts.{Judgement, Verdict, Accepted, Again, Noticed}
use Rattle.inbox.specs.Refusals.{Way, InEnvelope}
use Rattle.inbox.specs.Judging.{judge, judgements, session_after, unfolded}
use Rattle.outbox.specs.Replies.{IsWithin}
use Rattle.waits.specs.declared.job.Job.{Job}
use Rattle.waits.specs.Jobs.{Queue, is_of, ready_job, without_ready, without_session as without_jobs_of}
use Rattle.server_rules.specs.Server.{Name, Server, Session, kept_replies, name_of, is_named, session_named, remembered, sessions_max}
use Rattle.server_rules.specs.Event.{Setting, State, Envelope, Sent, Entry, speaks, lost}
use Rattle.server_rules.specs.Rows.{settles}
use Rattle.server_rules.specs.Sending.{all_sent}
use Rattle.server_rules.specs.Waiting.{after_timeouts}
use Rattle.server_rules.specs.Answer.{Answer, name_in, message_in, messages_judged, finishes, hears, hears_by, makes, without_first as without_first_session, opens, takes, takes_by, attaches, runs, ticks, begun, ended, after_run}
use Rattle.server_rules.specs.Events.{Event, Packet, Work, Tick, Attach, Loss, Restart, Course, setting_at, after_event}
use Rattle.law_server_bounds.specs.Giving.{GivesFew}
use Rattle.law_server_bounds.proofs.Lists.{find-all}
use Rattle.law_server_bounds.proofs.Bounded.{AnswersFit, Few, hears-good}
use Rattle.law_server_bounds.proofs.Unsaid.{unsaid-kept}
use Rattle.law_server_bounds.proofs.Counted.{Counts, Speak, UnsaidAt, G, more-g, failures, timeouts, settled, opened-g, attached-g, finished-g, filter-shorter, ready-shorter}
use Rattle.law_server_bounds.proofs.Sent.{AreFew, sent-all, end-same}

-- ---- a packet has at most 1,021 messages

texts-length : (count : ℕ) (text : List ℕ) → length (texts count text) ≡ count
texts-length zero text = refl
texts-length (suc count) text = let rest = texts-length count (after text) in omega (arith, rest)

abbrev AtMost : Result (List Message) ContainerFault → Type 0
AtMost parts = length (parts_among (Some parts)) ≤ 1020

unless-few : (fault : Option ContainerFault) (messages : List Message) → length messages ≤ 1020 → AtMost (unless fault messages)
unless-few None messages few = few
unless-few (Some fault) messages few = omega arith

parts-few : (number : ℕ) (body : List ℕ) → AtMost (parts_of number body)
unfolding parts_of
parts-few number body =
    let count = little_number 4 (drop 4 body) in
    let text = drop container_head body in
    let all = unless (first_from 0 (causes number count text)) (messages_in count text) in
    let short : ContainerFault = record { place = 0; why = Short } in
    let many : ContainerFault = record { place = 0; why = TooMany } in
    let rest : AtMost (cond (ltb messages_max count) (Err many) all) =
    cond_both (ltb messages_max count) (Err many) all AtMost (λ is. omega arith)
    (λ is.
    let fewer = ltb-false messages_max count is in
    let each = length-map (texts count text) first_message in
    let counted = texts-length count text in
    unless-few (first_from 0 (causes number count text)) (messages_in count text) (omega (arith, fewer, each, counted))) in
    cond_both (ltb (length body) container_head) (Err short) (cond (ltb messages_max count) (Err many) all) AtMost (λ is. omega arith) (λ is. rest)

inner-few : (message : Message) → length (inner_messages message) ≤ 1020
inner-few message =
    cond_both (begins_container message.body) (Some (parts_of message.number message.body)) None (λ found. length (parts_among found) ≤ 1020)
    (λ is. parts-few message.number message.body) (λ is. omega arith)

unfolded-few : (verdict : Verdict) (message : Message) → length (unfolded verdict message) ≤ 1020
unfolded-few (Accepted item) message = inner-few message
unfolded-few (Again mark) message = omega arith
unfolded-few (Noticed code) message = omega arith

zip-shorter : {X Y : Type 0} (xs : List X) (ys : List Y) → length (zip xs ys) ≤ length ys
zip-shorter [] ys = omega arith
zip-shorter (x ∷ xs) [] = omega arith
zip-shorter (x ∷ xs) (y ∷ ys) = let rest = zip-shorter xs ys in omega (arith, rest)

judged-few : (way : Way) (session : Session) (message : Message)
    → length (zip (judgements way (remembered session) message) (map (λ one. one.body) (messages_judged way session message))) ≤ 1021
judged-few way session message =
    let judged = judgements way (remembered session) message in
    let messages = messages_judged way session message in
    let zipped = zip-shorter judged (map (λ one. one.body) messages) in
    let same = length-map messages (λ one. one.body) in
    let inner = unfolded-few (judge way (remembered session) message) message in
    omega (arith, zipped, same, inner)

-- ---- the beginning

unsaid-at : (own : Name) (found : Option Session) (sessions : List Session) → session_named own sessions ≡ found → All (Few ⊤) sessions → UnsaidAt own [] found ≤ 4096
unsaid-at own None sessions is few = omega arith
unsaid-at own (Some session) sessions is few =
    let within = find-all (Few ⊤) (is_named own) sessions session few is tt in
    let count = within.count in
    let kept = unsaid-kept own session.replies in
    omega (arith, count, kept)

-- nothing was said yet
record IsSilent {S : Type 0} (jobs : ℕ) (state : State S) : Type 0 where
  owed : state.owed ≡ []
  fewer : length state.jobs ≤ jobs
  sent : state.sent ≡ []
  entries : state.entries ≡ []

module _ {S : Type 0} (fit : AnswersFit S) (laws : Speak S) (few : AreFew) (setting : Setting S) where
  first-g : (own : Name) (jobs : ℕ) (state : State S) → IsSilent jobs state → All (Few ⊤) state.sessions → G laws setting own (4096 + jobs) state
  first-g own jobs state silent all =
      let found = session_named own state.sessions in
      let owed = ap (λ owed. length owed) silent.owed in
      let unsaid = ap (λ owed. UnsaidAt own owed found) silent.owed in
      let most = unsaid-at own found state.sessions refl all in
      let entries = ap (λ entries. length entries) silent.entries in
      let fewer = silent.fewer in
      record { counts = record { total = omega (arith, owed, unsaid, most, fewer); entered = omega (arith, entries) }; unsent = silent.sent }

  -- ---- the end

  -- at most so many packets and entries
  pub record Most (n : ℕ) (answer : Answer S) : Type 0 where
    pub packets : length answer.packets ≤ n
    pub entries : length answer.entries ≤ n

  ended-most : (own : Name) (n m : ℕ) (state : State S) → n ≤ m → G laws setting own n state → Most m (ended setting state)
  ended-most own n m state le g =
      let sent = sent-all few setting state g.unsent in
      let end = end-same few setting (all_sent setting state) in
      let packets = ap (λ sent. length sent) end.0 in
      let entries = ap (λ entries. length entries) (end.1 ∙ sent.1) in
      let total = g.counts.total in
      let entered = g.counts.entered in
      record { packets = omega (arith, packets, sent.0, total, le); entries = omega (arith, entries, entered, total, le) }

  -- ---- a packet

  place-silent : (sessions : List Session) (jobs : ℕ) (state : State S) → IsSilent jobs state → IsSilent jobs (without_first_session sessions state)
  place-silent [] jobs state silent = silent
  place-silent (session ∷ sessions) jobs state silent =
      let shorter = filter-shorter (λ one. not (is_of session.key session.number one)) state.jobs in
      let fewer = silent.fewer in
      record { owed = silent.owed; fewer = omega (arith, shorter, fewer); sent = silent.sent; entries = silent.entries }

  made-silent : (envelope : Envelope) (jobs : ℕ) (state : State S) → IsSilent jobs state → IsSilent jobs (makes setting envelope state)
  made-silent envelope jobs state silent = record { owed = silent.owed; fewer = silent.fewer; sent = silent.sent; entries = silent.entries }

  heard-silent : (envelope : Envelope) (found : Option Session) (jobs : ℕ) (state : State S) → IsSilent jobs state → IsSilent jobs (hears_by setting envelope found state)
  heard-silent envelope (Some session) jobs state silent = record { owed = silent.owed; fewer = silent.fewer; sent = silent.sent; entries = silent.entries }
  heard-silent envelope None jobs state silent =
      cond_both (ltb (length state.sessions) sessions_max) state (without_first_session state.sessions state) (λ (placed : State S). IsSilent jobs (makes setting envelope placed))
      (λ room. made-silent envelope jobs state silent)
      (λ full. made-silent envelope jobs (without_first_session state.sessions state) (place-silent state.sessions jobs state silent))

  begun-silent : (server : Server) (draw : S) → IsSilent (length server.jobs) (begun server draw)
  begun-silent server draw = record { owed = refl; fewer = omega arith; sent = refl; entries = refl }

  taken-most : (envelope : Envelope) (found : Option Session) (jobs : ℕ) (state : State S) → IsSilent jobs state → All (Few ⊤) state.sessions
      → Most (8192 + jobs) (ended setting (takes_by setting envelope found state))
  taken-most envelope None jobs state silent all =
      let own = name_in envelope in
      ended-most own (4096 + jobs) (8192 + jobs) state (omega arith) (first-g own jobs state silent all)
  taken-most envelope (Some session) jobs state silent all =
      let own = name_of session in
      let way = InEnvelope setting.now session.salts envelope.salt in
      let message = message_in envelope in
      let judged = judgements way (remembered session) message in
      let later = (session_after way (remembered session) message).history in
      let pairs = zip judged (map (λ one. one.body) (messages_judged way session message)) in
      let fewer = judged-few way session message in
      let opened = speaks own (opens setting later judged) state in
      ended-most own (suc (suc (4096 + jobs)) + 2 * length pairs) (8192 + jobs) (fold (settles setting own) opened pairs) (omega (arith, fewer))
      (settled laws setting own pairs (suc (suc (4096 + jobs))) opened (opened-g laws setting own later judged (4096 + jobs) state (first-g own jobs state silent all)))

  pub packet-most : (envelope : Envelope) (server : Server) (draw : S) → All (Few ⊤) server.sessions
      → Most (8192 + length server.jobs) (ended setting (takes setting envelope (begun server draw)))
  packet-most envelope server draw all =
      let state = begun server draw in
      let found = session_named (name_in envelope) state.sessions in
      let heard = hears setting envelope state in
      taken-most envelope (session_named (name_in envelope) heard.sessions) (length server.jobs) heard
      (heard-silent envelope found (length server.jobs) state (begun-silent server draw))
      (hears-good ⊤ ⊥ fit setting envelope found state refl (all, λ j. absurd j)).0

  -- ---- other events

  pub tick-most : (own : Name) (server : Server) (draw : S) → All (Few ⊤) server.sessions → Most (8192 + length server.jobs) (ended setting (ticks setting (begun server draw)))
  tick-most own server draw all =
      let n = 4096 + length server.jobs in
      let state = begun server draw in
      ended-most own n (8192 + length server.jobs) (ticks setting state) (omega arith)
      (failures laws setting own n (after_timeouts setting state)
      (timeouts laws setting own n state (first-g own (length server.jobs) state (begun-silent server draw) all)))

  pub attach-most : (name : Name) (server : Server) (draw : S) → All (Few ⊤) server.sessions
      → Most (8192 + length server.jobs) (ended setting (speaks name (attaches setting) (begun server draw)))
  attach-most name server draw all =
      let n = 4096 + length server.jobs in
      let state = begun server draw in
      ended-most name (suc n) (8192 + length server.jobs) (speaks name (attaches setting) state) (omega arith)
      (attached-g laws setting name n state (first-g name (length server.jobs) state (begun-silent server draw) all))

  pub run-most : {V : Type 0} (own : Name) (place : ℕ) (job : Option Job) (serve : Step V) (service : V) (server : Server) (draw : S) → All (Few ⊤) server.sessions
      → Most (8192 + length server.jobs) (after_run setting place job serve service server draw).0
  run-most own place None serve service server draw all =
      ended-most own (4096 + length server.jobs) (8192 + length server.jobs) (begun server draw) (omega arith)
      (first-g own (length server.jobs) (begun server draw) (begun-silent server draw) all)
  run-most own place (Some job) serve service server draw all =
      let n = 4096 + length server.jobs in
      let reply = (serve service job.request).0 in
      let name : Name = record { key = job.key; session = job.session } in
      let rest : State S = record (begun server draw) { jobs = without_ready place server.jobs } in
      let done = speaks name (finishes setting job reply) rest in
      let silent : IsSilent (length server.jobs) rest = record { owed = refl; fewer = ready-shorter place server.jobs; sent = refl; entries = refl } in
      ended-most name (suc n) (8192 + length server.jobs) (runs setting place job reply (begun server draw)) (omega arith)
      (failures laws setting name (suc n) done (finished-g laws setting name job reply n rest (first-g name (length server.jobs) rest silent all)))

-- ---- the events

abbrev none_named : Name
none_named = record { key = 0; session = 0 }

-- what is given further
given-on : {S V : Type 0} (before after : Course S V) (packets : List Sent) (entries : List Entry) → after.packets ≡ before.packets ++ packets → after.entries ≡ before.entries ++ entries
    → length packets ≤ 8192 + length before.server.jobs → length entries ≤ 8192 + length before.server.jobs → GivesFew S V before after
given-on before after packets entries sent entered few_packets few_entries =
    let p = ap (λ all. length all) sent ∙ length-append before.packets packets in
    let e = ap (λ all. length all) entered ∙ length-append before.entries entries in
    record { packets = omega (arith, p, few_packets); entries = omega (arith, e, few_entries) }

same-given : {S V : Type 0} (before after : Course S V) → after.packets ≡ before.packets → after.entries ≡ before.entries → GivesFew S V before after
same-given before after sent entered =
    let p = ap (λ all. length all) sent in
    let e = ap (λ all. length all) entered in
    record { packets = omega (arith, p); entries = omega (arith, e) }

pub event-few : {S V : Type 0} (fit : AnswersFit S) (laws : Speak S) (few : AreFew) (setting : Setting S) (serve : Step V) (fresh : V) (course : Course S V) (event : Event)
    → All (Few ⊤) course.server.sessions → GivesFew S V course (after_event setting serve fresh course event)
event-few fit laws few setting serve fresh course (Packet moment None) all = same-given course _ refl refl
event-few fit laws few setting serve fresh course (Packet moment (Some envelope)) all =
    let most = packet-most fit laws few (setting_at setting moment course.server) envelope course.server course.draw all in
    given-on course (after_event setting serve fresh course (Packet moment (Some envelope))) _ _ refl refl most.packets most.entries
event-few fit laws few setting serve fresh course (Work moment place) all =
    let most = run-most fit laws few (setting_at setting moment course.server) none_named place (ready_job place course.server.jobs) serve course.service course.server course.draw all in
    given-on course (after_event setting serve fresh course (Work moment place)) _ _ refl refl most.packets most.entries
event-few fit laws few setting serve fresh course (Tick moment) all =
    let most = tick-most fit laws few (setting_at setting moment course.server) none_named course.server course.draw all in
    given-on course (after_event setting serve fresh course (Tick moment)) _ _ refl refl most.packets most.entries
event-few fit laws few setting serve fresh course (Attach moment name) all =
    let most = attach-most fit laws few (setting_at setting moment course.server) name course.server course.draw all in
    given-on course (after_event setting serve fresh course (Attach moment name)) _ _ refl refl most.packets most.entries
event-few fit laws few setting serve fresh course (Loss name) all = same-given course _ refl refl
event-few fit laws few setting serve fresh course Restart all = same-given course _ refl refl
