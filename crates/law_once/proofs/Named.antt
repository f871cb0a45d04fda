-- An event of a server makes no session of another name than it had before, but for that of a packet.
use Rattle.std.proofs.Common.{◌≡◌, ℕ, zero, suc, ◌==◌, ◌&&◌, not, Bool, Option, None, Some, List, [], ◌∷◌, ◌++◌, map, filter, fold, length, if◌then◌else◌, inl, inr, refl, sym, subst}
use Rattle.std.specs.Prelude.{is_some}
use Rattle.std.specs.List.{AllByRecursion, Contains, find, zip}
use Rattle.std.proofs.lemmas.Bool.{cases_Bool, cond_both}
use Rattle.salt_line.specs.Line.{current_salt}
use Rattle.service_tl.specs.declared.item.Item.{Item}
use Rattle.service_tl.specs.declared.item.Item.TheVariants.{DestroySession, DestroySessionOk, DestroySessionNone}
use Rattle.service_tl.specs.declared.lists.Message.{Message}
use Rattle.id_window.specs.History.{History}
use Rattle.inbox.specs.Verdicts.{Judgement, Verdict, Accepted, Again, Noticed}
use Rattle.inbox.specs.Refusals.{InEnvelope}
use Rattle.inbox.specs.Judging.{judgements, session_after}
use Rattle.packing.specs.Packing.{after_packets, packets_of}
use Rattle.waits.specs.declared.job.Job.{Job}
use Rattle.waits.specs.Jobs.{Queue, ready_job, without_ready}
use Rattle.server_rules.specs.Server.{Name, Session, has_accepted, is_named, name_of, remembered, session_named, with_session, without_session}
use Rattle.server_rules.specs.Event.{Envelope, Owed, Setting, Speaker, State, lost, speaker_in, speaks, spoken_by}
use Rattle.server_rules.specs.Speaking.{needs_salts, says, says_it_is_new}
use Rattle.server_rules.specs.Waiting.{after_failures, after_timeouts, all_given_up, first_given_up, given_up, gives_up, tells_of}
use Rattle.server_rules.specs.Rows.{acknowledges, acks_of, destroys, owes, row, settles}
use Rattle.server_rules.specs.Sending.{all_sent, messages_by, names_in, seals, sends}
use Rattle.server_rules.specs.Answer.{after_run, attaches, begun, finishes, hears, hears_by, is_spent, message_in, messages_judged, name_in, opens, runs, takes, takes_by, ticks, with_place, without_first, without_spent}
use Rattle.server_rules.specs.Events.{Attach, Course, Loss, Packet as Comes, Restart, Tick, Work, setting_at, worked}
use Rattle.law_server.specs.Speech.{SaidFor}
use Rattle.law_server.specs.Drawing.{DrawsSalts}
use Rattle.world_rules.specs.Setting.{Setting as WorldSetting, at_server}
use Rattle.world_rules.specs.World.{World, has_named, lives, lost_in, missing}
use Rattle.world_rules.specs.Ends.{course_in, said, said_by_work, serves}
use Rattle.law_once.proofs.Lists.{all_append, each_of, here, later}

-- what is known of what speeches draw
pub record OfSalts (S : Type 0) : Type 0 where
  pub owes : (setting : Setting S) (speaker : Speaker S) (number seq : ℕ) (verdict : Verdict) (body : List ℕ) → DrawsSalts setting speaker (owes setting number seq verdict body speaker)
  pub opens : (setting : Setting S) (speaker : Speaker S) (history : History) (judged : List Judgement) → DrawsSalts setting speaker (opens setting history judged speaker)
  pub attaches : (setting : Setting S) (speaker : Speaker S) → DrawsSalts setting speaker (attaches setting speaker)

-- what is known of speeches
pub record Themselves (S : Type 0) : Type 0 where
  pub owes : (setting : Setting S) (speaker : Speaker S) (number seq : ℕ) (verdict : Verdict) (body : List ℕ) → SaidFor S speaker (owes setting number seq verdict body speaker)
  pub gives_up : (setting : Setting S) (speaker : Speaker S) (content : List ℕ) (job : Job) → SaidFor S speaker (gives_up setting content job speaker)
  pub finishes : (setting : Setting S) (speaker : Speaker S) (job : Job) (reply : List ℕ) → SaidFor S speaker (finishes setting job reply speaker)
  pub attaches : (setting : Setting S) (speaker : Speaker S) → SaidFor S speaker (attaches setting speaker)
  pub salts : OfSalts S

pub found_in : {X : Type 0} (test : X → Bool) (xs : List X) (x : X) → find test xs ≡ Some x → Contains xs x
found_in test [] x is = absurd (cc)
found_in test (y ∷ xs) x is =
    elim (cases_Bool (test y)) [
      | inl holds ↦
          let same : Some y ≡ Some x = subst (λ (b : Bool). (if b then Some y else find test xs) ≡ Some x) holds is in
          let e : y ≡ x = cc in subst (λ (z : _). Contains (y ∷ xs) z) e (here y xs)
      | inr fails ↦ later x y xs (found_in test xs x (subst (λ (b : Bool). (if b then Some y else find test xs) ≡ Some x) fails is))
    ]

pub all_filter : {X : Type 0} (Q : X → Type 0) (test : X → Bool) (xs : List X) → AllByRecursion Q xs → AllByRecursion Q (filter test xs)
all_filter Q test [] h = tt
all_filter Q test (x ∷ xs) h =
    elim (cases_Bool (test x)) [
      | inl is ↦ rw is (h.0, all_filter Q test xs h.1)
      | inr fails ↦ rw fails (all_filter Q test xs h.1)
    ]

module _ (P : ℕ → ℕ → Type 0) where
  -- by its session number and its key
  abbrev pub Of : Session → Type 0
  Of session = P session.number session.key

  abbrev pub All : List Session → Type 0
  All sessions = AllByRecursion Of sessions

  put : (x : Session) (sessions : List Session) → Of x → All sessions → All (with_session x sessions)
  put x [] its h = tt
  put x (other ∷ sessions) its h =
      (cond_both (is_named (name_of x) other) x other Of (λ is. its) (λ is. h.0), put x sessions its h.1)

  module _ {S : Type 0} (alone : Themselves S) (setting : Setting S) where
    -- it keeps its session number and its key
    abbrev Keeps : (Speaker S → Speaker S) → Type 0
    Keeps speak = (speaker : Speaker S) → Of speaker.session → Of (speak speaker).session

    by_said : (before after : Speaker S) → SaidFor S before after → Of before.session → Of after.session
    by_said before after its h = subst (λ (k : ℕ). P after.session.number k) (sym its.key) (subst (λ (n : ℕ). P n before.session.key) (sym its.number) h)

    spoken_named : (found : Option Session) (speak : Speaker S → Speaker S) (state : State S) → Keeps speak → ((session : Session) → found ≡ Some session → Of session) → All state.sessions
        → All (spoken_by found speak state).sessions
    spoken_named None speak state keeps its h = h
    spoken_named (Some session) speak state keeps its h = put (speak (speaker_in state session)).session state.sessions (keeps (speaker_in state session) (its session refl)) h

    speaks_named : (name : Name) (speak : Speaker S → Speaker S) (state : State S) → Keeps speak → All state.sessions → All (speaks name speak state).sessions
    speaks_named name speak state keeps h =
        spoken_named (session_named name state.sessions) speak state keeps
        (λ session is. each_of Of state.sessions h session (found_in (is_named name) state.sessions session is)) h

    given_named : (content : List ℕ) (job : Option Job) (state : State S) → All state.sessions → All (given_up setting content job state).sessions
    given_named content None state h = h
    given_named content (Some job) state h =
        speaks_named (record { key = job.key; session = job.session }) (gives_up setting content job) state
        (λ speaker its. by_said speaker (gives_up setting content job speaker) (alone.gives_up setting speaker content job) its) h

    all_given_named : (content : List ℕ) (first : Queue → Option Job × Queue) (n : ℕ) (state : State S) → All state.sessions → All (all_given_up setting content first n state).sessions
    all_given_named content first zero state h = h
    all_given_named content first (suc n) state h =
        all_given_named content first n (first_given_up setting content first state)
        (given_named content (first state.jobs).0 (record state { jobs = (first state.jobs).1 }) h)

    failures_named : (state : State S) → All state.sessions → All (after_failures setting state).sessions
    failures_named state h = all_given_named _ _ (length state.jobs) state h

    ticks_named : (state : State S) → All state.sessions → All (ticks setting state).sessions
    ticks_named state h = failures_named (after_timeouts setting state) (all_given_named _ _ (length state.jobs) state h)

    attached_named : (name : Name) (state : State S) → All state.sessions → All (speaks name (attaches setting) state).sessions
    attached_named name state h = speaks_named name (attaches setting) state (λ speaker its. by_said speaker (attaches setting speaker) (alone.attaches setting speaker) its) h

    runs_named : (place : ℕ) (job : Job) (reply : List ℕ) (state : State S) → All state.sessions → All (runs setting place job reply state).sessions
    runs_named place job reply state h =
        let ready : State S = record state { jobs = without_ready place state.jobs } in
        failures_named (speaks (record { key = job.key; session = job.session }) (finishes setting job reply) ready)
        (speaks_named (record { key = job.key; session = job.session }) (finishes setting job reply) ready
        (λ speaker its. by_said speaker (finishes setting job reply speaker) (alone.finishes setting speaker job reply) its) h)

    lost_named : (name : Name) (state : State S) → All state.sessions → All (lost name state).sessions
    lost_named name state h = all_filter Of (λ (session : Session). not (is_named name session)) state.sessions h

    destroys_named : (number destroyed : ℕ) (name : Name) (state : State S) → All state.sessions → All (destroys setting number destroyed name state).sessions
    destroys_named number destroyed name state h =
        let other : Name = record name { session = destroyed } in
        cond_both (not (destroyed == name.session) && is_some (session_named other state.sessions))
        (speaks name (says setting (DestroySessionOk destroyed)) (lost other state)) (speaks name (says setting (DestroySessionNone destroyed)) state) (λ (s : State S). All s.sessions)
        (λ is. speaks_named name (says setting (DestroySessionOk destroyed)) (lost other state) (λ speaker its. its) (lost_named other state h))
        (λ is. speaks_named name (says setting (DestroySessionNone destroyed)) state (λ speaker its. its) h)

    owes_named : (name : Name) (number seq : ℕ) (verdict : Verdict) (body : List ℕ) (state : State S) → All state.sessions → All (speaks name (owes setting number seq verdict body) state).sessions
    owes_named name number seq verdict body state h =
        speaks_named name (owes setting number seq verdict body) state
        (λ speaker its. by_said speaker (owes setting number seq verdict body speaker) (alone.owes setting speaker number seq verdict body) its) h

    accepted_named : (name : Name) (number seq : ℕ) (item : Item) (body : List ℕ) (state : State S) → All state.sessions → All (row setting name number seq (Accepted item) body state).sessions
    accepted_named name number seq (DestroySession destroyed) body state h = destroys_named number destroyed name state h
    accepted_named name number seq item body state h = owes_named name number seq (Accepted item) body state h

    row_named : (name : Name) (number seq : ℕ) (verdict : Verdict) (body : List ℕ) (state : State S) → All state.sessions → All (row setting name number seq verdict body state).sessions
    row_named name number seq (Noticed code) body state h = owes_named name number seq (Noticed code) body state h
    row_named name number seq (Again mark) body state h = owes_named name number seq (Again mark) body state h
    row_named name number seq (Accepted item) body state h = accepted_named name number seq item body state h

    settled_named : (name : Name) (judged : List (Judgement × List ℕ)) (state : State S) → All state.sessions → All (fold (settles setting name) state judged).sessions
    settled_named name [] state h = h
    settled_named name (one ∷ judged) state h =
        let done : State S = row setting name one.0.number one.0.seq one.0.verdict one.1 state in
        settled_named name judged (settles setting name state one)
        (failures_named (speaks name (tells_of one.0.number) done)
        (speaks_named name (tells_of one.0.number) done (λ speaker its. its) (row_named name one.0.number one.0.seq one.0.verdict one.1 state h)))

    acks_named : (numbers : List ℕ) (speaker : Speaker S) → Of speaker.session → Of (acknowledges setting numbers speaker).session
    acks_named [] speaker h = h
    acks_named (number ∷ numbers) speaker h = h

    opens_named : (history : History) (judged : List Judgement) → Keeps (opens setting history judged)
    opens_named history judged speaker h =
        let ready : Speaker S = record speaker { session = record speaker.session { history = history } } in
        acks_named (acks_of judged) (if has_accepted ready.session then ready else says_it_is_new setting ready)
        (cond_both (has_accepted ready.session) ready (says_it_is_new setting ready) (λ (s : Speaker S). Of s.session) (λ is. h) (λ is. h))

    placed_named : (sessions : List Session) (state : State S) → All state.sessions → All (without_first sessions state).sessions
    placed_named [] state h = h
    placed_named (session ∷ sessions) state h = lost_named (name_of session) state h

    hears_named : (envelope : Envelope) (found : Option Session) (state : State S) → P envelope.session envelope.key → ((session : Session) → found ≡ Some session → Of session) → All state.sessions
        → All (hears_by setting envelope found state).sessions
    hears_named envelope None state own its h =
        all_append Of (with_place state).sessions _ (cond_both _ state (without_first state.sessions state) (λ (s : State S). All s.sessions) (λ is. h) (λ is. placed_named state.sessions state h)) (own, tt)
    hears_named envelope (Some session) state own its h =
        all_append Of (without_session (name_of session) state.sessions) (session ∷ []) (all_filter Of (λ (s : Session). not (is_named (name_of session) s)) state.sessions h) (its session refl, tt)

    taken_named : (envelope : Envelope) (found : Option Session) (state : State S) → All state.sessions → All (takes_by setting envelope found state).sessions
    taken_named envelope None state h = h
    taken_named envelope (Some session) state h =
        let way = InEnvelope setting.now session.salts envelope.salt in
        let message : Message = message_in envelope in
        let judged = judgements way (remembered session) message in
        let bodies = map (λ (one : Message). one.body) (messages_judged way session message) in
        let history = (session_after way (remembered session) message).history in
        settled_named (name_of session) (zip judged bodies) (speaks (name_of session) (opens setting history judged) state)
        (speaks_named (name_of session) (opens setting history judged) state (opens_named history judged) h)

    takes_named : (envelope : Envelope) (state : State S) → P envelope.session envelope.key → All state.sessions → All (takes setting envelope state).sessions
    takes_named envelope state own h =
        let heard : State S = hears setting envelope state in
        taken_named envelope (session_named (name_in envelope) heard.sessions) heard
        (hears_named envelope (session_named (name_in envelope) state.sessions) state own
        (λ session is. each_of Of state.sessions h session (found_in (is_named (name_in envelope)) state.sessions session is)) h)

    -- ---- its end

    sealed_session : (salt : ℕ) (packets : List Message) (speaker : Speaker S) → (fold (seals setting salt) speaker packets).session ≡ speaker.session
    sealed_session salt [] speaker = refl
    sealed_session salt (packet ∷ packets) speaker = sealed_session salt packets (seals setting salt speaker packet)

    sends_named : (messages : List Message) → Keeps (sends setting messages)
    sends_named messages speaker h =
        let ready : Speaker S = needs_salts setting 1 speaker in
        let counters = after_packets setting.now ready.session.counters messages in
        subst Of (sym (sealed_session (current_salt ready.session.salts setting.now) (packets_of setting.now ready.session.counters messages)
        (record ready { session = record ready.session { counters = counters } }))) h

    names_sent : (owed : List Owed) (names : List Name) (state : State S) → All state.sessions
        → All (fold (λ so_far name. speaks name (sends setting (messages_by name owed)) so_far) state names).sessions
    names_sent owed [] state h = h
    names_sent owed (name ∷ names) state h =
        names_sent owed names (speaks name (sends setting (messages_by name owed)) state)
        (speaks_named name (sends setting (messages_by name owed)) state (sends_named (messages_by name owed)) h)

    all_lost : (sessions : List Session) (state : State S) → All state.sessions → All (fold (λ so_far session. lost (name_of session) so_far) state sessions).sessions
    all_lost [] state h = h
    all_lost (session ∷ sessions) state h = all_lost sessions (lost (name_of session) state) (lost_named (name_of session) state h)

    said_named : (state : State S) → All state.sessions → All (said setting state)
    said_named state h = names_sent state.owed (names_in state.owed) state h

    ended_named : (state : State S) → All state.sessions → All (without_spent (all_sent setting state)).sessions
    ended_named state h = all_lost (filter is_spent (all_sent setting state).sessions) (all_sent setting state) (said_named state h)

  -- ---- a world

  split : (xs ys : List Session) → All (xs ++ ys) → All xs × All ys
  split [] ys h = (tt, h)
  split (x ∷ xs) ys h = let rest = split xs ys h.1 in ((h.0, rest.0), rest.1)

  module _ {S V : Type 0} (alone : Themselves S) (setting : WorldSetting S V) (world : World S V) (h : All (lives world)) where
    past : All world.lost
    past = (split world.lost world.server.sessions h).0

    before : All world.server.sessions
    before = (split world.lost world.server.sessions h).1

    -- all that were ever made
    gathered : (all_said after : List Session) → All all_said → All after → All ((world.lost ++ lost_in world.server.sessions all_said after) ++ after)
    gathered all_said after one two =
        all_append Of (world.lost ++ lost_in world.server.sessions all_said after) after
        (all_append Of world.lost (lost_in world.server.sessions all_said after) past
        (all_append Of (missing world.server.sessions all_said) (missing all_said after)
        (all_filter Of (λ (s : Session). not (has_named (name_of s) all_said)) world.server.sessions before)
        (all_filter Of (λ (s : Session). not (has_named (name_of s) after)) all_said one))) two

    abbrev now : ℕ → Setting S
    now moment = setting_at (at_server setting) moment world.server

    abbrev state : State S
    state = begun world.server world.draw

    by_state : (moment : ℕ) (done : State S) → All done.sessions
        → All ((world.lost ++ lost_in world.server.sessions (said (now moment) done) (without_spent (all_sent (now moment) done)).sessions) ++ (without_spent (all_sent (now moment) done)).sessions)
    by_state moment done its =
        gathered (said (now moment) done) (without_spent (all_sent (now moment) done)).sessions (said_named alone (now moment) done its) (ended_named alone (now moment) done its)

    pub packet_named : (moment : ℕ) (envelope : Envelope) → P envelope.session envelope.key → All (lives (serves setting (Comes moment (Some envelope)) world))
    packet_named moment envelope own = by_state moment (takes (now moment) envelope state) (takes_named alone (now moment) envelope state own before)

    pub unopened_named : (moment : ℕ) → All (lives (serves setting (Comes moment None) world))
    unopened_named moment = gathered world.server.sessions world.server.sessions before before

    pub tick_named : (moment : ℕ) → All (lives (serves setting (Tick moment) world))
    tick_named moment = by_state moment (ticks (now moment) state) (ticks_named alone (now moment) state before)

    pub attach_named : (moment : ℕ) (name : Name) → All (lives (serves setting (Attach moment name) world))
    attach_named moment name = by_state moment (speaks name (attaches (now moment)) state) (attached_named alone (now moment) name state before)

    abbrev worked_by : ℕ → ℕ → Option Job → Course S V
    worked_by moment place found = worked (course_in world) (after_run (now moment) place found setting.serve world.service world.server world.draw)

    work_by : (moment place : ℕ) (found : Option Job)
        → All ((world.lost ++ lost_in world.server.sessions (said_by_work (now moment) place found setting.serve (course_in world)) (worked_by moment place found).server.sessions)
        ++ (worked_by moment place found).server.sessions)
    work_by moment place None = gathered world.server.sessions (without_spent (all_sent (now moment) state)).sessions before (ended_named alone (now moment) state before)
    work_by moment place (Some job) =
        let reply = (setting.serve world.service job.request).0 in
        by_state moment (runs (now moment) place job reply state) (runs_named alone (now moment) place job reply state before)

    pub work_named : (moment place : ℕ) → All (lives (serves setting (Work moment place) world))
    work_named moment place = work_by moment place (ready_job place world.server.jobs)

    pub loss_named : (name : Name) → All (lives (serves setting (Loss name) world))
    loss_named name =
        gathered world.server.sessions (without_session name world.server.sessions) before
        (all_filter Of (λ (session : Session). not (is_named name session)) world.server.sessions before)

    pub restart_named : All (lives (serves setting Restart world))
    restart_named = gathered world.server.sessions [] before tt
