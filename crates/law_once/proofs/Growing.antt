-- A session of each name stays within an event of a server, and draws no less.
use Rattle.std.proofs.Common.{◌≡◌, ◌≢◌, ℕ, zero, suc, ◌<◌, ◌≤◌, ◌==◌, ◌&&◌, not, Bool, true, false, Option, None, Some, List, [], ◌∷◌, ◌++◌, map, fold, length, if◌then◌else◌, inl, inr, refl, sym, ap, subst, ◌∙◌, arith, eq-eqb}
use Rattle.std.specs.Prelude.{◌⊎◌, ⊤, is_some}
use Rattle.std.specs.List.{Contains, find, zip}
use Rattle.std.proofs.lemmas.Bool.{and_from, and_parts, cases_Bool, cond_both, eqb-true}
use Rattle.service_tl.specs.declared.item.Item.{Item}
use Rattle.service_tl.specs.declared.item.Item.TheVariants.{DestroySession, DestroySessionOk, DestroySessionNone}
use Rattle.service_tl.specs.declared.lists.Message.{Message}
use Rattle.id_window.specs.History.{History}
use Rattle.inbox.specs.Verdicts.{Judgement, Verdict, Accepted, Again, Noticed}
use Rattle.inbox.specs.Refusals.{InEnvelope}
use Rattle.inbox.specs.Judging.{judgements, session_after}
use Rattle.packing.specs.Packing.{after_packets, packets_of}
use Rattle.salt_line.specs.Line.{current_salt}
use Rattle.waits.specs.declared.job.Job.{Job}
use Rattle.waits.specs.Jobs.{Queue, without_ready}
use Rattle.server_rules.specs.Server.{Name, Session, has_accepted, is_named, is_same, name_of, remembered, session_named, without_session}
use Rattle.server_rules.specs.Event.{Envelope, Owed, Setting, Speaker, State, lost, speaker_in, speaks, spoken_by}
use Rattle.server_rules.specs.Speaking.{needs_salts, says, says_it_is_new}
use Rattle.server_rules.specs.Waiting.{after_failures, after_timeouts, all_given_up, first_given_up, given_up, gives_up, tells_of}
use Rattle.server_rules.specs.Rows.{acknowledges, acks_of, destroys, owes, row, settles}
use Rattle.server_rules.specs.Sending.{all_sent, messages_by, names_in, seals, sends}
use Rattle.server_rules.specs.Answer.{attaches, finishes, hears, hears_by, message_in, messages_judged, name_in, opens, runs, session_for, takes, takes_by, ticks, with_place, without_first}
use Rattle.law_server.specs.Speech.{SaidFor}
use Rattle.law_once.proofs.Lists.{first_or}
use Rattle.law_once.proofs.Named.{Themselves}
use Rattle.law_once.proofs.Grown.{drawn, salts_grown, sends_grown}

-- ---- names

abbrev named : ℕ → ℕ → Name
named key session = record { key = key; session = session }

by_parts : (one other : Name) → one.key ≡ other.key → one.session ≡ other.session → one ≡ other
by_parts one other key session = ap (λ (k : ℕ). named k one.session) key ∙ ap (λ (n : ℕ). named other.key n) session

pub same_names : (one other : Name) → is_same one other ≡ true → one ≡ other
same_names one other is =
    let both = and_parts (one.key == other.key) (one.session == other.session) is in
    let key : one.key ≡ other.key = eqb-true one.key other.key both.0 in
    let session : one.session ≡ other.session = eqb-true one.session other.session both.1 in
    by_parts one other key session

pub names_same : (one : Name) → is_same one one ≡ true
names_same one = and_from (one.key == one.key) (one.session == one.session) (eq-eqb one.key one.key refl) (eq-eqb one.session one.session refl)

pub cases_names : (one other : Name) → (one ≡ other) ⊎ (one ≢ other)
cases_names one other =
    elim (cases_Bool (is_same one other)) [
      | inl is ↦ inl (same_names one other is)
      | inr fails ↦ inr (λ same. let e : false ≡ true = sym fails ∙ subst (λ (n : Name). is_same one n ≡ true) same (names_same one) in absurd (cc))
    ]

not_named : (name other : Name) (o : Session) → name ≢ other → is_named other o ≡ true → is_named name o ≡ false
not_named name other o differs is =
    elim (cases_Bool (is_named name o)) [
      | inl holds ↦ absurd (differs (same_names name (name_of o) holds ∙ sym (same_names other (name_of o) is)))
      | inr fails ↦ fails
    ]

pub found_without : (name other : Name) → name ≢ other → (sessions : List Session) → session_named name (without_session other sessions) ≡ session_named name sessions
found_without name other differs [] = refl
found_without name other differs (o ∷ sessions) =
    elim (cases_Bool (is_named other o)) [
      | inl is ↦ rw (is, not_named name other o differs is) (found_without name other differs sessions)
      | inr fails ↦ rw fails (ap (λ (found : Option Session). if is_named name o then Some o else found) (found_without name other differs sessions))
    ]

pub found_gone : (name : Name) (sessions : List Session) → session_named name (without_session name sessions) ≡ None
found_gone name [] = refl
found_gone name (o ∷ sessions) =
    elim (cases_Bool (is_named name o)) [
      | inl is ↦ rw is (found_gone name sessions)
      | inr fails ↦ rw (fails, fails) (found_gone name sessions)
    ]

pub found_is : {X : Type 0} (test : X → Bool) (xs : List X) (x : X) → find test xs ≡ Some x → test x ≡ true
found_is test [] x is = absurd (cc)
found_is test (y ∷ xs) x is =
    elim (cases_Bool (test y)) [
      | inl holds ↦
          let same : Some y ≡ Some x = subst (λ (b : Bool). (if b then Some y else find test xs) ≡ Some x) holds is in
          let e : y ≡ x = cc in ap test (sym e) ∙ holds
      | inr fails ↦ found_is test xs x (subst (λ (b : Bool). (if b then Some y else find test xs) ≡ Some x) fails is)
    ]

-- a member that passes is found, or one before it
pub none_found : {X : Type 0} (test : X → Bool) (xs : List X) (x : X) → Contains xs x → find test xs ≡ None → test x ≡ false
none_found test [] x among none = let below : among.0 < 0 = among.1 in absurd (omega (arith, below))
none_found test (y ∷ xs) x among none =
    elim (cases_Bool (test y)) [
      | inl holds ↦ let e : Some y ≡ None = subst (λ (b : Bool). (if b then Some y else find test xs) ≡ None) holds none in absurd (cc)
      | inr fails ↦
          elim (first_or x y xs among) [
            | inl is ↦ ap test (sym is) ∙ fails
            | inr other ↦ none_found test xs x other (subst (λ (b : Bool). (if b then Some y else find test xs) ≡ None) fails none)
          ]
    ]

-- what law says of the session of a name
pub record Speaks (S : Type 0) : Type 0 where
  pub own : (name : Name) (speak : Speaker S → Speaker S) (state : State S) (session : Session) → session_named name state.sessions ≡ Some session
      → name_of (speak (speaker_in state session)).session ≡ name
      → session_named name (speaks name speak state).sessions ≡ Some (speak (speaker_in state session)).session
  pub others : (name other : Name) (speak : Speaker S → Speaker S) (state : State S) (session : Session) → session_named name state.sessions ≡ Some session
      → name_of (speak (speaker_in state session)).session ≡ name → other ≢ name
      → session_named other (speaks name speak state).sessions ≡ session_named other state.sessions

module _ (x : ℕ) (before : List Session) where
  -- it draws no less, where it is there still
  abbrev pub Grows : Session → Option Session → Type 0
  Grows b None = ⊤
  Grows b (Some session) = drawn x b ≤ drawn x session

  abbrev pub Holds : List Session → Type 0
  Holds sessions = (b : Session) → Contains before b → Grows b (session_named (name_of b) sessions)

  module _ {S : Type 0} (k : Speaks S) (alone : Themselves S) (setting : Setting S) where
    -- it keeps its name, and what it drew
    abbrev Says : (Speaker S → Speaker S) → Type 0
    Says speak = (speaker : Speaker S) → (name_of (speak speaker).session ≡ name_of speaker.session) × (drawn x speaker.session ≤ drawn x (speak speaker).session)

    pub said_name : (a b : Speaker S) → SaidFor S a b → name_of b.session ≡ name_of a.session
    said_name a b its = by_parts (name_of b.session) (name_of a.session) its.key its.number

    spoken_holds : (at : Name) (speak : Speaker S → Speaker S) (state : State S) → Says speak → Holds state.sessions → (found : Option Session) → session_named at state.sessions ≡ found
        → Holds (speaks at speak state).sessions
    spoken_holds at speak state says_so h None is = subst (λ (f : Option Session). Holds (spoken_by f speak state).sessions) (sym is) h
    spoken_holds at speak state says_so h (Some y) is = λ b among.
        let z : Session = (speak (speaker_in state y)).session in
        let its = says_so (speaker_in state y) in
        let name_z : name_of z ≡ at = its.0 ∙ sym (same_names at (name_of y) (found_is (is_named at) state.sessions y is)) in
        elim (cases_names (name_of b) at) [
          | inl own ↦
              let was : Grows b (Some y) = subst (λ (f : Option Session). Grows b f) (ap (λ (n : Name). session_named n state.sessions) own ∙ is) (h b among) in
              subst (λ (f : Option Session). Grows b f) (sym (ap (λ (n : Name). session_named n (speaks at speak state).sessions) own ∙ k.own at speak state y is name_z))
              (let more = its.1 in omega (arith, was, more))
          | inr differs ↦ subst (λ (f : Option Session). Grows b f) (sym (k.others at (name_of b) speak state y is name_z differs)) (h b among)
        ]

    pub speaks_holds : (at : Name) (speak : Speaker S → Speaker S) (state : State S) → Says speak → Holds state.sessions → Holds (speaks at speak state).sessions
    speaks_holds at speak state says_so h = spoken_holds at speak state says_so h (session_named at state.sessions) refl

    pub lost_holds : (other : Name) (sessions : List Session) → Holds sessions → Holds (without_session other sessions)
    lost_holds other sessions h b among =
        elim (cases_names (name_of b) other) [
          | inl same ↦
              subst (λ (f : Option Session). Grows b f)
              (sym (ap (λ (n : Name). session_named n (without_session other sessions)) same ∙ found_gone other sessions)) tt
          | inr differs ↦ subst (λ (f : Option Session). Grows b f) (sym (found_without (name_of b) other differs sessions)) (h b among)
        ]

    same_drawn : (speaker : Speaker S) → drawn x speaker.session ≤ drawn x speaker.session
    same_drawn speaker = omega arith

    given_holds : (content : List ℕ) (job : Option Job) (state : State S) → Holds state.sessions → Holds (given_up setting content job state).sessions
    given_holds content None state h = h
    given_holds content (Some job) state h =
        speaks_holds (record { key = job.key; session = job.session }) (gives_up setting content job) state
        (λ speaker. (said_name speaker (gives_up setting content job speaker) (alone.gives_up setting speaker content job), same_drawn speaker)) h

    all_given_holds : (content : List ℕ) (first : Queue → Option Job × Queue) (n : ℕ) (state : State S) → Holds state.sessions → Holds (all_given_up setting content first n state).sessions
    all_given_holds content first zero state h = h
    all_given_holds content first (suc n) state h =
        all_given_holds content first n (first_given_up setting content first state)
        (given_holds content (first state.jobs).0 (record state { jobs = (first state.jobs).1 }) h)

    failures_hold : (state : State S) → Holds state.sessions → Holds (after_failures setting state).sessions
    failures_hold state h = all_given_holds _ _ (length state.jobs) state h

    pub ticks_hold : (state : State S) → Holds state.sessions → Holds (ticks setting state).sessions
    ticks_hold state h = failures_hold (after_timeouts setting state) (all_given_holds _ _ (length state.jobs) state h)

    pub attached_holds : (name : Name) (state : State S) → Holds state.sessions → Holds (speaks name (attaches setting) state).sessions
    attached_holds name state h =
        speaks_holds name (attaches setting) state
        (λ speaker. (said_name speaker (attaches setting speaker) (alone.attaches setting speaker), salts_grown x setting speaker (attaches setting speaker) (alone.salts.attaches setting speaker))) h

    pub runs_hold : (place : ℕ) (job : Job) (reply : List ℕ) (state : State S) → Holds state.sessions → Holds (runs setting place job reply state).sessions
    runs_hold place job reply state h =
        let ready : State S = record state { jobs = without_ready place state.jobs } in
        failures_hold (speaks (record { key = job.key; session = job.session }) (finishes setting job reply) ready)
        (speaks_holds (record { key = job.key; session = job.session }) (finishes setting job reply) ready
        (λ speaker. (said_name speaker (finishes setting job reply speaker) (alone.finishes setting speaker job reply), same_drawn speaker)) h)

    says_holds : (name : Name) (item : Item) (state : State S) → Holds state.sessions → Holds (speaks name (says setting item) state).sessions
    says_holds name item state h = speaks_holds name (says setting item) state (λ speaker. (refl, same_drawn speaker)) h

    destroys_hold : (number destroyed : ℕ) (name : Name) (state : State S) → Holds state.sessions → Holds (destroys setting number destroyed name state).sessions
    destroys_hold number destroyed name state h =
        let other : Name = record name { session = destroyed } in
        cond_both (not (destroyed == name.session) && is_some (session_named other state.sessions))
        (speaks name (says setting (DestroySessionOk destroyed)) (lost other state)) (speaks name (says setting (DestroySessionNone destroyed)) state) (λ (s : State S). Holds s.sessions)
        (λ is. says_holds name (DestroySessionOk destroyed) (lost other state) (lost_holds other state.sessions h))
        (λ is. says_holds name (DestroySessionNone destroyed) state h)

    owes_holds : (name : Name) (number seq : ℕ) (verdict : Verdict) (body : List ℕ) (state : State S) → Holds state.sessions → Holds (speaks name (owes setting number seq verdict body) state).sessions
    owes_holds name number seq verdict body state h =
        speaks_holds name (owes setting number seq verdict body) state
        (λ speaker. (said_name speaker (owes setting number seq verdict body speaker) (alone.owes setting speaker number seq verdict body), salts_grown x setting speaker (owes setting number seq verdict body speaker) (alone.salts.owes setting speaker number seq verdict body))) h

    accepted_holds : (name : Name) (number seq : ℕ) (item : Item) (body : List ℕ) (state : State S) → Holds state.sessions → Holds (row setting name number seq (Accepted item) body state).sessions
    accepted_holds name number seq (DestroySession destroyed) body state h = destroys_hold number destroyed name state h
    accepted_holds name number seq item body state h = owes_holds name number seq (Accepted item) body state h

    row_holds : (name : Name) (number seq : ℕ) (verdict : Verdict) (body : List ℕ) (state : State S) → Holds state.sessions → Holds (row setting name number seq verdict body state).sessions
    row_holds name number seq (Noticed code) body state h = owes_holds name number seq (Noticed code) body state h
    row_holds name number seq (Again mark) body state h = owes_holds name number seq (Again mark) body state h
    row_holds name number seq (Accepted item) body state h = accepted_holds name number seq item body state h

    settled_hold : (name : Name) (judged : List (Judgement × List ℕ)) (state : State S) → Holds state.sessions → Holds (fold (settles setting name) state judged).sessions
    settled_hold name [] state h = h
    settled_hold name (one ∷ judged) state h =
        let done : State S = row setting name one.0.number one.0.seq one.0.verdict one.1 state in
        settled_hold name judged (settles setting name state one)
        (failures_hold (speaks name (tells_of one.0.number) done)
        (speaks_holds name (tells_of one.0.number) done (λ speaker. (refl, same_drawn speaker)) (row_holds name one.0.number one.0.seq one.0.verdict one.1 state h)))

    acks_name : (numbers : List ℕ) (speaker : Speaker S) → name_of (acknowledges setting numbers speaker).session ≡ name_of speaker.session
    acks_name [] speaker = refl
    acks_name (number ∷ numbers) speaker = refl

    pub opens_name : (history : History) (judged : List Judgement) (speaker : Speaker S) → name_of (opens setting history judged speaker).session ≡ name_of speaker.session
    opens_name history judged speaker =
        let ready : Speaker S = record speaker { session = record speaker.session { history = history } } in
        acks_name (acks_of judged) (if has_accepted ready.session then ready else says_it_is_new setting ready)
        ∙ cond_both (has_accepted ready.session) ready (says_it_is_new setting ready) (λ (s : Speaker S). name_of s.session ≡ name_of speaker.session) (λ is. refl) (λ is. refl)

    taken_holds : (envelope : Envelope) (found : Option Session) (state : State S) → Holds state.sessions → Holds (takes_by setting envelope found state).sessions
    taken_holds envelope None state h = h
    taken_holds envelope (Some session) state h =
        let way = InEnvelope setting.now session.salts envelope.salt in
        let message : Message = message_in envelope in
        let judged = judgements way (remembered session) message in
        let bodies = map (λ (one : Message). one.body) (messages_judged way session message) in
        let history = (session_after way (remembered session) message).history in
        settled_hold (name_of session) (zip judged bodies) (speaks (name_of session) (opens setting history judged) state)
        (speaks_holds (name_of session) (opens setting history judged) state
        (λ speaker. (opens_name history judged speaker, salts_grown x setting speaker (opens setting history judged speaker) (alone.salts.opens setting speaker history judged))) h)

    -- ---- the session of a packet

    placed_holds : (sessions : List Session) (state : State S) → Holds state.sessions → Holds (without_first sessions state).sessions
    placed_holds [] state h = h
    placed_holds (session ∷ sessions) state h = lost_holds (name_of session) state.sessions h

    pub place_holds : (state : State S) → Holds state.sessions → Holds (with_place state).sessions
    place_holds state h = cond_both _ state (without_first state.sessions state) (λ (s : State S). Holds s.sessions) (λ is. h) (λ is. placed_holds state.sessions state h)

    -- one more stands last
    more_found : (name : Name) (sessions : List Session) (session : Session)
        → (session_named name (sessions ++ session ∷ []) ≡ session_named name sessions)
        ⊎ ((session_named name (sessions ++ session ∷ []) ≡ Some session) × (is_named name session ≡ true))
    more_found name [] session =
        elim (cases_Bool (is_named name session)) [
          | inl is ↦ inr (rw is refl, is)
          | inr fails ↦ inl (rw fails refl)
        ]
    more_found name (o ∷ sessions) session =
        elim (cases_Bool (is_named name o)) [
          | inl is ↦ inl (rw is refl)
          | inr fails ↦
              elim (more_found name sessions session) [
                | inl same ↦ inl (rw fails same)
                | inr new ↦ inr (rw fails new.0, new.1)
              ]
        ]

    pub hears_hold : (envelope : Envelope) (found : Option Session) (state : State S) → state.sessions ≡ before → session_named (name_in envelope) state.sessions ≡ found → Holds state.sessions
        → Holds (hears_by setting envelope found state).sessions
    hears_hold envelope None state all is h b among =
        let new : Session = session_for setting envelope (with_place state).draw in
        elim (more_found (name_of b) (with_place state).sessions new) [
          | inl same ↦ subst (λ (f : Option Session). Grows b f) (sym same) (place_holds state h b among)
          | inr last ↦
              let not_there : is_named (name_in envelope) b ≡ false = none_found (is_named (name_in envelope)) state.sessions b (subst (λ (l : List Session). Contains l b) (sym all) among) is in
              let name : name_of b ≡ name_in envelope = same_names (name_of b) (name_of new) last.1 in
              let there : is_named (name_in envelope) b ≡ true = subst (λ (n : Name). is_same n (name_of b) ≡ true) name (names_same (name_of b)) in
              let e : false ≡ true = sym not_there ∙ there in
              absurd (cc)
        ]
    hears_hold envelope (Some session) state all is h b among =
        let its : is_named (name_in envelope) session ≡ true = found_is (is_named (name_in envelope)) state.sessions session is in
        let name : name_in envelope ≡ name_of session = same_names (name_in envelope) (name_of session) its in
        elim (more_found (name_of b) (without_session (name_of session) state.sessions) session) [
          | inl same ↦ subst (λ (f : Option Session). Grows b f) (sym same) (lost_holds (name_of session) state.sessions h b among)
          | inr last ↦
              let own : name_of b ≡ name_of session = same_names (name_of b) (name_of session) last.1 in
              let was : session_named (name_of b) state.sessions ≡ Some session = ap (λ (n : Name). session_named n state.sessions) (own ∙ sym name) ∙ is in
              subst (λ (f : Option Session). Grows b f) (was ∙ sym last.0) (h b among)
        ]

    pub takes_hold : (envelope : Envelope) (state : State S) → state.sessions ≡ before → Holds state.sessions → Holds (takes setting envelope state).sessions
    takes_hold envelope state all h =
        let heard : State S = hears setting envelope state in
        taken_holds envelope (session_named (name_in envelope) heard.sessions) heard
        (hears_hold envelope (session_named (name_in envelope) state.sessions) state all refl h)

    -- ---- its end

    sealed_session : (salt : ℕ) (packets : List Message) (speaker : Speaker S) → (fold (seals setting salt) speaker packets).session ≡ speaker.session
    sealed_session salt [] speaker = refl
    sealed_session salt (packet ∷ packets) speaker = sealed_session salt packets (seals setting salt speaker packet)

    pub sends_name : (messages : List Message) (speaker : Speaker S) → name_of (sends setting messages speaker).session ≡ name_of speaker.session
    sends_name messages speaker =
        let ready : Speaker S = needs_salts setting 1 speaker in
        let counters = after_packets setting.now ready.session.counters messages in
        ap name_of (sealed_session (current_salt ready.session.salts setting.now) (packets_of setting.now ready.session.counters messages)
        (record ready { session = record ready.session { counters = counters } }))

    names_sent : (owed : List Owed) (names : List Name) (state : State S) → Holds state.sessions
        → Holds (fold (λ so_far name. speaks name (sends setting (messages_by name owed)) so_far) state names).sessions
    names_sent owed [] state h = h
    names_sent owed (name ∷ names) state h =
        names_sent owed names (speaks name (sends setting (messages_by name owed)) state)
        (speaks_holds name (sends setting (messages_by name owed)) state
        (λ speaker. (sends_name (messages_by name owed) speaker, sends_grown x setting (messages_by name owed) speaker)) h)

    pub sent_holds : (state : State S) → Holds state.sessions → Holds (all_sent setting state).sessions
    sent_holds state h = names_sent state.owed (names_in state.owed) state h
