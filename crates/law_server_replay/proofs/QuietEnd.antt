-- The end of an event: what goes out, and what was entered.
use Rattle.std.proofs.Common.{◌≡◌, ℕ, zero, suc, false, Option, Some, None, List, [], ◌∷◌, filter, fold, not, refl, sym, ap, subst, ◌∙◌}
use Rattle.std.specs.List.{All}
use Rattle.service_tl.specs.declared.lists.Message.{Message}
use Rattle.msg_ids.specs.Counters.{Counters}
use Rattle.packing.specs.Packing.{after_packets, packets_of}
use Rattle.salt_line.specs.Line.{current_salt}
use Rattle.waits.specs.declared.job.Job.{Job}
use Rattle.waits.specs.Jobs.{Queue}
use Rattle.server_rules.specs.Answer.{Answer, begun, ended, is_spent}
use Rattle.server_rules.specs.Event.{Owed, Sent, Setting, Speaker, State, lost, speaker_in, speaks, spoken_by}
use Rattle.server_rules.specs.Sending.{all_sent, messages_by, names_in, seals, sends}
use Rattle.server_rules.specs.Server.{Name, Server, Session, is_same, name_of, session_named}
use Rattle.server_rules.specs.Speaking.{needs_salts}
use Rattle.server_rules.specs.Waiting.{all_given_up, first_given_up, given_up, gives_up}
use Rattle.law_server.specs.Start.{BeginsWith}
use Rattle.law_server_replay.specs.Quiet.{quiet}
use Rattle.law_server_replay.proofs.Lists.{Has, has_last, has_more, names_same, none_spent}

-- the first packet made of messages begins with the first of them
abbrev pub Begins : Type 0
Begins = (now : ℕ) (counters : Counters) (message : Message) (messages : List Message)
    → (first : Message) × (others : List Message) × (packets_of now counters (message ∷ messages) ≡ first ∷ others) × BeginsWith message first.body

module _ {S : Type 0} (setting : Setting S) where
  -- ---- packets stay

  seals_has : (salt : ℕ) (packets : List Message) (speaker : Speaker S) → Has speaker.sent → Has (fold (seals setting salt) speaker packets).sent
  seals_has salt [] speaker h = h
  seals_has salt (packet ∷ packets) speaker h = seals_has salt packets (seals setting salt speaker packet) (has_more speaker.sent _ h)

  seals_some : (salt : ℕ) (packets : List Message) (speaker : Speaker S) → Has packets → Has (fold (seals setting salt) speaker packets).sent
  seals_some salt packets speaker (first, rest, is) =
      subst (λ (l : List Message). Has (fold (seals setting salt) speaker l).sent) (sym is)
      (seals_has salt rest (seals setting salt speaker first) (has_last speaker.sent _))

  sends_has : (messages : List Message) (speaker : Speaker S) → Has speaker.sent → Has (sends setting messages speaker).sent
  sends_has messages speaker h =
      let ready : Speaker S = needs_salts setting 1 speaker in
      let counters = after_packets setting.now ready.session.counters messages in
      let counted : Speaker S = record ready { session = record ready.session { counters = counters } } in
      seals_has (current_salt ready.session.salts setting.now) (packets_of setting.now ready.session.counters messages) counted h

  sends_some : Begins → (message : Message) (messages : List Message) (speaker : Speaker S) → Has (sends setting (message ∷ messages) speaker).sent
  sends_some begins message messages speaker =
      let ready : Speaker S = needs_salts setting 1 speaker in
      let counters = after_packets setting.now ready.session.counters (message ∷ messages) in
      let counted : Speaker S = record ready { session = record ready.session { counters = counters } } in
      let made = begins setting.now ready.session.counters message messages in
      seals_some (current_salt ready.session.salts setting.now) (packets_of setting.now ready.session.counters (message ∷ messages)) counted (made.0, made.1, made.2)

  spoken_sends : (messages : List Message) (found : Option Session) (state : State S) → Has state.sent → Has (spoken_by found (sends setting messages) state).sent
  spoken_sends messages None state h = h
  spoken_sends messages (Some session) state h = sends_has messages (speaker_in state session) h

  all_sends : (owed : List Owed) (names : List Name) (state : State S) → Has state.sent
      → Has (fold (λ so_far name. speaks name (sends setting (messages_by name owed)) so_far) state names).sent
  all_sends owed [] state h = h
  all_sends owed (name ∷ names) state h =
      all_sends owed names (speaks name (sends setting (messages_by name owed)) state) (spoken_sends (messages_by name owed) (session_named name state.sessions) state h)

  lost_sent : (sessions : List Session) (state : State S) → (fold (λ so_far session. lost (name_of session) so_far) state sessions).sent ≡ state.sent
  lost_sent [] state = refl
  lost_sent (session ∷ sessions) state = lost_sent sessions (lost (name_of session) state)

  lost_entries : (sessions : List Session) (state : State S) → (fold (λ so_far session. lost (name_of session) so_far) state sessions).entries ≡ state.entries
  lost_entries [] state = refl
  lost_entries (session ∷ sessions) state = lost_entries sessions (lost (name_of session) state)

  -- ---- what is owed first goes out

  own_message : (one : Owed) (more : List Owed) → (rest : List Message) × (messages_by one.name (one ∷ more) ≡ one.message ∷ rest)
  own_message one more = rw (names_same one.name) (_, refl)

  first_goes : Begins → (one : Owed) (more : List Owed) (state : State S) (found : Option Session) (session : Session) → found ≡ Some session
      → Has (spoken_by found (sends setting (messages_by one.name (one ∷ more))) state).sent
  first_goes begins one more state found session is =
      let own = own_message one more in
      subst (λ (f : Option Session). Has (spoken_by f (sends setting (messages_by one.name (one ∷ more))) state).sent) (sym is)
      (subst (λ (l : List Message). Has (sends setting l (speaker_in state session)).sent) (sym own.1) (sends_some begins one.message own.0 (speaker_in state session)))

  pub owed_goes : Begins → (one : Owed) (more : List Owed) (state : State S) (session : Session) → state.owed ≡ one ∷ more
      → session_named one.name state.sessions ≡ Some session → Has (ended setting state).packets
  owed_goes begins one more state session is there =
      let sent : State S = all_sent setting state in
      let goes : Has sent.sent =
      subst (λ (l : List Owed). Has (fold (λ so_far name. speaks name (sends setting (messages_by name l)) so_far) state (names_in l)).sent) (sym is)
      (all_sends (one ∷ more) (filter (λ other. not (is_same one.name other)) (names_in more)) (speaks one.name (sends setting (messages_by one.name (one ∷ more))) state)
      (first_goes begins one more state (session_named one.name state.sessions) session there)) in
      subst (λ (l : List Sent). Has l) (sym (lost_sent (filter is_spent sent.sessions) sent)) goes

  -- ---- entries stay

  abbrev pub Entered : State S → Type 0
  Entered state = Has state.entries

  given_entered : (content : List ℕ) (found : Option Session) (job : Job) (state : State S) → Entered state → Entered (spoken_by found (gives_up setting content job) state)
  given_entered content None job state h = h
  given_entered content (Some session) job state h = has_more state.entries _ h

  given_up_entered : (content : List ℕ) (job : Option Job) (state : State S) → Entered state → Entered (given_up setting content job state)
  given_up_entered content None state h = h
  given_up_entered content (Some job) state h = given_entered content (session_named (record { key = job.key; session = job.session }) state.sessions) job state h

  pub all_entered : (content : List ℕ) (first : Queue → Option Job × Queue) (n : ℕ) (state : State S) → Entered state → Entered (all_given_up setting content first n state)
  all_entered content first zero state h = h
  all_entered content first (suc n) state h =
      all_entered content first n (first_given_up setting content first state)
      (given_up_entered content (first state.jobs).0 (record state { jobs = (first state.jobs).1 }) h)

  seals_entries : (salt : ℕ) (packets : List Message) (speaker : Speaker S) → (fold (seals setting salt) speaker packets).entries ≡ speaker.entries
  seals_entries salt [] speaker = refl
  seals_entries salt (packet ∷ packets) speaker = seals_entries salt packets (seals setting salt speaker packet)

  spoken_entries : (messages : List Message) (found : Option Session) (state : State S) → (spoken_by found (sends setting messages) state).entries ≡ state.entries
  spoken_entries messages None state = refl
  spoken_entries messages (Some session) state =
      let ready : Speaker S = needs_salts setting 1 (speaker_in state session) in
      let counters = after_packets setting.now ready.session.counters messages in
      let counted : Speaker S = record ready { session = record ready.session { counters = counters } } in
      seals_entries (current_salt ready.session.salts setting.now) (packets_of setting.now ready.session.counters messages) counted

  sent_entries : (owed : List Owed) (names : List Name) (state : State S)
      → (fold (λ so_far name. speaks name (sends setting (messages_by name owed)) so_far) state names).entries ≡ state.entries
  sent_entries owed [] state = refl
  sent_entries owed (name ∷ names) state =
      sent_entries owed names (speaks name (sends setting (messages_by name owed)) state)
      ∙ spoken_entries (messages_by name owed) (session_named name state.sessions) state

  pub ended_entered : (state : State S) → Entered state → Has (ended setting state).entries
  ended_entered state h =
      let sent : State S = all_sent setting state in
      subst (λ l. Has l) (sym (lost_entries (filter is_spent sent.sessions) sent ∙ sent_entries state.owed (names_in state.owed) state)) h

  -- ---- nothing was said

  pub ended_quiet : (server : Server) (draw : S) → All (λ session. is_spent session ≡ false) server.sessions → ended setting (begun server draw) ≡ quiet setting.now server draw
  ended_quiet server draw spent =
      ap (λ (l : List Session).
      let done = fold (λ so_far session. lost (name_of session) so_far) (begun server draw) l in
      let answer : Answer S = record {
        server = record { now = setting.now; sessions = done.sessions; jobs = done.jobs; bindings = done.bindings };
        draw = done.draw;
        packets = done.sent;
        entries = done.entries;
      } in answer) (none_spent server.sessions spent)
