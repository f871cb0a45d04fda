-- What is sent of a session that has accepted nothing: one packet, which begins with its `new_session_created`.
use Rattle.std.proofs.Common.{◌≡◌, ◌≢◌, ◌∙◌, ℕ, true, false, Option, Some, None, List, [], ◌∷◌, length, ap, sym, subst, refl, arith, inl, inr}
use Rattle.std.specs.Prelude.{fold}
use Rattle.std.specs.List.{filter, All}
use Rattle.std.proofs.lemmas.Bool.{false≢true}
use Rattle.std.proofs.lemmas.List.Elements.{All-nil, All-push}
use Rattle.salt_line.specs.Line.{current_salt}
use Rattle.service_tl.specs.declared.lists.Message.{Message}
use Rattle.packing.specs.Packing.{packets_of, after_packets}
use Rattle.server_rules.specs.Server.{Name, Session, name_of, session_named}
use Rattle.server_rules.specs.Event.{Setting, State, Speaker, Owed, Sent, speaker_in, spoken_by, speaks, lost}
use Rattle.server_rules.specs.Speaking.{needs_salts}
use Rattle.server_rules.specs.Sending.{names_in, messages_by, seals, sends, all_sent}
use Rattle.server_rules.specs.Answer.{is_spent, ended}
use Rattle.law_server.specs.Lives.{is_packet_of}
use Rattle.law_server.specs.Announced.{NamesSession, SaysNew}
use Rattle.law_server.proofs.LivedNames.{cases_name, found-named}
use Rattle.law_server.proofs.Counting.{is_by, by-other}
use Rattle.law_server.proofs.Small.{IsShort, new-length, one-packet}
use Rattle.law_server.proofs.Mute.{Mute, IsMute, Few}

-- a packet of the session says that it is new
abbrev pub IsNew : Mute → Sent → Type 0
IsNew mute packet = is_packet_of mute.name packet ≡ true → SaysNew mute.first mute.unique packet.envelope.body

-- packets of another session
others-new : {S : Type 0} (setting : Setting S) (salt : ℕ) (mute : Mute) (packets : List Message) (speaker : Speaker S) → mute.name ≢ name_of speaker.session
    → All (IsNew mute) speaker.sent → All (IsNew mute) (fold (seals setting salt) speaker packets).sent
others-new setting salt mute [] speaker apart all = all
others-new setting salt mute (packet ∷ packets) speaker apart all =
    let off : is_by mute.name speaker.session.key speaker.session.number ≡ false = by-other mute.name speaker.session.key speaker.session.number apart in
    others-new setting salt mute packets (seals setting salt speaker packet) apart
    (All-push (IsNew mute) speaker.sent _ all (λ is. absurd (false≢true (sym off ∙ is))))

-- ---- the packet of its messages

pub short-new : (first unique : ℕ) (message : Message) → NamesSession first unique message.body → IsShort message
short-new first unique message names =
    let size = new-length first unique names.0 in
    let same = ap length names.1 in omega arith

one-sealed : {S : Type 0} (setting : Setting S) (salt : ℕ) (mute : Mute) (packets : List Message) (packet : Message) (speaker : Speaker S) → packets ≡ packet ∷ []
    → SaysNew mute.first mute.unique packet.body → All (IsNew mute) speaker.sent → All (IsNew mute) (fold (seals setting salt) speaker packets).sent
one-sealed {S} setting salt mute packets packet speaker one new all =
    let P : List Message → Type 0 = λ packets. All (IsNew mute) (fold (seals setting salt) speaker packets).sent in
    subst P (sym one) (All-push (IsNew mute) speaker.sent _ all (λ is. new))

sends-new : {S : Type 0} (setting : Setting S) (mute : Mute) (messages : List Message) (speaker : Speaker S) → Few 2 mute.first mute.unique messages
    → All (IsNew mute) speaker.sent → All (IsNew mute) (sends setting messages speaker).sent
sends-new setting mute messages speaker (inl none) all =
    let P : List Message → Type 0 = λ messages. All (IsNew mute) (sends setting messages speaker).sent in subst P (sym none) all
sends-new {S} setting mute messages speaker (inr opening) all =
    let new = opening.0 in
    let rest = opening.1 in
    let names = opening.3 in
    let ready = needs_salts setting 1 speaker in
    let counters = after_packets setting.now ready.session.counters (new ∷ rest) in
    let numbered : Speaker S = record ready { session = record ready.session { counters = counters } } in
    let one = one-packet setting.now ready.session.counters new rest (short-new mute.first mute.unique new names) opening.4 opening.5 in
    let P : List Message → Type 0 = λ messages. All (IsNew mute) (sends setting messages speaker).sent in
    subst P (sym opening.2)
    (one-sealed setting (current_salt ready.session.salts setting.now) mute (packets_of setting.now ready.session.counters (new ∷ rest)) one.0 numbered one.1
    (new, names, one.2) all)

-- ---- all that is sent

module _ {S : Type 0} (setting : Setting S) (mute : Mute) where
  one-sends : (owed : List Owed) (name : Name) (state : State S) (found : Option Session) → session_named name state.sessions ≡ found
      → Few 2 mute.first mute.unique (messages_by mute.name owed) → All (IsNew mute) state.sent
      → All (IsNew mute) (spoken_by found (sends setting (messages_by name owed)) state).sent
  one-sends owed name state None is few all = all
  one-sends owed name state (Some session) is few all =
      let its_name : name_of session ≡ name = found-named name state.sessions session is in
      let before = speaker_in state session in
      let P : Name → Type 0 = λ name. All (IsNew mute) (sends setting (messages_by name owed) before).sent in
      elim (cases_name mute.name name) [
        | inl own ↦ subst P own (sends-new setting mute (messages_by mute.name owed) before few all)
        | inr apart ↦
            let messages = messages_by name owed in
            let ready = needs_salts setting 1 before in
            let counters = after_packets setting.now ready.session.counters messages in
            let numbered : Speaker S = record ready { session = record ready.session { counters = counters } } in
            others-new setting (current_salt ready.session.salts setting.now) mute (packets_of setting.now ready.session.counters messages) numbered
            (λ same. apart (same ∙ its_name)) all
      ]

  all-send : (owed : List Owed) (names : List Name) (state : State S) → Few 2 mute.first mute.unique (messages_by mute.name owed) → All (IsNew mute) state.sent
      → All (IsNew mute) (fold (λ so_far name. speaks name (sends setting (messages_by name owed)) so_far) state names).sent
  all-send owed [] state few all = all
  all-send owed (name ∷ names) state few all =
      all-send owed names (speaks name (sends setting (messages_by name owed)) state) few
      (one-sends owed name state (session_named name state.sessions) refl few all)

  spent-sent : (spent : List Session) (state : State S) → (fold (λ so_far session. lost (name_of session) so_far) state spent).sent ≡ state.sent
  spent-sent [] state = refl
  spent-sent (session ∷ spent) state = spent-sent spent (lost (name_of session) state)

  pub ended-new : (state : State S) → IsMute S mute (Few 2 mute.first mute.unique) state → All (IsNew mute) (ended setting state).packets
  ended-new state m =
      let sent = all_sent setting state in
      let P : List Sent → Type 0 = All (IsNew mute) in
      let nothing : All (IsNew mute) state.sent = subst P (sym m.sent) (All-nil (IsNew mute)) in
      subst P (sym (spent-sent (filter is_spent sent.sessions) sent)) (all-send state.owed (names_in state.owed) state m.owed nothing)
