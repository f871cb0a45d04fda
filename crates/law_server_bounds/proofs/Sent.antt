-- An event makes no more packets than it owes messages.
use Rattle.std.proofs.Common.{◌≡◌, ◌≢◌, ◌∙◌, ℕ, suc, ◌+◌, ◌≤◌, Bool, true, false, cond, Option, Some, None, List, [], ◌∷◌, ◌++◌, length, ap, sym, subst, refl, arith, inl, inr}
use Rattle.std.specs.Prelude.{map, fold, not}
use Rattle.std.specs.List.{filter}
use Rattle.std.proofs.lemmas.Bool.{cases_Bool, cond_both, false≢true}
use Rattle.std.proofs.lemmas.List.{length-map, length_push}
use Rattle.service_tl.specs.declared.lists.Message.{Message}
use Rattle.msg_ids.specs.Counters.{Counters}
use Rattle.salt_line.specs.Line.{current_salt}
use Rattle.packing.specs.Packing.{groups, outers_of, after_outer, packets_of, after_packets}
use Rattle.draws.specs.Draws.{next_bytes}
use Rattle.server_rules.specs.Server.{Name, Session, is_same, name_of, session_named}
use Rattle.server_rules.specs.Event.{Setting, State, Speaker, Owed, Sent, Entry, speaker_in, spoken_by, speaks, lost}
use Rattle.server_rules.specs.Speaking.{needs_salts}
use Rattle.server_rules.specs.Sending.{names_in, messages_by, padding_bytes, envelope_of, seals, sends, all_sent}
use Rattle.server_rules.specs.Answer.{is_spent, without_spent}
use Rattle.law_server_bounds.proofs.Names.{same-names, names-same}

-- ---- the messages of each name

-- those of another name
abbrev others_than : Name → List Owed → List Owed
others_than name owed = filter (λ one. not (is_same name one.name)) owed

abbrev count_of : Name → List Owed → ℕ
count_of name owed = length (filter (λ one. is_same name one.name) owed)

abbrev tally : List Name → List Owed → ℕ
tally [] owed = 0
tally (name ∷ names) owed = count_of name owed + tally names owed

divided : (name : Name) (owed : List Owed) → count_of name owed + length (others_than name owed) ≡ length owed
divided name [] = refl
divided name (one ∷ owed) =
    let rest = divided name owed in
    elim (cases_Bool (is_same name one.name)) [
      | inl is ↦ rw is (omega (arith, rest))
      | inr is ↦ rw is (omega (arith, rest))
    ]

-- those of one name are among those of other names than another
kept-apart : (name other : Name) (owed : List Owed) → is_same name other ≡ false → count_of other owed ≡ count_of other (others_than name owed)
kept-apart name other [] apart = refl
kept-apart name other (one ∷ owed) apart =
    let rest = kept-apart name other owed apart in
    elim (cases_Bool (is_same name one.name)) [
      | inl is ↦
          let off : is_same other one.name ≡ false =
          elim (cases_Bool (is_same other one.name)) [
            | inl own ↦ absurd (false≢true (sym apart ∙ names-same name other (same-names name one.name is ∙ sym (same-names other one.name own))))
            | inr fails ↦ fails
          ] in
          rw (is, off) rest
      | inr is ↦
          elim (cases_Bool (is_same other one.name)) [
            | inl own ↦ rw (is, own) (ap suc rest)
            | inr fails ↦ rw (is, fails) rest
          ]
    ]

apart-tally : (name : Name) (names : List Name) (owed : List Owed) → tally (filter (λ other. not (is_same name other)) names) owed ≤ tally names (others_than name owed)
apart-tally name [] owed = omega arith
apart-tally name (other ∷ names) owed =
    let rest = apart-tally name names owed in
    elim (cases_Bool (is_same name other)) [
      | inl is ↦ rw is (omega (arith, rest))
      | inr is ↦ let same = kept-apart name other owed is in rw is (omega (arith, rest, same))
    ]

names-tally : (first owed : List Owed) → tally (names_in first) owed ≤ length owed
names-tally [] owed = omega arith
names-tally (one ∷ first) owed =
    let rest = names-tally first (others_than one.name owed) in
    let apart = apart-tally one.name (names_in first) owed in
    let all = divided one.name owed in
    omega (arith, rest, apart, all)

-- ---- packets

-- the law on the packets of messages
abbrev pub AreFew : Type 0
AreFew = (messages : List Message) → length (groups messages) ≤ length messages

outers-length : (now : ℕ) (counters : Counters) (all : List (List Message)) → length (outers_of now counters all) ≡ length all
outers-length now counters [] = refl
outers-length now counters (group ∷ all) = let rest = outers-length now (after_outer now counters group) all in omega (arith, rest)

module _ {S : Type 0} (few : AreFew) (setting : Setting S) where
  sealed : (salt : ℕ) (packets : List Message) (x : Speaker S) → (length (fold (seals setting salt) x packets).sent ≡ length x.sent + length packets) × ((fold (seals setting salt) x packets).entries ≡ x.entries)
  sealed salt [] x = (omega arith, refl)
  sealed salt (packet ∷ packets) x =
      let rest = sealed salt packets (seals setting salt x packet) in
      let one : Sent = record { envelope = envelope_of salt x packet; padding = next_bytes setting.step (padding_bytes (length packet.body)) x.draw } in
      let longer = length_push x.sent one in
      (omega (arith, rest.0, longer), rest.1)

  sent-by : (messages : List Message) (x : Speaker S) → (length (sends setting messages x).sent ≤ length x.sent + length messages) × ((sends setting messages x).entries ≡ x.entries)
  sent-by messages x =
      let ready = needs_salts setting 1 x in
      let counters = after_packets setting.now ready.session.counters messages in
      let packets = packets_of setting.now ready.session.counters messages in
      let all = sealed (current_salt ready.session.salts setting.now) packets (record ready { session = record ready.session { counters = counters } }) in
      let each = outers-length setting.now ready.session.counters (groups messages) in
      let fewer = few messages in
      (omega (arith, all.0, each, fewer), all.1)

  one-sends : (found : Option Session) (messages : List Message) (state : State S)
      → (length (spoken_by found (sends setting messages) state).sent ≤ length state.sent + length messages) × ((spoken_by found (sends setting messages) state).entries ≡ state.entries)
  one-sends None messages state = (omega arith, refl)
  one-sends (Some session) messages state = sent-by messages (speaker_in state session)

  all-send : (owed : List Owed) (names : List Name) (state : State S)
      → (length (fold (λ so_far name. speaks name (sends setting (messages_by name owed)) so_far) state names).sent ≤ length state.sent + tally names owed)
      × ((fold (λ so_far name. speaks name (sends setting (messages_by name owed)) so_far) state names).entries ≡ state.entries)
  all-send owed [] state = (omega arith, refl)
  all-send owed (name ∷ names) state =
      let first = one-sends (session_named name state.sessions) (messages_by name owed) state in
      let rest = all-send owed names (speaks name (sends setting (messages_by name owed)) state) in
      let count = length-map (filter (λ one. is_same name one.name) owed) (λ one. one.message) in
      (omega (arith, first.0, rest.0, count), rest.1 ∙ first.1)

  pub sent-all : (state : State S) → state.sent ≡ [] → (length (all_sent setting state).sent ≤ length state.owed) × ((all_sent setting state).entries ≡ state.entries)
  sent-all state none =
      let all = all-send state.owed (names_in state.owed) state in
      let sum = names-tally state.owed state.owed in
      let empty = ap (λ (sent : List Sent). length sent) none in
      (omega (arith, all.0, sum, empty), all.1)

  spent-same : (spent : List Session) (state : State S)
      → ((fold (λ so_far session. lost (name_of session) so_far) state spent).sent ≡ state.sent) × ((fold (λ so_far session. lost (name_of session) so_far) state spent).entries ≡ state.entries)
  spent-same [] state = (refl, refl)
  spent-same (session ∷ spent) state = spent-same spent (lost (name_of session) state)

  pub end-same : (state : State S) → ((without_spent state).sent ≡ state.sent) × ((without_spent state).entries ≡ state.entries)
  end-same state = spent-same (filter is_spent state.sessions) state
