-- What is owed is sent in packets whose numbers fit, under known keys, with lawful padding.
use Rattle.std.proofs.Common.{◌≡◌, ◌≢◌, ◌∙◌, ℕ, ◌+◌, ◌*◌, ◌<◌, ◌≤◌, ◌^◌, Bool, true, false, Option, Some, None, List, [], ◌∷◌, length, ap, sym, subst, refl, arith}
use Rattle.std.specs.Prelude.{fold, not, ⊤}
use Rattle.std.specs.List.{AllByRecursion, filter, flat_map}
use Rattle.std.proofs.lemmas.Bool.{cond_both, false≢true}
use Rattle.std.proofs.lemmas.List.{length-append}
use Rattle.draws.specs.Draws.{next_bytes}
use Rattle.msg_ids.specs.Moments.{latest_moment}
use Rattle.msg_ids.specs.Counters.{Counters, HasNext, after_next, room}
use Rattle.service_tl.specs.declared.lists.Message.{Message}
use Rattle.salt_line.specs.Line.{current_salt}
use Rattle.envelope.specs.Packet.{IsPadding, least_padding}
use Rattle.packing.specs.Packing.{IsPacket, after_packets, groups, outers_of, packets_of}
use Rattle.server_rules.specs.Server.{Name, Session, is_named, is_same, name_of, session_named, with_session}
use Rattle.server_rules.specs.Event.{Owed, Sent, Setting, State, Speaker, speaker_in, spoken_by, speaks}
use Rattle.server_rules.specs.Speaking.{needs_salts}
use Rattle.server_rules.specs.Sending.{all_sent, envelope_of, messages_by, names_in, padding_bytes, seals, sends}
use Rattle.law_server_bounds.specs.Steady.{IsKnown}
use Rattle.law_server_bounds.proofs.Counts.{FallsByOne}
use Rattle.law_server_bounds.proofs.Lists.{all-split, rec-append, rec-filter}
use Rattle.law_server_bounds.proofs.Names.{found-named, names-same}
use Rattle.law_server_bounds.proofs.Owing.{Speak}

-- ---- numbers

-- the law on room
abbrev pub HasNumbers : Type 0
HasNumbers = (counters : Counters) (now : ℕ) → now ≤ latest_moment → 0 < room counters → HasNext counters now

-- its number and its seq fit their places
abbrev pub IsFit : Message → Type 0
IsFit message = (message.number < 2 ^ 64) × (message.seq < 2 ^ 32)

-- how many messages there are in groups
abbrev all_in : List (List Message) → ℕ
all_in [] = 0
all_in (group ∷ all) = length group + all_in all

all_in-length : (all : List (List Message)) → length (flat_map (λ (group : List Message). group) all) ≡ all_in all
all_in-length [] = refl
all_in-length (group ∷ all) =
    let rest = all_in-length all in
    let both = length-append group (flat_map (λ (group : List Message). group) all) in
    omega (arith, rest, both)

-- the laws on the packets of messages
abbrev pub HaveAll : Type 0
HaveAll = (messages : List Message) → flat_map (λ (group : List Message). group) (groups messages) ≡ messages

abbrev pub ArePackets : Type 0
ArePackets = (messages : List Message) → AllByRecursion IsPacket (groups messages)

module _ (falls : FallsByOne) (has : HasNumbers) where
  outers-fit : (now : ℕ) → now ≤ latest_moment → (counters : Counters) (all : List (List Message)) → AllByRecursion IsPacket all
      → AllByRecursion (λ (group : List Message). AllByRecursion IsFit group) all → all_in all + 2 ≤ 2 * room counters → AllByRecursion IsFit (outers_of now counters all)
  outers-fit now timely counters [] packets fit enough = tt
  outers-fit now timely counters ([] ∷ all) packets fit enough = absurd packets.0
  outers-fit now timely counters ((message ∷ []) ∷ all) packets fit enough =
      (fit.0.0, outers-fit now timely counters all packets.1 fit.1 (omega (arith, enough)))
  outers-fit now timely counters ((first ∷ (second ∷ group)) ∷ all) packets fit enough =
      let next = has counters now timely (omega (arith, enough)) in
      let number = next.0 in
      let content = next.1 in
      let fewer = falls counters now false timely in (
        (omega (arith, number), omega (arith, content)),
        outers-fit now timely (after_next counters now false) all packets.1 fit.1 (omega (arith, enough, fewer)),
      )

  packets-fit : HaveAll → ArePackets → (now : ℕ) → now ≤ latest_moment → (counters : Counters) (messages : List Message) → AllByRecursion IsFit messages
      → length messages + 2 ≤ 2 * room counters → AllByRecursion IsFit (packets_of now counters messages)
  packets-fit have packets now timely counters messages fit enough =
      let Fit : List Message → Type 0 = λ messages. AllByRecursion IsFit messages in
      let same = all_in-length (groups messages) in
      let whole = ap (λ (messages : List Message). length messages) (have messages) in
      outers-fit now timely counters (groups messages) (packets messages) (all-split IsFit (groups messages) (subst Fit (sym (have messages)) fit)) (omega (arith, same, whole, enough))

-- ---- names

-- each of them once
abbrev pub AreApart : List Name → Type 0
AreApart [] = ⊤
AreApart (name ∷ names) = AllByRecursion (λ other. other ≢ name) names × AreApart names

others-apart : (name : Name) (names : List Name) → AllByRecursion (λ other. other ≢ name) (filter (λ other. not (is_same name other)) names)
others-apart name [] = tt
others-apart name (first ∷ names) =
    let rest = others-apart name names in
    cond_both (not (is_same name first)) (first ∷ filter (λ other. not (is_same name other)) names) (filter (λ other. not (is_same name other)) names)
    (λ (left : List Name). AllByRecursion (λ other. other ≢ name) left)
    (λ is. ((λ same. false≢true (ap not (sym (names-same name first (sym same))) ∙ is)), rest)) (λ is. rest)

filter-apart : (test : Name → Bool) (names : List Name) → AreApart names → AreApart (filter test names)
filter-apart test [] apart = tt
filter-apart test (name ∷ names) apart =
    let rest = filter-apart test names apart.1 in
    cond_both (test name) (name ∷ filter test names) (filter test names) AreApart
    (λ is. (rec-filter (λ other. other ≢ name) test names apart.0, rest)) (λ is. rest)

pub names-apart : (owed : List Owed) → AreApart (names_in owed)
names-apart [] = tt
names-apart (one ∷ owed) =
    (others-apart one.name (names_in owed), filter-apart (λ other. not (is_same one.name other)) (names_in owed) (names-apart owed))

-- ---- packets

-- a packet that may be sealed, its body aside
pub record IsNumbered (known : ℕ → Bool) (sent : Sent) : Type 0 where
  pub number : sent.envelope.number < 2 ^ 64
  pub seq : sent.envelope.seq < 2 ^ 32
  pub key : known sent.envelope.key ≡ true
  pub padded : IsPadding (length sent.envelope.body) sent.padding

-- the law on the padding that is drawn
abbrev pub ArePadded : Type 0 → Type 0
ArePadded S = (step : S → ℕ × S) (body : ℕ) (draw : S) → IsPadding body (next_bytes step (least_padding body) draw)

-- a session of this name can send what is owed to it
abbrev pub CanSend : (ℕ → Bool) → List Owed → Name → Option Session → Type 0
CanSend known owed name None = ⊤
CanSend known owed name (Some session) =
    (known session.key ≡ true) × AllByRecursion IsFit (messages_by name owed) × (length (messages_by name owed) + 2 ≤ 2 * room session.counters)

module _ {S : Type 0} (laws : Speak S) (falls : FallsByOne) (has : HasNumbers) (have : HaveAll) (packets : ArePackets) (padded : ArePadded S) (setting : Setting S) (timely : setting.now ≤ latest_moment) (known : ℕ → Bool) where
  sealed : (salt : ℕ) (outers : List Message) (x : Speaker S) → known x.session.key ≡ true → AllByRecursion IsFit outers → AllByRecursion (IsNumbered known) x.sent
      → AllByRecursion (IsNumbered known) (fold (seals setting salt) x outers).sent
  sealed salt [] x key fit all = all
  sealed salt (outer ∷ outers) x key fit all =
      let one : Sent = record { envelope = envelope_of salt x outer; padding = next_bytes setting.step (padding_bytes (length outer.body)) x.draw } in
      sealed salt outers (seals setting salt x outer) key fit.1
      (rec-append (IsNumbered known) x.sent (one ∷ []) all
      (record { number = fit.0.0; seq = fit.0.1; key = key; padded = padded setting.step (length outer.body) x.draw }, tt))

  sealed-same : (salt : ℕ) (outers : List Message) (x : Speaker S) → ((fold (seals setting salt) x outers).session ≡ x.session) × ((fold (seals setting salt) x outers).jobs ≡ x.jobs)
  sealed-same salt [] x = (refl, refl)
  sealed-same salt (outer ∷ outers) x = sealed-same salt outers (seals setting salt x outer)

  -- what a session keeps, and its jobs
  record Sends (x after : Speaker S) : Type 0 where
    all : AllByRecursion (IsNumbered known) after.sent
    named : name_of after.session ≡ name_of x.session
    jobs : after.jobs ≡ x.jobs

  sends-so : (messages : List Message) (x : Speaker S) → known x.session.key ≡ true → AllByRecursion IsFit messages → length messages + 2 ≤ 2 * room x.session.counters
      → AllByRecursion (IsNumbered known) x.sent → Sends x (sends setting messages x)
  sends-so messages x key fit enough all =
      let ready = needs_salts setting 1 x in
      let counters = after_packets setting.now ready.session.counters messages in
      let outers = packets_of setting.now ready.session.counters messages in
      let now : Speaker S = record ready { session = record ready.session { counters = counters } } in
      let salt = current_salt ready.session.salts setting.now in
      let same = sealed-same salt outers now in
      record {
        all = sealed salt outers now key (packets-fit falls has have packets setting.now timely x.session.counters messages fit enough) all;
        named = ap name_of same.0;
        jobs = same.1;
      }

  -- ---- all of them

  -- what the sending leaves
  pub record Left (before after : State S) : Type 0 where
    pub all : AllByRecursion (IsNumbered known) after.sent
    pub keys : AllByRecursion (IsKnown known) after.sessions
    pub jobs : after.jobs ≡ before.jobs

  key-of : (one other : Session) → name_of one ≡ name_of other → known other.key ≡ true → known one.key ≡ true
  key-of one other same key = let K : Name → Type 0 = λ name. known name.key ≡ true in subst K (sym same) key

  replaced : (session : Session) (sessions : List Session) → IsKnown known session → AllByRecursion (IsKnown known) sessions → AllByRecursion (IsKnown known) (with_session session sessions)
  replaced session [] is all = tt
  replaced session (other ∷ sessions) is all =
      (cond_both (is_named (name_of session) other) session other (IsKnown known) (λ same. is) (λ apart. all.0), replaced session sessions is all.1)

  others-can : (owed : List Owed) (before after : List Session) (name : Name) (names : List Name) → AllByRecursion (λ other. other ≢ name) names
      → ((other : Name) → other ≢ name → session_named other after ≡ session_named other before)
      → AllByRecursion (λ other. CanSend known owed other (session_named other before)) names → AllByRecursion (λ other. CanSend known owed other (session_named other after)) names
  others-can owed before after name [] apart same can = tt
  others-can owed before after name (other ∷ names) apart same can =
      let C : Option Session → Type 0 = λ found. CanSend known owed other found in
      (subst C (sym (same other apart.0)) can.0, others-can owed before after name names apart.1 same can.1)

  abbrev AllCan : List Owed → List Name → State S → Type 0
  AllCan owed names state = AllByRecursion (λ name. CanSend known owed name (session_named name state.sessions)) names

  -- one of them, and that the others can do so still
  one-sends : (owed : List Owed) (name : Name) (names : List Name) (found : Option Session) (state : State S) → session_named name state.sessions ≡ found
      → AllByRecursion (λ other. other ≢ name) names → CanSend known owed name found → AllCan owed names state
      → AllByRecursion (IsNumbered known) state.sent → AllByRecursion (IsKnown known) state.sessions
      → Left state (spoken_by found (sends setting (messages_by name owed)) state) × AllCan owed names (spoken_by found (sends setting (messages_by name owed)) state)
  one-sends owed name names None state is apart can others all keys = (record { all = all; keys = keys; jobs = refl }, others)
  one-sends owed name names (Some session) state is apart can others all keys =
      let x = speaker_in state session in
      let speak = sends setting (messages_by name owed) in
      let after = sends-so (messages_by name owed) x can.0 can.1 can.2 all in
      let named = found-named name state.sessions session is in
      let same : (other : Name) → other ≢ name → session_named other (spoken_by (Some session) speak state).sessions ≡ session_named other state.sessions =
      λ other off.
      let Q : Option Session → Type 0 = λ found. session_named other (spoken_by found speak state).sessions ≡ session_named other state.sessions in
      subst Q is (laws.others name other speak state session is (after.named ∙ named) off) in (
        record { all = after.all; keys = replaced (speak x).session state.sessions (key-of (speak x).session session after.named can.0) keys; jobs = after.jobs },
        others-can owed state.sessions (spoken_by (Some session) speak state).sessions name names apart same others,
      )

  all-send : (owed : List Owed) (names : List Name) (state : State S) → AreApart names → AllCan owed names state
      → AllByRecursion (IsNumbered known) state.sent → AllByRecursion (IsKnown known) state.sessions
      → Left state (fold (λ so_far name. speaks name (sends setting (messages_by name owed)) so_far) state names)
  all-send owed [] state apart can all keys = record { all = all; keys = keys; jobs = refl }
  all-send owed (name ∷ names) state apart can all keys =
      let next = speaks name (sends setting (messages_by name owed)) state in
      let one = one-sends owed name names (session_named name state.sessions) state refl apart.0 can.0 can.1 all keys in
      let done = one.0 in
      let rest = all-send owed names next apart.1 one.1 done.all done.keys in
      record { all = rest.all; keys = rest.keys; jobs = rest.jobs ∙ done.jobs }

  pub all-sent : (state : State S) → ((name : Name) → CanSend known state.owed name (session_named name state.sessions)) → AllByRecursion (IsNumbered known) state.sent
      → AllByRecursion (IsKnown known) state.sessions → Left state (all_sent setting state)
  all-sent state can all keys =
      all-send state.owed (names_in state.owed) state (names-apart state.owed) (each (names_in state.owed)) all keys
    where
      each : (names : List Name) → AllByRecursion (λ name. CanSend known state.owed name (session_named name state.sessions)) names
      each [] = tt
      each (name ∷ names) = (can name, each names)
