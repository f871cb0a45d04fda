-- One step of what goes out in a tick: a session sends what it owes.
use Rattle.std.proofs.Common.{◌≡◌, ◌≢◌, ◌∙◌, ℕ, zero, suc, ◌<◌, true, false, not, Option, List, [], ◌∷◌, length, map, get_or, set, ap, sym, subst, refl, arith, inl, inr, one-add}
use Rattle.std.specs.Prelude.{◌==◌, fold, IsSome}
use Rattle.std.specs.List.{All, AllPairs, filter, position_or_len}
use Rattle.std.proofs.lemmas.Bool.{cases_Bool, eqb-true, eq-eqb, false≢true}
use Rattle.std.proofs.Math.Seq.{map-set_same}
use Rattle.std.proofs.lemmas.List.{get_or_default, get_or-map, get_or-set_same, get_or-set_other, length-map, length-set}
use Rattle.std.proofs.lemmas.List.Elements.{All-cons, All-nil, All-tail}
use Rattle.auth_keys.specs.declared.ring.RingKey.{RingKey}
use Rattle.envelope.specs.Packet.{Lock}
use Rattle.server_output.specs.declared.outs.Out.{Out}
use Rattle.server_output.specs.Outs.{AreSent}
use Rattle.service_tl.specs.declared.lists.Message.{Message}
use Rattle.salt_line.specs.Line.{current_salt}
use Rattle.packing.specs.Packing.{packets_of, after_packets}
use Rattle.server_rules.specs.Server.{Name, Session, is_same, name_of, with_session}
use Rattle.server_rules.specs.Event.{Owed, Setting, Speaker, State, speaker_in, speaks, spoken, spoken_by}
use Rattle.server_rules.specs.Speaking.{needs_salts}
use Rattle.server_rules.specs.Sending.{messages_by, names_in, seals, sends}
use Rattle.server_session.specs.declared.session.SessionState.{SessionState}
use Rattle.server_session.specs.SessionState.{Stands}
use Rattle.server_session.specs.Names.{name_kept}
use Rattle.server_session.specs.Says.{Says}
use Rattle.server_core.specs.declared.tick_turns.TickTurn.{TickTurn}
use Rattle.server_core.specs.Answering.{name_at, no_name}
use Rattle.server_core.specs.Outgoing.{IsSending, sent_by}
use Rattle.server_core.specs.Sessions.{AreApart, AreKept, HaveOtherNames, is_kept_as}
use Rattle.server_core.proofs.Attached.{sends-rest}
use Rattle.server_core.proofs.Lists.{pairs-cons, pairs-head, pairs-nil, pairs-tail}
use Rattle.server_core.proofs.Names.{apart-names, found-named, names-same}
use Rattle.server_core.proofs.One.{sends-name}
use Rattle.server_core.proofs.Pairs.{pairs-filter}
use Rattle.server_core.proofs.Places.{names-set, one-of}
use Rattle.server_core.proofs.Speaking.{found-at, kept-set}
use Rattle.server_core.proofs.SessionState.{HasItsName}
use Rattle.server_core.proofs.TickSteps.{map-same}

-- ---- each name comes once

filter-apart : (name : Name) (names : List Name) → All (λ other. name ≢ other) (filter (λ other. not (is_same name other)) names)
filter-apart name [] = All-nil (λ (other : Name). name ≢ other)
filter-apart name (first ∷ names) =
    let P : Name → Type 0 = λ other. name ≢ other in
    let rest = filter-apart name names in
    elim (cases_Bool (is_same name first)) [
      | inl same ↦ rw same rest
      | inr not_so ↦ rw not_so (All-cons P first (filter (λ other. not (is_same name other)) names) (λ same. false≢true (sym not_so ∙ names-same name first same)) rest)
    ]

pub names-apart : (owed : List Owed) → AllPairs (λ (one other : Name). one ≢ other) (names_in owed)
names-apart [] = pairs-nil (λ (one other : Name). one ≢ other)
names-apart (one ∷ owed) =
    let R : Name → Name → Type 0 = λ one other. one ≢ other in
    pairs-cons R one.name (filter (λ other. not (is_same one.name other)) (names_in owed)) (filter-apart one.name (names_in owed))
    (pairs-filter R (λ other. not (is_same one.name other)) (names_in owed) (names-apart owed))

pub places-apart : (f : ℕ → Name) (places : List ℕ) (names : List Name) → map f places ≡ names → AllPairs (λ (one other : Name). one ≢ other) names
    → AllPairs (λ (one other : ℕ). f one ≢ f other) places
places-apart f places names are apart = λ i j d lt within.
    let long : length (map f places) ≡ length places = length-map places f in
    let R : List Name → Type 0 = λ names. AllPairs (λ (one other : Name). one ≢ other) names in
    let all = subst R (sym are) apart in
    let first = get_or-map f places i d (f d) (omega (arith, lt, within)) in
    let next = get_or-map f places j d (f d) within in
    λ same. all i j (f d) lt (omega (arith, within, long)) (first ∙ (same ∙ sym next))

-- ---- what sending leaves alone

seals-owed : {S : Type 0} (setting : Setting S) (salt : ℕ) (messages : List Message) (speaker : Speaker S) → (fold (seals setting salt) speaker messages).owed ≡ speaker.owed
seals-owed setting salt [] speaker = refl
seals-owed setting salt (message ∷ messages) speaker = seals-owed setting salt messages (seals setting salt speaker message)

sends-owed : {S : Type 0} (setting : Setting S) (messages : List Message) (speaker : Speaker S) → (sends setting messages speaker).owed ≡ speaker.owed
sends-owed setting messages speaker =
    let ready = needs_salts setting 1 speaker in
    let counters = after_packets setting.now ready.session.counters messages in
    seals-owed setting (current_salt ready.session.salts setting.now) (packets_of setting.now ready.session.counters messages)
    (record ready { session = record ready.session { counters = counters } })

-- ---- the session at a place is the first of its name

pub place-first : (standings : List SessionState) (place : ℕ) (d : SessionState) → AreApart standings → place < length standings
    → position_or_len (is_kept_as (name_kept (get_or standings place d))) standings ≡ place
place-first [] place d apart within = absurd (omega arith)
place-first (first ∷ standings) zero d apart within =
    let is : is_kept_as (name_kept first) first ≡ true = names-same (name_kept first) (name_kept first) refl in
    rw is refl
place-first (first ∷ standings) (suc place) d apart within =
    let name = name_kept (get_or standings place d) in
    let others = pairs-head HaveOtherNames first standings apart in
    let off : is_kept_as name first ≡ false = apart-names name (name_kept first) (λ same. others place d (omega (arith, within)) (sym same)) in
    let rest = place-first standings place d (pairs-tail HaveOtherNames first standings apart) (omega (arith, within)) in
    rw (off, one-add) (ap suc rest)

-- ---- the step

pub send-step : {S : Type 0} → HasItsName → (lock : Lock) (ring : List RingKey) (setting : Setting S) (standings : List SessionState) (voices : List TickTurn) (place : ℕ) (later : List ℕ)
    (draw : S) (outs : List Out) (start : State S) → IsSending lock ring setting standings voices (place ∷ later) draw outs start → AreApart standings
    → length voices ≡ length standings → place < length standings
    → (after : SessionState) (voice : TickTurn) (next : S) (more : List Out)
    → ((e : TickTurn) → voice.turn.owing.messages ≡ (get_or voices place e).turn.owing.messages)
    → ((d : SessionState) (e : TickTurn) (speaker : Speaker S) → Says setting.now (get_or standings place d) (get_or voices place e).turn.owing draw speaker
    → Stands setting.now after (sends setting (get_or voices place e).turn.owing.messages speaker).session)
    → ((d : SessionState) (e : TickTurn) (speaker : Speaker S) → Says setting.now (get_or standings place d) (get_or voices place e).turn.owing draw speaker
    → next ≡ (sends setting (get_or voices place e).turn.owing.messages speaker).draw)
    → ((d : SessionState) (e : TickTurn) (speaker : Speaker S) → Says setting.now (get_or standings place d) (get_or voices place e).turn.owing draw speaker
    → AreSent lock ring speaker.sent outs → AreSent lock ring (sends setting (get_or voices place e).turn.owing.messages speaker).sent more)
    → IsSending lock ring setting (set standings place after) (set voices place voice) later next more start
send-step {S} names lock ring setting standings voices place later draw outs start going apart long within after voice next more same_owing stands drawn sent =
    let now = setting.now in
    let d = one-of standings place within in
    let name = name_kept (get_or standings place d) in
    let at : position_or_len (is_kept_as name) standings ≡ place = place-first standings place d apart within in
    let first_within : position_or_len (is_kept_as name) standings < length standings = omega (arith, at, within) in
    let so_far : State S = going.so_far in
    let there = found-at names now name standings so_far.sessions d going.kept first_within in
    let session = there.session in
    let of_name : name_of session ≡ name = found-named name so_far.sessions session there.found in
    let stood : Stands now (get_or standings place d) session = subst (λ (n : ℕ). Stands now (get_or standings n d) session) at there.stands in
    let messages = (get_or voices place voice).turn.owing.messages in
    let speaker : Speaker S = speaker_in so_far session in
    let done : Speaker S = sends setting messages speaker in
    let says : Says now (get_or standings place d) (get_or voices place voice).turn.owing draw speaker = record {
      stands = stood;
      owed = going.owed place d voice within ∙ (ap (λ (name : Name). messages_by name start.owed) (sym of_name) ∙ ap (messages_by (name_of session)) (sym going.same_owed));
      draws = going.draws;
    } in
    let stands_now : Stands now after done.session = stands d voice speaker says in
    let done_name : name_of done.session ≡ name = sends-name setting messages speaker ∙ of_name in
    let after_name : name_kept after ≡ name = names now after done.session stands_now ∙ done_name in
    let any : (d' : SessionState) → name_kept (get_or standings place d') ≡ name = λ d'. ap name_kept (get_or_default standings place d' d within) in
    let named_at : (i : ℕ) (d' : SessionState) → name_kept (get_or (set standings place after) i d') ≡ name_kept (get_or standings i d') = λ i d'.
    names-set standings place after i d' within (after_name ∙ sym (any d')) in
    let rest = sends-rest setting messages speaker in
    let within_voices : place < length voices = omega (arith, long, within) in
    let owing_at : (i : ℕ) (e : TickTurn) → (get_or (set voices place voice) i e).turn.owing.messages ≡ (get_or voices i e).turn.owing.messages = λ i e.
    elim (cases_Bool (i == place)) [
      | inl same ↦
          let is : i ≡ place = eqb-true i place same in
          ap (λ (voice : TickTurn). voice.turn.owing.messages) (ap (λ (n : ℕ). get_or (set voices place voice) n e) is ∙ get_or-set_same voices place voice e within_voices)
          ∙ (same_owing e ∙ ap (λ (n : ℕ). (get_or voices n e).turn.owing.messages) (sym is))
      | inr off ↦
          ap (λ (voice : TickTurn). voice.turn.owing.messages) (get_or-set_other voices place i voice e (λ same. false≢true (sym off ∙ eq-eqb i place same)))
    ] in
    let f : ℕ → Name = name_at standings in
    let g : ℕ → Name = name_at (set standings place after) in
    let names_same : map name_kept (set standings place after) ≡ map name_kept standings = map-set_same name_kept standings place after d (after_name ∙ sym (any d)) in
    let same_at : (n : ℕ) → g n ≡ f n = λ n. ap (λ (some : List Name). get_or some n no_name) names_same in
    let here_at : f place ≡ name = get_or-map name_kept standings place d no_name within in
    let step : speaks name (sends setting (messages_by name start.owed)) so_far ≡ spoken so_far done =
    ap (λ (found : Option Session). spoken_by found (sends setting (messages_by name start.owed)) so_far) there.found
    ∙ ap (λ (messages : List Message). spoken so_far (sends setting messages speaker)) (sym (going.owed place d voice within)) in
    let inside : (i : ℕ) → i < length (set standings place after) → i < length standings = λ i lt.
    let still : length (set standings place after) ≡ length standings = length-set standings place after in omega (arith, lt, still) in
    record {
      so_far = spoken so_far done;
      kept = subst (λ (n : ℕ). AreKept now (set standings n after) (with_session done.session so_far.sessions)) at
          (kept-set names now name standings so_far.sessions after done.session going.kept apart first_within stands_now done_name);
      jobs = rest.jobs ∙ going.jobs;
      bindings = rest.bindings ∙ going.bindings;
      entries = rest.entries ∙ going.entries;
      same_owed = sends-owed setting messages speaker ∙ going.same_owed;
      draws = drawn d voice speaker says;
      sent = sent d voice speaker says going.sent;
      owed = λ i d' e lt. owing_at i e ∙ (going.owed i d' e (inside i lt) ∙ ap (λ (name : Name). messages_by name start.owed) (sym (named_at i d')));
      packets = λ e.
          let P : ℕ → Type 0 = λ n. IsSome (get_or voices n e).packets in
          let some = All-tail P place later (going.packets e) in
          let apart_first = pairs-head (λ (one other : ℕ). f one ≢ f other) place later going.apart in
          λ k n0 lt.
          let n = get_or later k n0 in
          let differ : n ≢ place = λ same. apart_first k n0 lt (ap f (sym same)) in
          subst (λ (voice : TickTurn). IsSome voice.packets) (sym (get_or-set_other voices place n voice e differ)) (some k n0 lt);
      apart = λ i j n0 lt within same.
          pairs-tail (λ (one other : ℕ). f one ≢ f other) place later going.apart i j n0 lt within
          (sym (same_at (get_or later i n0)) ∙ (same ∙ same_at (get_or later j n0)));
      same =
          ap (λ (names : List Name). sent_by setting start.owed names (spoken so_far done)) (map-same g f same_at later)
          ∙ (ap (λ (state : State S). sent_by setting start.owed (map f later) state) (sym step)
          ∙ (ap (λ (first : Name). sent_by setting start.owed (map f later) (speaks first (sends setting (messages_by first start.owed)) so_far)) (sym here_at)
          ∙ going.same));
    }
