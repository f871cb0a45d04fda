-- A tick as it begins, as its answers go out, and as it ends.
use Rattle.std.proofs.Common.{◌≡◌, ◌∙◌, ℕ, suc, ◌<◌, ◌≤◌, ◌*◌, Bool, true, false, not, List, [], ◌∷◌, length, map, get_or, ap, sym, subst, refl, arith}
use Rattle.std.specs.Prelude.{◌||◌, fold, IfSome, sum_by}
use Rattle.std.specs.List.{All, filter}
use Rattle.std.proofs.lemmas.List.{get_or-map, length-map}
use Rattle.std.proofs.lemmas.List.Elements.{All-cons, All-filter, All-nil, All-weaker}
use Rattle.std.proofs.lemmas.List.Sums.{sum_by-cons}
use Rattle.auth_keys.specs.declared.ring.RingKey.{RingKey}
use Rattle.envelope.specs.Packet.{Lock}
use Rattle.server_output.specs.Batch.{packets_most}
use Rattle.server_output.specs.Dues.{Dues}
use Rattle.server_output.specs.declared.outs.Out.{Out}
use Rattle.server_output.specs.Outs.{AreSent}
use Rattle.waits.specs.Jobs.{Queue, one_if}
use Rattle.server_rules.specs.Server.{Binding, Name, Server as Rules, Session, is_same, name_of}
use Rattle.server_rules.specs.Event.{Entry, Owed, Sent, Setting, State, lost}
use Rattle.server_rules.specs.Sending.{names_in}
use Rattle.server_rules.specs.Answer.{begun, is_spent, room_min, without_spent}
use Rattle.law_server.specs.Order.{AreOrdered}
use Rattle.server_session.specs.declared.session.SessionState.{SessionState}
use Rattle.server_session.specs.SessionState.{Stands, numbers_left, replies_left}
use Rattle.server_session.specs.Names.{name_kept}
use Rattle.server_session.specs.Rooms.{with_replies_left}
use Rattle.server_core.specs.declared.tick_turns.TickTurn.{TickTurn}
use Rattle.server_core.specs.Answering.{AreVoices, IsInTick, IsVoice, answers_left, name_at, no_name, silent}
use Rattle.server_core.specs.Losing.{IsHere}
use Rattle.server_core.specs.Outgoing.{CanSend, IsSending, sent_by}
use Rattle.server_core.specs.Reserving.{AreFresh, AreReserved, IsFresh, IsReserved}
use Rattle.server_core.specs.Server.{CanSpeak}
use Rattle.server_core.specs.Sessions.{AreKept}
use Rattle.server_core.specs.Ticking.{has_spoken}
use Rattle.server_core.proofs.Names.{names-same}
use Rattle.server_core.proofs.Places.{StaysAt, one-of}
use Rattle.server_core.proofs.Rooms.{stands-with}
use Rattle.server_core.proofs.SendSteps.{names-apart, places-apart}

-- ---- room that was reserved

-- what holds of a session with any room for answers, and of it as it was before
reserved-one : (P : SessionState → Type 0) → ((room : ℕ) (standing : SessionState) → P standing → P (with_replies_left room standing)) → (most : ℕ) (before after : SessionState)
    → IsReserved most before after → P before → P after
reserved-one P stays most before after is holds = subst P (sym is.same) (stays is.room before holds)

some-voice : (voices : List TickTurn) (n : ℕ) → n < length voices → TickTurn
some-voice [] n within = absurd (omega arith)
some-voice (voice ∷ voices) n within = voice

pub reserved-all : (P : SessionState → Type 0) → ((room : ℕ) (standing : SessionState) → P standing → P (with_replies_left room standing)) → (before : List SessionState) (voices : List TickTurn)
    (after : List SessionState) → length voices ≡ length before → AreReserved 0 before voices after → All P before → All P after
reserved-all P stays before voices after same are all = λ i d lt.
    let long = are.long in
    let e = some-voice voices i (omega arith) in
    reserved-one P stays (get_or voices i e).left (get_or before i d) (get_or after i d) (are.each i d e (omega arith) (omega arith)) (all i d (omega arith))

-- those that can send are there
pub can-here : (ring : List RingKey) (now : ℕ) (standings : List SessionState) (voices : List TickTurn) → CanSend ring now standings voices → All (IsHere ring now) standings
can-here ring now standings voices can = λ i d lt.
    let long = can.long in
    let its = can.each i d (some-voice voices i (omega arith)) lt in
    record { key = its.key; at = its.at }

pub speaking-here : StaysAt → (ring : List RingKey) (moment now : ℕ) (standings : List SessionState) → moment ≤ now → All (CanSpeak ring moment) standings → All (IsHere ring now) standings
speaking-here stay ring moment now standings lt all =
    All-weaker (CanSpeak ring moment) (IsHere ring now) (λ standing can. record { key = can.key; at = stay moment now standing lt can.at }) standings all

pub here-speaking : (ring : List RingKey) (now : ℕ) (standings : List SessionState) → All (IsHere ring now) standings → All (λ standing. room_min ≤ numbers_left standing) standings
    → All (CanSpeak ring now) standings
here-speaking ring now standings here left = λ i d lt.
    let its : IsHere ring now (get_or standings i d) = here i d lt in
    record { key = its.key; numbers = left i d lt; at = its.at }

reserved-tail : (standing first : SessionState) (before after : List SessionState) (voice : TickTurn) (voices : List TickTurn) → AreReserved 0 (standing ∷ before) (voice ∷ voices) (first ∷ after)
    → AreReserved 0 before voices after
reserved-tail standing first before after voice voices are =
    let long = are.long in
    record {
      long = omega arith;
      front = λ i d lt. absurd (omega arith);
      each = λ i d e from lt. are.each (suc i) d e (omega arith) (omega arith);
    }

pub reserved-kept : (now : ℕ) (before : List SessionState) (voices : List TickTurn) (after : List SessionState) (sessions : List Session) → length voices ≡ length before
    → AreReserved 0 before voices after → AreKept now before sessions → AreKept now after sessions
reserved-kept now [] voices [] sessions same are kept = kept
reserved-kept now [] voices (first ∷ after) sessions same are kept = absurd (let long = are.long in omega arith)
reserved-kept now (standing ∷ before) voices [] sessions same are kept = absurd (let long = are.long in omega arith)
reserved-kept now (standing ∷ before) [] (first ∷ after) sessions same are kept = absurd (omega arith)
reserved-kept now (standing ∷ before) (voice ∷ voices) (first ∷ after) [] same are kept = kept
reserved-kept now (standing ∷ before) (voice ∷ voices) (first ∷ after) (session ∷ sessions) same are kept =
    let one = are.each 0 standing voice (omega arith) (omega arith) in (
      subst (λ (standing : SessionState). Stands now standing session) (sym one.same) (stands-with one.room now standing session kept.0),
      reserved-kept now before voices after sessions (omega arith) (reserved-tail standing first before after voice voices are) kept.1,
    )

reserved-name : (most : ℕ) (before after : SessionState) → IsReserved most before after → name_kept after ≡ name_kept before
reserved-name most before after is = ap name_kept is.same

pub here-with : (ring : List RingKey) (now room : ℕ) (standing : SessionState) → IsHere ring now standing → IsHere ring now (with_replies_left room standing)
here-with ring now room standing is = record { key = is.key; at = is.at }

-- ---- the tick begins

fresh-voice : (standing after : SessionState) (voice : TickTurn) → IsFresh voice.left voice → voice.left ≤ 4096 → IsReserved voice.left standing after → room_min ≤ numbers_left standing
    → IsVoice after voice
fresh-voice standing after voice fresh few is numbers =
    let places : voice.turn.owing.places ≡ voice.left = ap (λ (dues : Dues). dues.places) fresh.owing in
    let bytes : voice.turn.owing.room ≡ voice.left * 48 = ap (λ (dues : Dues). dues.room) fresh.owing in
    let places_taken : voice.turn.owing.places_taken ≡ voice.left = ap (λ (dues : Dues). dues.places_taken) fresh.owing in
    let bytes_taken : voice.turn.owing.bytes_taken ≡ voice.left * 48 = ap (λ (dues : Dues). dues.bytes_taken) fresh.owing in
    let room : replies_left after ≡ is.room = ap replies_left is.same in
    let left : numbers_left after ≡ numbers_left standing = ap numbers_left is.same in
    let enough = is.enough in
    let quiet : one_if voice.spoke ≡ 0 = ap one_if fresh.spoke in
    record {
      places = omega arith;
      bytes = omega arith;
      replies = omega arith;
      numbers = omega arith;
      some = λ some. fresh.some (omega arith);
      packets =
          subst (λ (taken : ℕ). IfSome voice.packets (λ packets. packets ≡ record { messages = taken; bytes = voice.turn.owing.bytes_taken })) (sym places_taken)
          (subst (λ (taken : ℕ). IfSome voice.packets (λ packets. packets ≡ record { messages = voice.left; bytes = taken })) (sym bytes_taken) fresh.packets);
      few =
          subst (λ (taken : ℕ). packets_most taken voice.turn.owing.bytes_taken ≤ 5) (sym places_taken)
          (subst (λ (taken : ℕ). packets_most voice.left taken ≤ 5) (sym bytes_taken) fresh.few);
    }

-- so many voices, and none has spoken
all-silent : (voices : List TickTurn) → ((i : ℕ) (e : TickTurn) → i < length voices → (get_or voices i e).spoke ≡ false) → sum_by silent voices ≡ length voices
all-silent [] quiet = refl
all-silent (voice ∷ voices) quiet =
    let first : silent voice ≡ 1 = ap (λ (b : Bool). one_if (not b)) (quiet 0 voice (omega arith)) in
    let rest = all-silent voices (λ i e lt. quiet (suc i) e (omega arith)) in
    let sum = sum_by-cons silent voice voices in
    omega arith

pub tick-room : (now : ℕ) (jobs : Queue) (ring : List RingKey) (moment : ℕ) (standings after : List SessionState) (voices : List TickTurn) (room : ℕ) → AreFresh now jobs standings voices
    → AreReserved 0 standings voices after → All (CanSpeak ring moment) standings → sum_by (λ voice. voice.left) voices ≡ room → AreVoices after voices [] room
tick-room now jobs ring moment standings after voices room fresh are can sums =
    let long = fresh.long in
    let still = are.long in
    let quiet = all-silent voices (λ i e lt. (fresh.each i e lt).spoke) in
    record {
      long = fresh.long ∙ sym are.long;
      each = λ i d e lt.
          let its : CanSpeak ring moment (get_or standings i d) = can i d (omega arith) in
          fresh-voice (get_or standings i d) (get_or after i d) (get_or voices i e) (fresh.each i e (omega arith)) (fresh.few i e (omega arith))
          (are.each i d e (omega arith) (omega arith)) its.numbers;
      within = All-nil (λ (place : ℕ). place < length after);
      entries = omega arith;
      silent = omega arith;
    }

pub tick-starts : {S : Type 0} (now : ℕ) (standings after : List SessionState) (voices : List TickTurn) (bound : List Binding) (draw : S) (server : Rules) (entries : List Entry)
    → AreFresh now server.jobs standings voices → AreReserved 0 standings voices after → AreKept now standings server.sessions → AreOrdered server.sessions server.jobs
    → bound ≡ server.bindings → entries ≡ []
    → IsInTick now after voices [] entries server.jobs bound draw (begun server draw)
tick-starts now standings after voices bound draw server entries fresh are kept order same none =
    let long = fresh.long in
    let still = are.long in
    record {
      kept = reserved-kept now standings voices after server.sessions fresh.long are kept;
      jobs = refl;
      bindings = same;
      draws = refl;
      entries = none;
      sent = refl;
      in_order = order.each;
      owed = λ i d e lt. ap (λ (dues : Dues). dues.messages) (fresh.each i e (omega arith)).owing;
      spoke = λ i d e lt. (fresh.each i e (omega arith)).spoke;
      enough = λ i d e lt.
          subst (λ (name : Name). answers_left now server.jobs name ≤ (get_or voices i e).left)
          (sym (reserved-name (get_or voices i e).left (get_or standings i d) (get_or after i d) (are.each i d e (omega arith) (omega arith))))
          (fresh.enough order.unfailed i d e (omega arith));
      first = refl;
    }

-- ---- its answers go out

or-true : (b : Bool) → (b || true) ≡ true
or-true true = refl
or-true false = refl

spoken-more : (name : Name) (one : Owed) (owed : List Owed) → has_spoken name owed ≡ true → has_spoken name (one ∷ owed) ≡ true
spoken-more name one owed is = ap (λ (b : Bool). is_same one.name name || b) is ∙ or-true (is_same one.name name)

-- each session that owes something has spoken
names-spoke : (owed : List Owed) → All (λ name. has_spoken name owed ≡ true) (names_in owed)
names-spoke [] = All-nil (λ (name : Name). has_spoken name [] ≡ true)
names-spoke (one ∷ owed) =
    let P : Name → Type 0 = λ name. has_spoken name (one ∷ owed) ≡ true in
    All-cons P one.name (filter (λ other. not (is_same one.name other)) (names_in owed))
    (ap (λ (b : Bool). b || has_spoken one.name owed) (names-same one.name one.name refl))
    (All-filter (λ other. not (is_same one.name other)) P (names_in owed)
    (All-weaker (λ (name : Name). has_spoken name owed ≡ true) P (λ name is. spoken-more name one owed is) (names_in owed) (names-spoke owed)))

places-spoke : (f : ℕ → Name) (places : List ℕ) (owed : List Owed) → map f places ≡ names_in owed → All (λ place. has_spoken (f place) owed ≡ true) places
places-spoke f places owed are = λ i d lt.
    let long : length (map f places) ≡ length places = length-map places f in
    let all = subst (λ (names : List Name). All (λ (name : Name). has_spoken name owed ≡ true) names) (sym are) (names-spoke owed) in
    subst (λ (name : Name). has_spoken name owed ≡ true) (get_or-map f places i d (f d) lt) (all i (f d) (omega (arith, lt, long)))

pub sending-starts : {S : Type 0} (lock : Lock) (ring : List RingKey) (setting : Setting S) (standings : List SessionState) (voices : List TickTurn) (order : List ℕ) (entries : List Entry) (room : ℕ)
    (queue : Queue) (bound : List Binding) (draw : S) (outs : List Out) (state : State S) → IsInTick setting.now standings voices order entries queue bound draw state
    → AreVoices standings voices order room → outs ≡ [] → IsSending lock ring setting standings voices order draw outs state
sending-starts {S} lock ring setting standings voices order entries room queue bound draw outs state tick are none =
    let P : List Out → Type 0 = λ outs. AreSent lock ring state.sent outs in
    let Q : List Sent → Type 0 = λ sent. AreSent lock ring sent [] in
    record {
      so_far = state;
      kept = tick.kept;
      jobs = refl;
      bindings = refl;
      entries = refl;
      same_owed = refl;
      draws = tick.draws;
      sent = subst P (sym none) (subst Q (sym tick.sent) tt);
      owed = tick.owed;
      packets = λ e i n lt.
          let place = get_or order i n in
          let within : place < length standings = are.within i n lt in
          let d = one-of standings place within in
          let its : name_at standings place ≡ name_kept (get_or standings place d) = get_or-map name_kept standings place d no_name within in
          let said = subst (λ (name : Name). has_spoken name state.owed ≡ true) its (places-spoke (name_at standings) order state.owed tick.first i n lt) in
          let spoke : (get_or voices place e).spoke ≡ true = tick.spoke place d e within ∙ said in
          let one : one_if (get_or voices place e).spoke ≡ 1 = ap one_if spoke in
          (are.each place d e within).some (omega arith);
      apart = places-apart (name_at standings) order (names_in state.owed) tick.first (names-apart state.owed);
      same = ap (λ (names : List Name). sent_by setting state.owed names state) tick.first;
    }

-- ---- and it ends

pub record SpentRest (S : Type 0) (before after : State S) : Type 0 where
  pub bindings : after.bindings ≡ before.bindings
  pub draw : after.draw ≡ before.draw
  pub sent : after.sent ≡ before.sent
  pub entries : after.entries ≡ before.entries

lost-rest : {S : Type 0} (sessions : List Session) (state : State S)
    → SpentRest S state (fold (λ so_far session. lost (name_of session) so_far) state sessions)
lost-rest [] state = record { bindings = refl; draw = refl; sent = refl; entries = refl }
lost-rest (session ∷ sessions) state =
    let rest = lost-rest sessions (lost (name_of session) state) in
    record { bindings = rest.bindings; draw = rest.draw; sent = rest.sent; entries = rest.entries }

pub spent-rest : {S : Type 0} (state : State S) → SpentRest S state (without_spent state)
spent-rest state = lost-rest (filter is_spent state.sessions) state
