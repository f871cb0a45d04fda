-- Packets are for the pair of a name and the number for which its message waits.
use Rattle.std.proofs.Common.{◌≡◌, ◌∙◌, ◌<◌, ◌^◌, ◌≤◌, ℕ, true, false, Option, Some, None, List, [], ◌∷◌, length, eq-eqb, refl, sym, ap, subst, arith, inl, inr}
use Rattle.std.specs.Prelude.{slice_get}
use Rattle.std.specs.List.{AllByRecursion}
use Rattle.std.proofs.lemmas.Bool.{cases_Bool}
use Rattle.tl_codec.specs.Standard.{bytes_max}
use Rattle.service_tl.specs.declared.item.Item.{Item}
use Rattle.service_tl.specs.declared.item.Item.TheVariants.{AuthBindTempAuthKey, InvokeAfterMsg, RpcDropAnswer}
use Rattle.service_tl.specs.declared.lists.Message.{Message}
use Rattle.service_tl.specs.Items.{spelling_of}
use Rattle.containers.specs.Container.{begins_container}
use Rattle.envelope.specs.declared.parts.Dir.{Dir}
use Rattle.envelope.specs.declared.parts.Dir.TheVariants.{Up}
use Rattle.envelope.specs.declared.parts.Envelope.{Envelope}
use Rattle.inbox.specs.Kinds.{item_told}
use Rattle.inbox.specs.Judging.{judge, unfolded}
use Rattle.inbox.specs.Refusals.{Way}
use Rattle.server_rules.specs.Answer.{message_in, messages_judged}
use Rattle.server_rules.specs.Server.{Session, remembered}
use Rattle.law_server.specs.Lives.{request_of}
use Rattle.law_server.specs.Order.{is_for_service}
use Rattle.call_table.specs.Table.{Call, Name}
use Rattle.client_rules.specs.Client.{calls_of}
use Rattle.client_rules.specs.Filling.{body_behind}
use Rattle.law_moves.specs.Table as moves
use Rattle.law_moves.specs.World.{World as Moved, IsName}
use Rattle.law_client.specs.Sent.{Asks, IsPacketSent, IsSent, WasSent}
use Rattle.law_server_moves.specs.Servers.{IsPacketUp, IsUp}
use Rattle.law_order.specs.After.{IsFor, IsPacketFor, Pair, awaited, is_among, is_aside}
use Rattle.law_order.specs.Going.{IsFrom, IsPacketFrom}
use Rattle.world_rules.specs.Setting.{as_heard}
use Rattle.world_rules.specs.World.{Packet, Seat, World}
use Rattle.law_once.specs.Made.{IsShort}
use Rattle.law_once.specs.Standing.{IsBagged, IsThere, WorldStands}
use Rattle.law_order.specs.Keeping.{ArePacketsFor, IsUpFrom, KeepsOrder}
use Rattle.law_order.proofs.Lists.{all-weaker}
use Rattle.law_order.proofs.Named.{Apart, call-there, one-name}
use Rattle.law_order.proofs.Reading.{Bytes-laws, container-was, lone-was, not-both, true-false, uncontained, wrapped-item}

pub all-two : {X : Type 0} (P Q R : X → Type 0) (xs : List X) → ((x : X) → P x → Q x → R x) → AllByRecursion P xs → AllByRecursion Q xs → AllByRecursion R xs
all-two P Q R [] so one other = tt
all-two P Q R (x ∷ xs) so one other = (so x one.0 other.0, all-two P Q R xs so one.1 other.1)

aside-asks : (item : Item) (body : List ℕ) → is_aside item ≡ true → request_of item body ≡ None
aside-asks (AuthBindTempAuthKey perm nonce expires message) body is = refl
aside-asks (RpcDropAnswer call) body is = refl
aside-asks item body is = absurd (true-false (sym is))

container-told : (body : List ℕ) → begins_container body ≡ true → is_for_service (item_told body) ≡ true → ⊥
container-told body begins query = true-false (sym (rw begins at query))

-- the newest name of a call, with the number for which its message waits
pub record Waits {S V : Type 0} (world : World S V) (name : Name) (number : ℕ) : Type 0 where
  pub place : ℕ
  pub at : ℕ
  pub seat : Seat
  pub call : Call
  pub older : List Name
  pub seated : slice_get world.seats place ≡ Some seat
  pub called : slice_get (calls_of seat.client) at ≡ Some call
  pub newest : call.names ≡ name ∷ older
  pub wrapped : name.message.wrap ≡ Some number
  pub below : number < name.message.number

module _ {S V : Type 0} (laws : Bytes-laws) (apart : Apart) (up : (ups : List moves.Message) (sealed : Envelope) → Rattle.envelope.specs.Packet.IsEnvelope sealed → length sealed.body ≤ bytes_max → IsPacketSent ups sealed → IsPacketUp ups (as_heard sealed))
    (m : Moved) (world : World S V) (h : WorldStands m world) (name : Name) (number : ℕ) (waits : Waits world name number)
    (own : IsName m.calls name.session name.message.number) (earlier : IsName m.calls name.session number) (key : ℕ) where
  abbrev pair : Pair
  pair = record { name = record { key = key; session = name.session }; call = name.message.number; earlier = number }

  -- what is to hold of a message
  abbrev WaitsSo : ℕ → List ℕ → Type 0
  WaitsSo n body = n < 2 ^ 64 → n ≡ name.message.number → is_for_service (item_told body) ≡ true → is_among number (awaited (item_told body)) ≡ true

  among-own : is_among number (number ∷ []) ≡ true
  among-own = rw (eq-eqb number number refl) refl

  wrapped-waits : (body query : List ℕ) → number < 2 ^ 64 → body ≡ spelling_of (InvokeAfterMsg number query) → is_among number (awaited (item_told body)) ≡ true
  wrapped-waits body query small is =
      let item : item_told body ≡ InvokeAfterMsg number query = ap item_told is ∙ wrapped-item laws number query small in
      ap (λ (item : Item). is_among number (awaited item)) item ∙ among-own

  from-waits : (salt : ℕ) (place : ℕ) (seat : Seat) → slice_get world.seats place ≡ Some seat → (n : ℕ) (body : List ℕ)
      → ((call : Option (List ℕ)) × Asks body call × WasSent m.ups name.session salt n call) → IsFrom name.session (calls_of seat.client) n body → WaitsSo n body
  from-waits salt place seat seated n body sent (inl of_call) = λ small is query.
      let one =
      one-name apart m world h waits.place waits.at waits.seat waits.call name waits.older waits.seated waits.called waits.newest
      place of_call.place seat of_call.call of_call.name seated of_call.there of_call.among of_call.of_session (of_call.of_number ∙ is) in
      let wrap : of_call.name.message.wrap ≡ Some number = ap (λ (name : Name). name.message.wrap) (sym one.1) ∙ waits.wrapped in
      let below = waits.below in
      wrapped-waits body of_call.call.body (omega (arith, below, is, small)) (of_call.goes ∙ ap (λ (wrap : Option ℕ). body_behind wrap of_call.call.body) wrap)
  from-waits salt place seat seated n body (Some query, asks, sent) (inr none) = λ small is its. absurd (not-both body query asks none)
  from-waits salt place seat seated n body (None, asks, sent) (inr none) = λ small is its.
      absurd
      (apart.no_name m sent.up h.reached sent.there sent.is
      (subst (λ (session : ℕ). IsName m.calls session sent.up.number) (sym sent.under)
      (subst (λ (n : ℕ). IsName m.calls name.session n) (sym (sent.numbered ∙ is)) own)))

  -- an earlier number is answered well only by a run
  runs-so : (salt n : ℕ) (body : List ℕ) → WasSent m.ups name.session salt n (request_of (item_told body) body) → n ≡ number → is_aside (item_told body) ≡ false
  runs-so salt n body sent is =
      elim (cases_Bool (is_aside (item_told body))) [
        | inr fine ↦ fine
        | inl aside ↦
            absurd
            (apart.no_name m sent.up h.reached sent.there (sent.is ∙ aside-asks (item_told body) body aside)
            (subst (λ (session : ℕ). IsName m.calls session sent.up.number) (sym sent.under)
            (subst (λ (n : ℕ). IsName m.calls name.session n) (sym (sent.numbered ∙ is)) earlier)))
      ]

  -- what a client put into a packet is no container, where it is one message
  from-alone : (place : ℕ) (seat : Seat) → slice_get world.seats place ≡ Some seat → (n : ℕ) (body : List ℕ) → IsFrom name.session (calls_of seat.client) n body → begins_container body ≡ false
  from-alone place seat seated n body (inr none) = uncontained body None none
  from-alone place seat seated n body (inl of_call) =
      let c = call-there m world h place of_call.place seat of_call.call seated of_call.there in
      uncontained body (Some of_call.call.body) (c.asks, of_call.name.message.wrap, of_call.goes)

  waits-all : (envelope : Envelope) → envelope.session ≡ name.session → IsShort envelope → (place : ℕ) (seat : Seat) → slice_get world.seats place ≡ Some seat
      → IsPacketSent m.ups envelope → IsPacketFrom (calls_of seat.client) envelope
      → (way : Way) (session : Session) → AllByRecursion (λ (message : Message). WaitsSo message.number message.body) (messages_judged way session (message_in (as_heard envelope)))
  waits-all envelope of_session short place seat seated (inl sent) (inl from) way session =
      let message = message_in (as_heard envelope) in
      let own_from = subst (λ (s : ℕ). IsFrom s (calls_of seat.client) envelope.number envelope.body) of_session from in
      let own_sent = subst (λ (s : ℕ). WasSent m.ups s envelope.salt envelope.number sent.0) of_session sent.2 in
      lone-was laws WaitsSo message (uncontained envelope.body sent.0 sent.1)
      (from-waits envelope.salt place seat seated envelope.number envelope.body (sent.0, sent.1, own_sent) own_from) (judge way (remembered session) message)
  waits-all envelope of_session short place seat seated (inl sent) (inr from) way session =
      let message = message_in (as_heard envelope) in
      let few : length envelope.body ≤ bytes_max = let below = short.body in omega (arith, below) in
      let c =
      container-was laws (λ n body. Unit {0}) from.messages message short.lawful.number short.lawful.bytes few from.body
      (all-weaker (λ (message : Message). IsFrom envelope.session (calls_of seat.client) message.number message.body) (λ (message : Message). Unit {0}) from.messages (λ message is. tt) from.inner)
      from.below (judge way (remembered session) message) in
      absurd (true-false (sym c.0 ∙ uncontained envelope.body sent.0 sent.1))
  waits-all envelope of_session short place seat seated (inr sent) (inl from) way session =
      let message = message_in (as_heard envelope) in
      let few : length envelope.body ≤ bytes_max = let below = short.body in omega (arith, below) in
      let c =
      container-was laws (λ n body. Unit {0}) sent.messages message short.lawful.number short.lawful.bytes few sent.body
      (all-weaker (IsSent m.ups envelope.session envelope.salt) (λ (message : Message). Unit {0}) sent.messages (λ message is. tt) sent.inner)
      sent.below (judge way (remembered session) message) in
      let own_from = subst (λ (s : ℕ). IsFrom s (calls_of seat.client) envelope.number envelope.body) of_session from in
      absurd (true-false (sym c.0 ∙ from-alone place seat seated envelope.number envelope.body own_from))
  waits-all envelope of_session short place seat seated (inr sent) (inr from) way session =
      let message = message_in (as_heard envelope) in
      let verdict = judge way (remembered session) message in
      let few : length envelope.body ≤ bytes_max = let below = short.body in omega (arith, below) in
      let Sends : ℕ → List ℕ → Type 0 = λ n body. (call : Option (List ℕ)) × Asks body call × WasSent m.ups envelope.session envelope.salt n call in
      let Froms : ℕ → List ℕ → Type 0 = λ n body. IsFrom envelope.session (calls_of seat.client) n body in
      let theirs = container-was laws Sends sent.messages message short.lawful.number short.lawful.bytes few sent.body sent.inner sent.below verdict in
      let mine = container-was laws Froms from.messages message short.lawful.number short.lawful.bytes few from.body from.inner from.below verdict in (
        λ small is query. absurd (container-told envelope.body theirs.0 query),
        all-two (λ (one : Message). Sends one.number one.body) (λ (one : Message). Froms one.number one.body) (λ (one : Message). WaitsSo one.number one.body) (unfolded verdict message)
            (λ one sent from.
            from-waits envelope.salt place seat seated one.number one.body
            (sent.0, sent.1, subst (λ (s : ℕ). WasSent m.ups s envelope.salt one.number sent.0) of_session sent.2)
            (subst (λ (s : ℕ). IsFrom s (calls_of seat.client) one.number one.body) of_session from))
            theirs.1 mine.1,
      )

  pub packet-for : (envelope : Envelope) → IsShort envelope → IsPacketSent m.ups envelope → (place : ℕ) (seat : Seat) → slice_get world.seats place ≡ Some seat
      → IsPacketFrom (calls_of seat.client) envelope → IsPacketFor pair (as_heard envelope)
  packet-for envelope short sent place seat seated from = λ is way session.
      let of_session : envelope.session ≡ name.session = ap (λ (name : Rattle.server_rules.specs.Server.Name). name.session) is in
      let few : length envelope.body ≤ bytes_max = let below = short.body in omega (arith, below) in
      let judged = messages_judged way session (message_in (as_heard envelope)) in
      all-two (IsUp m.ups envelope.session envelope.salt) (λ (message : Message). WaitsSo message.number message.body)
      (λ (message : Message). IsFor pair message.number (item_told message.body)) judged
      (λ message its waits_so.
      record {
        waits = λ of_number query. waits_so its.0 of_number query;
        runs = runs-so envelope.salt message.number message.body
            (subst (λ (s : ℕ). WasSent m.ups s envelope.salt message.number (request_of (item_told message.body) message.body)) of_session its.1);
      })
      (up m.ups envelope short.lawful few sent way session)
      (waits-all envelope of_session short place seat seated sent from way session)

  -- all packets of the world
  pub packets-for : KeepsOrder world → ArePacketsFor pair world.bag
  packets-for kept =
      all-two (IsBagged m world.seats) (IsUpFrom world.seats) (λ (packet : Packet). packet.dir ≡ Up → IsShort packet.envelope → IsPacketFor pair (as_heard packet.envelope)) world.bag
      (λ packet bagged from is_up short.
      let there : IsThere m world.seats Up packet.envelope = subst (λ (dir : Dir). IsThere m world.seats dir packet.envelope) is_up bagged in
      let mine = from is_up in
      packet-for packet.envelope short there.0 mine.place mine.seat mine.there mine.from)
      h.bag kept.bag
