-- A whole flush.
use Rattle.std.proofs.Common.{◌≡◌, ℕ, Bool, true, false, List, [], ◌∷◌, fold, Option, None, Some, if◌then◌else◌, inl, inr, refl, sym, ap, subst, ◌∙◌, arith}
use Rattle.std.specs.Prelude.{◌<◌, slice_get, option_map, is_some, IfSome, nat_lt}
use Rattle.msg_ids.specs.Counters.{room}
use Rattle.std.specs.List.{AllByRecursion}
use Rattle.service_tl.specs.declared.lists.Message.{Message}
use Rattle.containers.specs.Container.{container_of}
use Rattle.law_moves.specs.Table as moves
use Rattle.law_moves.specs.World.{World}
use Rattle.law_moves.specs.Lawful.{WasNoCall}
use Rattle.law_moves.specs.Reached.{Reached}
use Rattle.call_table.specs.declared.call.CallNo.{CallNo}
use Rattle.call_table.specs.declared.call.Group.TheVariants as group
use Rattle.call_table.specs.Table.{Call, Name, State, at, group_of, is_in, living_name, living_name_in, owner}
use Rattle.call_table.specs.Table as table
use Rattle.client_rules.specs.Client.{Client, Binding, Needed, Asked, Held, Bound, Refused, Temporary, after_message, at_moment, calls_of, numbered, time_of, with_binding, with_call}
use Rattle.client_rules.specs.Sending.{Setting, packet_of}
use Rattle.client_rules.specs.Filling.{Filling, body_behind, empty, fills, says_acks, says_binding, says_destroyed, says_drop, says_ping, says_resent, says_salts, says_states, says_told}
use Rattle.client_rules.specs.Flush.{Answer, Marked, Nothing, Sends, Spent, asked_alone, binding_alone, filled, first_marked, flush, gone_again, has_any, marked_at, message_behind, remembers, remembers_lone, room_min, sends, unless_binding, unless_call}
use Rattle.law_client.specs.Clients.{StandsAs, IsAskedThere, IsShort}
use Rattle.law_client.specs.Leading.{Leads}
use Rattle.law_client.specs.Sent.{Asks, IsAnswerSent, IsBindingCall, WasSent}
use Rattle.law_client.proofs.Basics.{Apart}
use Rattle.law_client.proofs.Leading.{GoOn, Grows, goes_on, leads_so, stays}
use Rattle.law_client.proofs.Again.{sends_again, sends_binding_again}
use Rattle.law_client.proofs.Flushing.{SameParts, calm, group_apart, group_queued}
use Rattle.law_client.proofs.Sending.{above, all_below, sends_other}
use Rattle.law_client.proofs.Filling.{AreSent, Ends, Holds, IsSoFar, acks_so, all_sent_more, asks_at, asks_binding_call, binding_so, calls_so, destroyed_so, drops_so, ping_so, resent_so, salts_so, states_so, then_sends, then_so, told_so}

-- ---- what is marked

abbrev or_first : Option Name → Name → Name
or_first None name = name
or_first (Some name) other = name

abbrev the_marked : CallNo → Message → Marked
the_marked k message = record { call = k; message = message }

abbrev call_in : Option Marked → CallNo → CallNo
call_in None k = k
call_in (Some marked) k = marked.call

abbrev message_in_marked : Option Marked → Message → Message
message_in_marked None other = other
message_in_marked (Some marked) other = marked.message

abbrev message_or : Option Message → Message → Message
message_or None other = other
message_or (Some message) other = message

-- the living name of a call is its first one, and the call is sent
living_parts : (state : State) (names : List Name) (name : Name) → living_name_in state names ≡ Some name
    → (state ≡ table.Sent) × ((older : List Name) × (names ≡ name ∷ older))
living_parts table.Sent [] name is = absurd (cc)
living_parts table.Sent (first ∷ older) name is = (refl, (older, ap (λ (n : Option Name). or_first n first ∷ older) is))
living_parts table.Queued names name is = absurd (cc)
living_parts table.Held names name is = absurd (cc)
living_parts (table.Done reply) names name is = absurd (cc)
living_parts (table.Refused code) names name is = absurd (cc)
living_parts (table.Unknown cause) names name is = absurd (cc)

-- what a marked call is
pub record IsMarked (client : Client) (marked : Marked) : Type 0 where
  pub call : Call
  pub name : Name
  pub found : at marked.call (calls_of client) ≡ Some call
  pub living : living_name call ≡ Some name
  pub message : marked.message ≡ record { number = name.message.number; seq = name.message.seq; body = body_behind name.message.wrap call.body }

marked_behind : (client : Client) (k : CallNo) (call : Call) (marked : Marked) → at k (calls_of client) ≡ Some call → (living : Option Name)
    → living_name call ≡ living
    → option_map (λ (message : Message). the_marked k message) (message_behind call.body living) ≡ Some marked → IsMarked client marked
marked_behind client k call marked found None living is = absurd (cc)
marked_behind client k call marked found (Some name) living is =
    let same : k ≡ marked.call = ap (λ (m : Option Marked). call_in m k) is in
    record { call = call; name = name; found = subst (λ (c : CallNo). at c (calls_of client) ≡ Some call) same found; living = living; message = sym (ap (λ (m : Option Marked). message_in_marked m (record { number = name.message.number; seq = name.message.seq; body = body_behind name.message.wrap call.body })) is) }

marked_found : (client : Client) (k : CallNo) (found : Option Call) (marked : Marked) → at k (calls_of client) ≡ found → marked_at k found ≡ Some marked → IsMarked client marked
marked_found client k None marked is m = absurd (cc)
marked_found client k (Some call) marked is m = marked_behind client k call marked is (living_name call) refl m

is_marked : (client : Client) (ks : List CallNo) (marked : Marked) → first_marked (calls_of client) ks ≡ Some marked → IsMarked client marked
is_marked client [] marked m = absurd (cc)
is_marked client (k ∷ ks) marked m = marked_found client k (at k (calls_of client)) marked refl m

-- the binding that is to be asked for again
asked_before : (ups : List moves.Message) (client : Client) (is : Bool) (binding : Binding) (message : Message)
    → asked_alone is binding ≡ Some message → IsAskedThere ups client binding → WasNoCall ups client.session message.number × IsBindingCall message.body
asked_before ups client false binding message is h = absurd (cc)
asked_before ups client true Needed message is h = absurd (cc)
asked_before ups client true (Asked other) message is h =
    subst (λ (m : Option Message). WasNoCall ups client.session (message_or m other).number × IsBindingCall (message_or m other).body) is h
asked_before ups client true Held message is h = absurd (cc)
asked_before ups client true Bound message is h = absurd (cc)
asked_before ups client true (Refused code) message is h = absurd (cc)

was_asked : (ups : List moves.Message) (client : Client) (temporary : Option Temporary) (message : Message)
    → binding_alone temporary ≡ Some message → IfSome temporary (λ (t : Temporary). IsAskedThere ups client t.binding)
    → WasNoCall ups client.session message.number × IsBindingCall message.body
was_asked ups client None message is h = absurd (cc)
was_asked ups client (Some temporary) message is h = asked_before ups client temporary.is_alone temporary.binding message is h

sent_as : (ups : List moves.Message) (session salt other_session other_salt number : ℕ) (call : Option (List ℕ)) → other_session ≡ session → other_salt ≡ salt
    → WasSent ups session salt number call → WasSent ups other_session other_salt number call
sent_as ups session salt other_session other_salt number call a b h =
    record { up = h.up; there = h.there; under = h.under ∙ sym a; salted = h.salted ∙ sym b; numbered = h.numbered; is = h.is }

all_sent_as : (ups : List moves.Message) (session salt other_session other_salt : ℕ) → other_session ≡ session → other_salt ≡ salt → (messages : List Message)
    → AreSent ups session salt messages → AreSent ups other_session other_salt messages
all_sent_as ups session salt other_session other_salt a b [] h = tt
all_sent_as ups session salt other_session other_salt a b (message ∷ messages) h = (
  (h.0.0, h.0.1, sent_as ups session salt other_session other_salt message.number h.0.0 a b h.0.2),
  all_sent_as ups session salt other_session other_salt a b messages h.1,
)

module _ (apart : Apart) (on : GoOn) (grows : Grows) (w : World) (number : ℕ) (session salt : ℕ) (reached : Reached w) where
  abbrev There : Client → List Message → Type 0
  There client messages = Ends apart on grows w number session salt reached client messages

  -- ---- what waits

  fills_so : {S : Type 0} (setting : Setting S) (client : Client) (draw : S) → IsShort client → There client [] → There (fills setting client draw).client (fills setting client draw).messages
  fills_so setting client draw short h =
      let ks : List CallNo = group_of group.Queued (calls_of client) in
      let waiting = client.waiting in
      let start : Holds apart on grows w number session salt reached ks client [] =
      record { ends = h; queued = group_queued (calls_of client) 0 (calls_of client) (λ i. ap (λ (n : ℕ). slice_get (calls_of client) n) (omega arith)) } in
      let a = says_acks client.table.acks (empty client draw) in
      let b = says_told waiting.told a in
      let c = says_resent waiting.resent b in
      let d = says_states waiting.states c in
      let e = says_ping waiting.ping d in
      let f = says_salts waiting.salts e in
      let g = says_destroyed waiting.destroyed f in
      let bound = says_binding setting client.temporary g in
      let drops = group_of group.Dropping (calls_of client) in
      let acks = acks_so apart on grows w number session salt reached ks client.table.acks (empty client draw) short.acks start in
      let told = told_so apart on grows w number session salt reached ks waiting.told a acks in
      let resent = resent_so apart on grows w number session salt reached ks waiting.resent b short.resent told in
      let states = states_so apart on grows w number session salt reached ks waiting.states c resent in
      let ping = ping_so apart on grows w number session salt reached ks waiting.ping d states in
      let salts = salts_so apart on grows w number session salt reached ks waiting.salts e ping in
      let destroyed = destroyed_so apart on grows w number session salt reached ks waiting.destroyed f salts in
      let binds = binding_so apart on grows w number session salt reached setting ks client.temporary g destroyed in
      let dropped = drops_so apart on grows w number session salt reached ks drops bound binds in
      calls_so apart on grows w number session salt reached ks (fold says_drop bound drops) (group_apart (is_in group.Queued) 0 (calls_of client)) dropped

  -- ---- what goes alone

  call_so : {S : Type 0} (setting : Setting S) (marked : Option Marked) (client : Client) (draw : S) → first_marked (calls_of client) (group_of group.Alone (calls_of client)) ≡ marked
      → IsShort client → There client [] → There (unless_call setting marked client draw).client (unless_call setting marked client draw).messages
  call_so setting None client draw is short h = fills_so setting client draw short h
  call_so setting (Some marked) client draw is short h =
      let its = is_marked client (group_of group.Alone (calls_of client)) marked is in
      let parts = living_parts its.call.state its.call.names its.name its.living in
      let gone : Client = with_call marked.call (gone_again client.salt) client in
      then_sends apart on grows w number session salt reached client gone [] marked.message (Some its.call.body) refl refl
      (λ later reached s. leads_so number later
      (λ last. StandsAs last number gone × WasSent last.ups client.session client.salt its.name.message.number (Some its.call.body))
      (λ last. StandsAs last number gone × Asks marked.message.body (Some its.call.body) × WasSent last.ups client.session client.salt marked.message.number (Some its.call.body))
      (λ last both. (
        both.0,
        (asks_at later number client s marked.call its.call its.found, its.name.message.wrap, ap (λ (m : Message). m.body) its.message),
        subst (λ (n : ℕ). WasSent last.ups client.session client.salt n (Some its.call.body)) (sym (ap (λ (m : Message). m.number) its.message)) both.1,
      ))
      (sends_again apart later number client reached s marked.call its.call its.name parts.1.0 its.found parts.0 parts.1.1)) h

  binding_so_again : {S : Type 0} (setting : Setting S) (message : Option Message) (client : Client) (draw : S) → binding_alone client.temporary ≡ message
      → IsShort client → There client [] → There (unless_binding setting message client draw).client (unless_binding setting message client draw).messages
  binding_so_again setting None client draw is short h =
      call_so setting (first_marked (calls_of client) (group_of group.Alone (calls_of client))) client draw refl short h
  binding_so_again setting (Some message) client draw is short h =
      let gone : Client = with_binding (Asked message) client in
      then_sends apart on grows w number session salt reached client gone [] message None refl refl
      (λ later reached s.
      let was = was_asked later.ups client client.temporary message is s.asked in
      leads_so number later
      (λ last. StandsAs last number gone × WasSent last.ups client.session client.salt message.number None)
      (λ last. StandsAs last number gone × Asks message.body None × WasSent last.ups client.session client.salt message.number None)
      (λ last both. (both.0, asks_binding_call message.body was.1, both.1))
      (sends_binding_again apart later number client reached s message was.0 was.1)) h

  -- ---- the packet

  remembers_so : (outer : ℕ) (inner : List ℕ) (client : Client) (messages : List Message) → There client messages → There (remembers outer inner client) messages
  remembers_so outer inner client messages h =
      then_so apart on grows w number session salt reached client (remembers outer inner client) messages refl refl
      (λ later s. calm later number client (remembers outer inner client)
      (record { session = refl; former = refl; salt = refl; learnt = refl; ended = refl; counters = refl; calls = refl; temporary = refl; short = λ h. record { acks = h.acks; resent = h.resent } }) s) h

  lone_so : (outer : ℕ) (inner : List ℕ) (is : Bool) (client : Client) (messages : List Message) → There client messages → There (if is then client else remembers outer inner client) messages
  lone_so outer inner true client messages h = h
  lone_so outer inner false client messages h = remembers_so outer inner client messages h

  -- the client stands so, and what it gives was sent
  abbrev pub Gives : Client → Answer → Type 0
  Gives client answer = Leads number w (λ later. StandsAs later number client × IsAnswerSent later.ups answer)

  nothing_so : (client : Client) (messages : List Message) → There client messages → Gives client Nothing
  nothing_so client messages h =
      leads_so number w (λ later. IsSoFar later number session salt client messages) (λ later. StandsAs later number client × IsAnswerSent later.ups Nothing)
      (λ later far. (far.stands, tt)) h

  one_so : {S : Type 0} (setting : Setting S) (message : Message) (client : Client) (draw : S) → There client (message ∷ []) → Gives client (Sends (packet_of setting client draw message))
  one_so setting message client draw h =
      leads_so number w (λ later. IsSoFar later number session salt client (message ∷ [])) (λ later. StandsAs later number client × IsAnswerSent later.ups (Sends (packet_of setting client draw message)))
      (λ later far. (far.stands, inl (far.sent.0.0, far.sent.0.1, sent_as later.ups session salt client.session client.salt message.number far.sent.0.0 far.under far.salted far.sent.0.2))) h

  abbrev BelowIt : Message → List Message → Type 0
  BelowIt message messages = AllByRecursion (λ (one : Message). one.number < message.number) messages

  container_so : {S : Type 0} (setting : Setting S) (messages : List Message) (message : Message) (client : Client) (draw : S) → message.body ≡ container_of messages
      → Leads number w (λ later. IsSoFar later number session salt client messages × BelowIt message messages × WasSent later.ups session salt message.number None)
      → Gives client (Sends (packet_of setting client draw message))
  container_so setting messages message client draw is h =
      leads_so number w (λ later. IsSoFar later number session salt client messages × BelowIt message messages × WasSent later.ups session salt message.number None)
      (λ later. StandsAs later number client × IsAnswerSent later.ups (Sends (packet_of setting client draw message)))
      (λ later both. (
        both.0.stands,
        inr (record {
          messages = messages;
          body = is;
          inner = all_sent_as later.ups session salt client.session client.salt both.0.under both.0.salted messages both.0.sent;
          below = both.1;
          outer = sent_as later.ups session salt client.session client.salt message.number None both.0.under both.0.salted both.2;
        }),
      )) h

  sends_so : {S : Type 0} (setting : Setting S) (messages : List Message) (filling : Filling S) → There filling.client messages
      → Gives (sends setting messages filling).client (sends setting messages filling).answer
  sends_so setting [] filling h = nothing_so filling.client [] h
  sends_so setting (message ∷ []) filling h =
      one_so setting message (remembers_lone message.number filling.inner filling.client) filling.draw
      (lone_so message.number filling.inner (is_some (owner message.number (calls_of filling.client))) filling.client (message ∷ []) h)
  sends_so setting (first ∷ second ∷ messages) filling h =
      let inside : List Message = first ∷ second ∷ messages in
      let next : Client = after_message false filling.client in
      let message : Message = numbered false (container_of inside) filling.client in
      let last : Client = remembers message.number filling.inner next in
      container_so setting inside message last filling.draw refl
      (goes_on on number w (λ later. IsSoFar later number session salt filling.client inside)
      (λ later. IsSoFar later number session salt last inside × BelowIt message inside × WasSent later.ups session salt message.number None) reached h
      (λ later reached far.
      let l = sends_other apart later number filling.client reached far.stands false (container_of inside) in
      record {
        moves = l.moves;
        lawful = l.lawful;
        own = l.own;
        gives = (
          record {
            stands = calm _ number next last
                (record { session = refl; former = refl; salt = refl; learnt = refl; ended = refl; counters = refl; calls = refl; temporary = refl; short = λ h. record { acks = h.acks; resent = h.resent } }) l.gives.0;
            under = far.under;
            salted = far.salted;
            sent = all_sent_more later.ups _ (grows later l.moves l.lawful) session salt inside far.sent;
          },
          all_below later number filling.client far.stands session salt message.number far.under (above filling.client.counters.last (time_of filling.client)) inside far.sent,
          sent_as _ filling.client.session filling.client.salt session salt message.number None (sym far.under) (sym far.salted) l.gives.1,
        );
      }))

  spent_so : {S : Type 0} (setting : Setting S) (any few : Bool) (client : Client) (draw : S) (filling : Filling S) → There client [] → There filling.client filling.messages
      → any ≡ has_any filling.messages
      → Gives (if any then (if few then record { answer = Spent; client = client; draw = draw } else sends setting filling.messages filling) else sends setting [] filling).client
      (if any then (if few then record { answer = Spent; client = client; draw = draw } else sends setting filling.messages filling) else sends setting [] filling).answer
  spent_so setting true true client draw filling before h is =
      leads_so number w (λ later. IsSoFar later number session salt client []) (λ later. StandsAs later number client × IsAnswerSent later.ups Spent)
      (λ later far. (far.stands, tt)) before
  spent_so setting true false client draw filling before h is = sends_so setting filling.messages filling h
  spent_so setting false few client draw filling before h is = nothing_so filling.client filling.messages h

pub flushes : Apart → GoOn → Grows → {S : Type 0} (w : World) (setting : Setting S) (number now : ℕ) (client : Client) (draw : S) → Reached w → StandsAs w number client
    → Leads number w (λ later. StandsAs later number (flush setting now client draw).client × IsAnswerSent later.ups (flush setting now client draw).answer)
flushes apart on grows w setting number now client draw reached s =
    let then_ : Client = at_moment now client in
    let same : SameParts client then_ = record { session = refl; former = refl; salt = refl; learnt = refl; ended = refl; counters = refl; calls = refl; temporary = refl; short = λ h. record { acks = h.acks; resent = h.resent } } in
    let before = stays number w (λ later. IsSoFar later number client.session client.salt client []) (record { stands = s; under = refl; salted = refl; sent = tt }) in
    let moment = stays number w (λ later. IsSoFar later number client.session client.salt then_ []) (record { stands = calm w number client then_ same s; under = refl; salted = refl; sent = tt }) in
    let filling = filled setting then_ draw in
    spent_so apart on grows w number client.session client.salt reached setting (has_any filling.messages) (nat_lt (room client.counters) room_min) client draw filling before
    (binding_so_again apart on grows w number client.session client.salt reached setting (binding_alone then_.temporary) then_ draw refl (same.short s.short) moment) refl
