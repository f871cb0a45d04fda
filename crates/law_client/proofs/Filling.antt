-- A client's packet as it is filled, and its flush.
use Rattle.std.proofs.Common.{◌≡◌, ◌≢◌, ℕ, ◌-◌, Bool, true, false, not, ◌&&◌, List, [], ◌∷◌, ◌++◌, fold, length, ◌≤◌, Option, None, Some, if◌then◌else◌, inl, inr, refl, sym, ap, subst, ◌∙◌, arith}
use Rattle.std.specs.Prelude.{filter_map, slice_get, option_map, IfSome}
use Rattle.std.specs.List.{AllByRecursion, Contains}
use Rattle.std.proofs.lemmas.Bool.{cases_Bool}
use Rattle.std.proofs.lemmas.List.{length-take}
use Rattle.tl_codec.specs.Standard.{longs_max}
use Rattle.service_tl.specs.declared.lists.Message.{Message}
use Rattle.service_tl.specs.declared.item.Item.{Item}
use Rattle.service_tl.specs.declared.item.Item.TheVariants.{AuthBindTempAuthKey, DestroySession, GetFutureSalts, MsgResendReq, MsgsAck, MsgsStateInfo, MsgsStateReq, Ping, RpcDropAnswer}
use Rattle.service_tl.specs.Items.{spelling_of}
use Rattle.packing.specs.Packing.{is_within}
use Rattle.law_moves.specs.Table as moves
use Rattle.law_moves.specs.World.{World}
use Rattle.law_moves.specs.Lawful.{WasNoCall}
use Rattle.law_moves.specs.Reached.{Reached}
use Rattle.call_table.specs.declared.call.CallNo.{CallNo}
use Rattle.call_table.specs.declared.call.Living.{Living}
use Rattle.call_table.specs.declared.call.Fate.TheVariants as fate
use Rattle.call_table.specs.Table.{Call, Name, State, at, changed_at, flagged, group_of, is_in, living_name, living_name_in, owner, sent, settled}
use Rattle.call_table.specs.Table as table
use Rattle.client_rules.specs.Client.{Client, Asked, Temporary, States, bound_so, calls_of, numbered, after_message, with_binding, with_call}
use Rattle.draws.specs.Draws.{draw_after, next_bytes}
use Rattle.client_rules.specs.Asking.{begins_service}
use Rattle.client_rules.specs.Sending.{Setting, binding_body, inner_of}
use Rattle.client_rules.specs.Filling.{Filling, Turn, Goes, Waits, Never, asks_binding, asks_states, body_behind, changes, goes, is_needed, outstanding, says, says_acks, says_binding, says_call, says_call_at, says_destroyed, says_drop, says_drop_of, says_ping, says_resent, says_salts, says_states, says_told, sends_call, takes_turn, turn_of, undropped, number_of, inserted, living_number, numbers_max}
use Rattle.client_rules.specs.Client.{is_open}
use Rattle.law_client.specs.Clients.{StandsAs, IsAskedThere, IsCallThere, IsShort, StandsThere}
use Rattle.law_client.specs.Leading.{Leads}
use Rattle.law_client.specs.Sent.{Asks, IsBindingCall, IsSaidAside, IsSent, WasSent}
use Rattle.law_client.proofs.Basics.{Alike, Apart, all_given_alike}
use Rattle.law_client.proofs.Leading.{GoOn, Grows, goes_on, leads_so}
use Rattle.law_client.proofs.Quiet.{OnlyFlags, asked_alike, length_changed, one_changed_there, same_there}
use Rattle.law_client.proofs.Sending.{gives_up, sends_first, sends_other}
use Rattle.law_client.proofs.Flushing.{AreApart, AreQueued, SameParts, calm, flags_queued, map_queued, other_queued}

few_outstanding : (client : Client) → length (outstanding client) ≤ longs_max
few_outstanding client =
    let all : List ℕ = fold inserted [] (filter_map living_number (calls_of client)) in
    let is = length-take numbers_max all in omega (arith, is)

goes_by : {S : Type 0} (P : Client → List Message → Type 0) (full within : Bool) (fits : Filling S) (filling : Filling S) → P filling.client filling.messages → P fits.client fits.messages
    → P (if full then filling else if within then fits else record filling { is_full = true }).client (if full then filling else if within then fits else record filling { is_full = true }).messages
goes_by P true within fits filling before after = before
goes_by P false true fits filling before after = after
goes_by P false false fits filling before after = before

goes_so : {S : Type 0} (P : Client → List Message → Type 0) (message : Message) (leaves : Filling S → Filling S) (filling : Filling S) → P filling.client filling.messages
    → P (leaves (record filling { messages = filling.messages ++ message ∷ [] })).client (leaves (record filling { messages = filling.messages ++ message ∷ [] })).messages
    → P (goes message leaves filling).client (goes message leaves filling).messages
goes_so P message leaves filling before after =
    goes_by P filling.is_full (is_within (filling.messages ++ message ∷ [])) (leaves (record filling { messages = filling.messages ++ message ∷ [] })) filling before after

unless_full : {S : Type 0} (P : Client → List Message → Type 0) (full : Bool) (filling other : Filling S) → P filling.client filling.messages → P other.client other.messages
    → P (if full then filling else other).client (if full then filling else other).messages
unless_full P true filling other before after = before
unless_full P false filling other before after = after

abbrev state_or : Option Call → State → State
state_or None other = other
state_or (Some call) other = call.state

-- a call that is changed in its flags stands where it stood
pub flags_stand : (w : World) (number : ℕ) (client : Client) (k : CallNo) (change : Call → Call) → OnlyFlags change → StandsAs w number client
    → StandsAs w number (with_call k change client)
flags_stand w number client k change only s =
    let other : Client = with_call k change client in
    let alike : Alike client other = record { session = refl; last = omega arith } in
    record {
      made = s.made;
      parts = s.parts;
      submitted = s.submitted ∙ sym (length_changed (k.n - 1) change (calls_of client));
      calls = one_changed_there client other alike w.ups change only (calls_of client) (k.n - 1)
          (λ place. w.calls (moves.call_at number place)) s.calls;
      given = all_given_alike client other alike w.ups s.given;
      short = record { acks = s.short.acks; resent = s.short.resent };
      asked = asked_alike client other refl w.ups client.temporary s.asked;
    }

asked_now : (w : World) (other : Client) (message : Message) → WasNoCall w.ups other.session message.number → IsBindingCall message.body → (temporary : Option Temporary)
    → IfSome (option_map (bound_so (Asked message)) temporary) (λ (t : Temporary). IsAskedThere w.ups other t.binding)
asked_now w other message was is None = tt
asked_now w other message was is (Some temporary) = (was, is)

-- a binding that was asked for by a message that was sent
asked_stands : (w : World) (number : ℕ) (client : Client) (message : Message) → StandsAs w number client
    → WasNoCall w.ups client.session message.number → IsBindingCall message.body → StandsAs w number (with_binding (Asked message) client)
asked_stands w number client message s was is =
    let other : Client = with_binding (Asked message) client in
    let alike : Alike client other = record { session = refl; last = omega arith } in
    record {
      made = s.made;
      parts = s.parts;
      submitted = s.submitted;
      calls = λ place. same_there client other alike w.ups (slice_get (calls_of client) place)
          (w.calls (moves.call_at number place)) (s.calls place);
      given = all_given_alike client other alike w.ups s.given;
      short = record { acks = s.short.acks; resent = s.short.resent };
      asked = asked_now w other message was is client.temporary;
    }

-- what was sent is there later too
pub sent_more : (ups more : List moves.Message) → ((message : moves.Message) → Contains ups message → Contains more message) → (session salt number : ℕ) (call : Option moves.Text)
    → WasSent ups session salt number call → WasSent more session salt number call
sent_more ups more grows session salt number call h =
    record { up = h.up; there = grows h.up h.there; under = h.under; salted = h.salted; numbered = h.numbered; is = h.is }

pub was_no_call : (ups : List moves.Message) (session salt number : ℕ) → WasSent ups session salt number None → WasNoCall ups session number
was_no_call ups session salt number h = (h.up, h.there, h.under, h.numbered, h.is)

-- a binding call asks nothing
is_binding_body : {S : Type 0} (setting : Setting S) (client : Client) (temporary : Temporary) (number : ℕ) (draw : S) → IsBindingCall (binding_body setting client temporary number draw)
is_binding_body setting client temporary number draw =
    let inner = inner_of setting client temporary draw in
    let random = next_bytes setting.step 16 (draw_after setting.step 1 draw) in
    let padding = next_bytes setting.step 8 (draw_after setting.step 3 draw) in
    (inner.perm, inner.nonce, inner.expires, setting.binding_message inner.perm random number inner padding, refl)

pub asks_binding_call : (body : List ℕ) → IsBindingCall body → Asks body None
asks_binding_call body h = (AuthBindTempAuthKey h.0 h.1 h.2 h.3, h.4, tt)

-- no service constructor begins the body of a call
pub asks_at : (w : World) (number : ℕ) (client : Client) → StandsAs w number client → (k : CallNo) (call : Call) → at k (calls_of client) ≡ Some call → begins_service call.body ≡ false
asks_at w number client s k call found =
    let there : IsCallThere client w.ups call (w.calls (moves.call_at number (k.n - 1))) =
    subst (λ (f : Option Call). StandsThere client w.ups f (w.calls (moves.call_at number (k.n - 1)))) found (s.calls (k.n - 1)) in
    there.asks

abbrev pub AreSent : List moves.Message → ℕ → ℕ → List Message → Type 0
AreSent ups session salt messages = AllByRecursion (IsSent ups session salt) messages

pub all_sent_more : (ups more : List moves.Message) → ((message : moves.Message) → Contains ups message → Contains more message) → (session salt : ℕ) (messages : List Message)
    → AreSent ups session salt messages → AreSent more session salt messages
all_sent_more ups more grows session salt [] h = tt
all_sent_more ups more grows session salt (message ∷ messages) h = (
  (h.0.0, h.0.1, sent_more ups more grows session salt message.number h.0.0 h.0.2),
  all_sent_more ups more grows session salt messages h.1,
)

and_one : (P : Message → Type 0) (messages : List Message) (message : Message) → AllByRecursion P messages → P message → AllByRecursion P (messages ++ message ∷ [])
and_one P [] message h is = (is, tt)
and_one P (first ∷ messages) message h is = (h.0, and_one P messages message h.1 is)

-- ---- calls that go

-- A client so far in its flush: it stands so, still under this session number and salt, and these messages of its packet were
-- sent.
pub record IsSoFar (later : World) (number session salt : ℕ) (client : Client) (messages : List Message) : Type 0 where
  pub stands : StandsAs later number client
  pub under : client.session ≡ session
  pub salted : client.salt ≡ salt
  pub sent : AreSent later.ups session salt messages

module _ (apart : Apart) (on : GoOn) (grows : Grows) (w : World) (number : ℕ) (session salt : ℕ) (reached : Reached w) where
  -- moves lead to where this client stands, and these messages were sent
  abbrev pub Ends : Client → List Message → Type 0
  Ends client messages = Leads number w (λ later. IsSoFar later number session salt client messages)

  pub then_so : (one other : Client) (messages : List Message) → other.session ≡ one.session → other.salt ≡ one.salt
      → ((later : World) → StandsAs later number one → StandsAs later number other) → Ends one messages → Ends other messages
  then_so one other messages same_session same_salt so h =
      leads_so number w (λ later. IsSoFar later number session salt one messages) (λ later. IsSoFar later number session salt other messages)
      (λ later far. record { stands = so later far.stands; under = same_session ∙ far.under; salted = same_salt ∙ far.salted; sent = far.sent }) h

  -- moves without a message
  pub then_does : (one other : Client) (messages : List Message) → other.session ≡ one.session → other.salt ≡ one.salt
      → ((later : World) → Reached later → StandsAs later number one → Leads number later (λ last. StandsAs last number other)) → Ends one messages → Ends other messages
  then_does one other messages same_session same_salt next h =
      goes_on on number w (λ later. IsSoFar later number session salt one messages) (λ later. IsSoFar later number session salt other messages) reached h
      (λ later reached far. let l = next later reached far.stands in record {
        moves = l.moves;
        lawful = l.lawful;
        own = l.own;
        gives = record {
          stands = l.gives;
          under = same_session ∙ far.under;
          salted = same_salt ∙ far.salted;
          sent = all_sent_more later.ups _ (grows later l.moves l.lawful) session salt messages far.sent;
        };
      })

  -- moves with one
  pub then_sends : (one other : Client) (messages : List Message) (message : Message) (call : Option (List ℕ))
      → other.session ≡ one.session → other.salt ≡ one.salt
      → ((later : World) → Reached later → StandsAs later number one
      → Leads number later (λ last. StandsAs last number other × Asks message.body call × WasSent last.ups one.session one.salt message.number call))
      → Ends one messages → Ends other (messages ++ message ∷ [])
  then_sends one other messages message call same_session same_salt next h =
      goes_on on number w (λ later. IsSoFar later number session salt one messages) (λ later. IsSoFar later number session salt other (messages ++ message ∷ [])) reached h
      (λ later reached far. let l = next later reached far.stands in record {
        moves = l.moves;
        lawful = l.lawful;
        own = l.own;
        gives = record {
          stands = l.gives.0;
          under = same_session ∙ far.under;
          salted = same_salt ∙ far.salted;
          sent = and_one (IsSent _ session salt) messages message
              (all_sent_more later.ups _ (grows later l.moves l.lawful) session salt messages far.sent) (
                call,
                l.gives.1,
                record {
                  up = l.gives.2.up;
                  there = l.gives.2.there;
                  under = l.gives.2.under ∙ far.under;
                  salted = l.gives.2.salted ∙ far.salted;
                  numbered = l.gives.2.numbered;
                  is = l.gives.2.is;
                },
              );
        };
      })

  -- and these calls are still queued
  pub record Holds (ks : List CallNo) (client : Client) (messages : List Message) : Type 0 where
    pub ends : Ends client messages
    pub queued : AreQueued (calls_of client) ks

  -- ---- an item

  pub said : (is_content : Bool) (body : List ℕ) (client : Client) (messages : List Message) → Asks body None → Ends client messages
      → Ends (after_message is_content client) (messages ++ numbered is_content body client ∷ [])
  said is_content body client messages asks h =
      then_sends client (after_message is_content client) messages (numbered is_content body client) None refl refl
      (λ later reached s. leads_so number later
      (λ last. StandsAs last number (after_message is_content client) × WasSent last.ups client.session client.salt (numbered is_content body client).number None)
      (λ last. StandsAs last number (after_message is_content client) × Asks body None × WasSent last.ups client.session client.salt (numbered is_content body client).number None)
      (λ last both. (both.0, asks, both.1))
      (sends_other apart later number client reached s is_content body)) h

  says_so : {S : Type 0} (ks : List CallNo) (is_content : Bool) (item : Item) (change : Client → Client) (filling : Filling S) → IsSaidAside item
      → ((client : Client) → SameParts client (change client)) → Holds ks filling.client filling.messages
      → Holds ks (says is_content item change filling).client (says is_content item change filling).messages
  says_so ks is_content item change filling aside same h =
      let next : Client = after_message is_content filling.client in
      let message : Message = numbered is_content (spelling_of item) filling.client in
      goes_so (Holds ks) message (changes (λ client. change (after_message is_content client))) filling h
      (record {
        ends = then_so next (change next) (filling.messages ++ message ∷ []) (same next).session (same next).salt (λ later s. calm later number next (change next) (same next) s)
            (said is_content (spelling_of item) filling.client filling.messages (item, refl, aside) h.ends);
        queued = subst (λ (calls : List Call). AreQueued calls ks) (sym (same next).calls) h.queued;
      })

  kept : (client other : Client) → other.session ≡ client.session → other.former ≡ client.former → other.salt ≡ client.salt → other.learnt ≡ client.learnt
      → other.has_ended ≡ client.has_ended → other.counters ≡ client.counters → calls_of other ≡ calls_of client → other.temporary ≡ client.temporary
      → (IsShort client → IsShort other) → SameParts client other
  kept client other a b c d e f g h i = record { session = a; former = b; salt = c; learnt = d; ended = e; counters = f; calls = g; temporary = h; short = i }

  pub acks_so : {S : Type 0} (ks : List CallNo) (acks : List ℕ) (filling : Filling S) → length acks ≤ longs_max → Holds ks filling.client filling.messages → Holds ks (says_acks acks filling).client (says_acks acks filling).messages
  acks_so ks [] filling short h = h
  acks_so ks (ack ∷ acks) filling short h = says_so ks false (MsgsAck (ack ∷ acks)) (λ client. record client { table = record client.table { acks = [] } }) filling short (λ client. kept client (record client { table = record client.table { acks = [] } }) refl refl refl refl refl refl refl refl (λ h. record { acks = omega arith; resent = h.resent })) h

  pub told_so : {S : Type 0} (ks : List CallNo) (told : Option States) (filling : Filling S) → Holds ks filling.client filling.messages → Holds ks (says_told told filling).client (says_told told filling).messages
  told_so ks None filling h = h
  told_so ks (Some states) filling h = says_so ks false (MsgsStateInfo states.request states.info) (λ client. record client { waiting = record client.waiting { told = None } }) filling tt (λ client. kept client (record client { waiting = record client.waiting { told = None } }) refl refl refl refl refl refl refl refl (λ h. record { acks = h.acks; resent = h.resent })) h

  pub resent_so : {S : Type 0} (ks : List CallNo) (numbers : List ℕ) (filling : Filling S) → length numbers ≤ longs_max → Holds ks filling.client filling.messages → Holds ks (says_resent numbers filling).client (says_resent numbers filling).messages
  resent_so ks [] filling short h = h
  resent_so ks (n ∷ numbers) filling short h = says_so ks false (MsgResendReq (n ∷ numbers)) (λ client. record client { waiting = record client.waiting { resent = [] } }) filling short (λ client. kept client (record client { waiting = record client.waiting { resent = [] } }) refl refl refl refl refl refl refl refl (λ h. record { acks = h.acks; resent = omega arith })) h

  pub states_so : {S : Type 0} (ks : List CallNo) (is : Bool) (filling : Filling S) → Holds ks filling.client filling.messages → Holds ks (says_states is filling).client (says_states is filling).messages
  states_so ks false filling h = h
  states_so ks true filling h = says_so ks false (MsgsStateReq (outstanding filling.client)) (λ client. asks_states (outstanding filling.client) client) filling (few_outstanding filling.client) (λ client. kept client (asks_states (outstanding filling.client) client) refl refl refl refl refl refl refl refl (λ h. record { acks = h.acks; resent = h.resent })) h

  pub ping_so : {S : Type 0} (ks : List CallNo) (ping : Option ℕ) (filling : Filling S) → Holds ks filling.client filling.messages → Holds ks (says_ping ping filling).client (says_ping ping filling).messages
  ping_so ks None filling h = h
  ping_so ks (Some id) filling h = says_so ks false (Ping id) (λ client. record client { waiting = record client.waiting { ping = None } }) filling tt (λ client. kept client (record client { waiting = record client.waiting { ping = None } }) refl refl refl refl refl refl refl refl (λ h. record { acks = h.acks; resent = h.resent })) h

  pub salts_so : {S : Type 0} (ks : List CallNo) (salts : Option ℕ) (filling : Filling S) → Holds ks filling.client filling.messages → Holds ks (says_salts salts filling).client (says_salts salts filling).messages
  salts_so ks None filling h = h
  salts_so ks (Some count) filling h = says_so ks true (GetFutureSalts count) (λ client. record client { waiting = record client.waiting { salts = None } }) filling tt (λ client. kept client (record client { waiting = record client.waiting { salts = None } }) refl refl refl refl refl refl refl refl (λ h. record { acks = h.acks; resent = h.resent })) h

  pub destroyed_so : {S : Type 0} (ks : List CallNo) (destroyed : Option ℕ) (filling : Filling S) → Holds ks filling.client filling.messages → Holds ks (says_destroyed destroyed filling).client (says_destroyed destroyed filling).messages
  destroyed_so ks None filling h = h
  destroyed_so ks (Some session) filling h =
      elim (cases_Bool (is_open filling.client)) [
        | inl is ↦ rw is (says_so ks true (DestroySession session) (λ client. record client { waiting = record client.waiting { destroyed = None } }) filling tt (λ client. kept client (record client { waiting = record client.waiting { destroyed = None } }) refl refl refl refl refl refl refl refl (λ h. record { acks = h.acks; resent = h.resent })) h)
        | inr not ↦ rw not h
      ]

  -- ---- the binding

  pub binding_so : {S : Type 0} (setting : Setting S) (ks : List CallNo) (temporary : Option Temporary) (filling : Filling S) → Holds ks filling.client filling.messages
      → Holds ks (says_binding setting temporary filling).client (says_binding setting temporary filling).messages
  binding_so setting ks None filling h = h
  binding_so setting ks (Some temporary) filling h =
      let unsaid : Message = numbered true [] filling.client in
      let message : Message = record unsaid { body = binding_body setting filling.client temporary unsaid.number filling.draw } in
      let next : Client = after_message true filling.client in
      let other : Client = with_binding (Asked message) next in
      let is_call : IsBindingCall message.body = is_binding_body setting filling.client temporary unsaid.number filling.draw in
      elim (cases_Bool (is_needed temporary.binding && is_open filling.client)) [
        | inl is ↦
            rw is
            (goes_so (Holds ks) message (asks_binding setting message) filling h
            (record {
              ends = then_sends filling.client other filling.messages message None refl refl
                  (λ later reached s. leads_so number later (λ last. StandsAs last number next × WasSent last.ups filling.client.session filling.client.salt unsaid.number None)
                  (λ last. StandsAs last number other × Asks message.body None × WasSent last.ups filling.client.session filling.client.salt message.number None)
                  (λ last both. (asked_stands last number next message both.0 (was_no_call last.ups filling.client.session filling.client.salt unsaid.number both.1) is_call, asks_binding_call message.body is_call, both.1))
                  (sends_other apart later number filling.client reached s true [])) h.ends;
              queued = h.queued;
            }))
        | inr not ↦ rw not h
      ]

  -- ---- answers to drop

  undropped_only : OnlyFlags undropped
  undropped_only call = (record call.flags { dropping = false }, refl)

  drop_of_so : {S : Type 0} (ks : List CallNo) (k : CallNo) (found : Option ℕ) (filling : Filling S) → Holds ks filling.client filling.messages → Holds ks (says_drop_of k found filling).client (says_drop_of k found filling).messages
  drop_of_so ks k None filling h = h
  drop_of_so ks k (Some named) filling h =
      let next : Client = after_message true filling.client in
      goes_so (Holds ks) (numbered true (spelling_of (RpcDropAnswer named)) filling.client) (changes (λ client. with_call k undropped (after_message true client))) filling h
      (record {
        ends = then_so next (with_call k undropped next) (filling.messages ++ numbered true (spelling_of (RpcDropAnswer named)) filling.client ∷ []) refl refl
            (λ later s. flags_stand later number next k undropped undropped_only s)
            (said true (spelling_of (RpcDropAnswer named)) filling.client filling.messages (RpcDropAnswer named, refl, tt) h.ends);
        queued = map_queued (calls_of filling.client) (changed_at (k.n - 1) undropped (calls_of filling.client)) ks
            (flags_queued (calls_of filling.client) (k.n - 1) undropped undropped_only) h.queued;
      })

  pub drops_so : {S : Type 0} (ks drops : List CallNo) (filling : Filling S) → Holds ks filling.client filling.messages
      → Holds ks (fold says_drop filling drops).client (fold says_drop filling drops).messages
  drops_so ks [] filling h = h
  drops_so ks (k ∷ drops) filling h =
      drops_so ks drops (says_drop filling k) (drop_of_so ks k (number_of (at k (calls_of filling.client))) filling h)

  -- ---- calls

  turn_so : {S : Type 0} (k : CallNo) (call : Call) (ks : List CallNo) (turn : Turn) (filling : Filling S)
      → at k (calls_of filling.client) ≡ Some call → call.state ≡ table.Queued → AllByRecursion (λ (j : CallNo). j.n - 1 ≢ k.n - 1) ks
      → Holds ks filling.client filling.messages → Holds ks (takes_turn k call.body turn filling).client (takes_turn k call.body turn filling).messages
  turn_so k call ks Waits filling found queued differs h = h
  turn_so k call ks Never filling found queued differs h =
      let stop : Call → Call = settled (fate.Refused 0) in
      record {
        ends = then_does filling.client (with_call k stop filling.client) filling.messages refl refl
            (λ later reached s. gives_up apart later number filling.client reached s k call None 0 found queued) h.ends;
        queued = other_queued (calls_of filling.client) k stop ks differs h.queued;
      }
  turn_so k call ks (Goes wrap) filling found queued differs h =
      let message : Message = numbered true (body_behind wrap call.body) filling.client in
      let living : Living = record { number = message.number; seq = message.seq; wrap = wrap } in
      let change : Call → Call = sent filling.client.session living filling.client.salt in
      goes_so (Holds ks) message (sends_call k wrap message) filling h
      (record {
        ends = then_sends filling.client (with_call k change (after_message true filling.client)) filling.messages message (Some call.body) refl refl
            (λ later reached s. leads_so number later
            (λ last. StandsAs last number (with_call k change (after_message true filling.client)) × WasSent last.ups filling.client.session filling.client.salt message.number (Some call.body))
            (λ last. StandsAs last number (with_call k change (after_message true filling.client)) × Asks message.body (Some call.body)
            × WasSent last.ups filling.client.session filling.client.salt message.number (Some call.body))
            (λ last both. (both.0, (asks_at later number filling.client s k call found, wrap, refl), both.1))
            (sends_first apart later number filling.client reached s k call wrap message.seq found queued)) h.ends;
        queued = other_queued (calls_of filling.client) k change ks differs h.queued;
      })

  call_so : {S : Type 0} (k : CallNo) (ks : List CallNo) (found : Option Call) (filling : Filling S) → at k (calls_of filling.client) ≡ found
      → (call : Call) → found ≡ Some call → call.state ≡ table.Queued
      → AllByRecursion (λ (j : CallNo). j.n - 1 ≢ k.n - 1) ks → Holds ks filling.client filling.messages → Holds ks (says_call_at k found filling).client (says_call_at k found filling).messages
  call_so k ks None filling found call is queued differs h = h
  call_so k ks (Some other) filling found call is queued differs h =
      let same : other.state ≡ table.Queued = ap (λ (f : Option Call). state_or f call.state) is ∙ queued in
      turn_so k other ks (turn_of filling.client other) filling found same differs h

  pub calls_so : {S : Type 0} (ks : List CallNo) (filling : Filling S) → AreApart ks → Holds ks filling.client filling.messages
      → Ends (fold says_call filling ks).client (fold says_call filling ks).messages
  calls_so [] filling distinct h = h.ends
  calls_so (k ∷ ks) filling distinct h =
      let rest : Holds ks filling.client filling.messages = record { ends = h.ends; queued = h.queued.1 } in
      calls_so ks (says_call filling k) distinct.1
      (unless_full (Holds ks) filling.is_full filling (says_call_at k (at k (calls_of filling.client)) filling) rest
      (call_so k ks (at k (calls_of filling.client)) filling refl h.queued.0.call h.queued.0.found h.queued.0.queued distinct.0 rest))
