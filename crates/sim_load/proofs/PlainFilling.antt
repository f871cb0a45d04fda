-- A packet is filled at a plain client: it stays plain, and where nothing goes into the packet it is as it was.
use Rattle.std.proofs.Common.{◌≡◌, ◌∙◌, ◌-◌, ℕ, zero, suc, Bool, true, false, ◌&&◌, if◌then◌else◌, Option, Some, None, List, [], ◌∷◌, ◌++◌, refl, ap, sym, subst}
use Rattle.std.specs.Prelude.{IfSome, fold, slice_get}
use Rattle.std.specs.List.{AllByRecursion}
use Rattle.service_tl.specs.declared.item.Item.{Item}
use Rattle.service_tl.specs.declared.item.Item.TheVariants.{RpcDropAnswer, GetFutureSalts, Ping, DestroySession, MsgsAck, MsgsStateReq, MsgsStateInfo, MsgResendReq}
use Rattle.service_tl.specs.declared.lists.Message.{Message}
use Rattle.service_tl.specs.Items.{spelling_of}
use Rattle.packing.specs.Packing.{is_within}
use Rattle.call_table.specs.declared.call.CallNo.{CallNo}
use Rattle.call_table.specs.declared.call.Living.{Living}
use Rattle.call_table.specs.declared.call.Group.TheVariants as group
use Rattle.call_table.specs.Table.{Call, at, group_of, sent}
use Rattle.client_rules.specs.Client.{Client, States, Temporary, after_message, calls_of, is_open, numbered, with_call}
use Rattle.client_rules.specs.Sending.{Setting}
use Rattle.client_rules.specs.Filling.{Filling, Goes, Turn, asks_states, body_behind, changes, empty, fills, goes, number_of, outstanding, says, says_acks, says_binding, says_call, says_call_at, says_destroyed, says_drop, says_drop_of, says_ping, says_resent, says_salts, says_states, says_told, sends_call, takes_turn, turn_after, turn_of, turn_with, undropped}
use Rattle.sim_load.specs.Plain.{FollowsNone, IsPlain}
use Rattle.sim_load.proofs.PlainClients.{call_changed, either, folded}

-- so far: from this client and draw
pub record Holds {S : Type 0} (client : Client) (draw : S) (filling : Filling S) : Type 0 where
  pub plain : IsPlain filling.client
  pub same : filling.messages ≡ [] → (filling.client ≡ client) × (filling.draw ≡ draw)

not-none : {X : Type 0} (xs : List X) (x : X) → xs ++ x ∷ [] ≡ [] → ⊥
not-none [] x is = cc
not-none (y ∷ ys) x is = cc

-- ---- an item

goes-by : {S : Type 0} (client : Client) (draw : S) (message : Message) (leaves : Filling S → Filling S) (filling : Filling S) (full within : Bool)
    → ((one : Filling S) → IsPlain one.client → IsPlain (leaves one).client) → ((one : Filling S) → (leaves one).messages ≡ one.messages) → Holds client draw filling
    → Holds client draw (if full then filling else if within then leaves (record filling { messages = filling.messages ++ message ∷ [] }) else record filling { is_full = true })
goes-by client draw message leaves filling true within keeps stays holds = holds
goes-by client draw message leaves filling false true keeps stays holds =
    let more = record filling { messages = filling.messages ++ message ∷ [] } in
    record { plain = keeps more holds.plain; same = λ none. absurd (not-none filling.messages message (sym (stays more) ∙ none)) }
goes-by client draw message leaves filling false false keeps stays holds = record { plain = holds.plain; same = holds.same }

goes-holds : {S : Type 0} (client : Client) (draw : S) (message : Message) (leaves : Filling S → Filling S) (filling : Filling S)
    → ((one : Filling S) → IsPlain one.client → IsPlain (leaves one).client) → ((one : Filling S) → (leaves one).messages ≡ one.messages) → Holds client draw filling
    → Holds client draw (goes message leaves filling)
goes-holds client draw message leaves filling keeps stays holds =
    goes-by client draw message leaves filling filling.is_full (is_within (filling.messages ++ message ∷ [])) keeps stays holds

says-holds : {S : Type 0} (client : Client) (draw : S) (is_content : Bool) (item : Item) (change : Client → Client) (filling : Filling S)
    → ((one : Client) → IsPlain one → IsPlain (change one)) → Holds client draw filling → Holds client draw (says is_content item change filling)
says-holds client draw is_content item change filling keeps holds =
    goes-holds client draw (numbered is_content (spelling_of item) filling.client) (changes (λ one. change (after_message is_content one))) filling
    (λ one plain. keeps (after_message is_content one.client) (record { key = plain.key; calls = plain.calls })) (λ one. refl) holds

-- ---- what waits beside the calls

acks-hold : {S : Type 0} (client : Client) (draw : S) (acks : List ℕ) (filling : Filling S) → Holds client draw filling → Holds client draw (says_acks acks filling)
acks-hold client draw [] filling holds = holds
acks-hold client draw (ack ∷ acks) filling holds =
    says-holds client draw false (MsgsAck (ack ∷ acks)) (λ (one : Client). record one { table = record one.table { acks = [] } }) filling (λ one plain. record { key = plain.key; calls = plain.calls }) holds

told-holds : {S : Type 0} (client : Client) (draw : S) (told : Option States) (filling : Filling S) → Holds client draw filling → Holds client draw (says_told told filling)
told-holds client draw None filling holds = holds
told-holds client draw (Some states) filling holds =
    says-holds client draw false (MsgsStateInfo states.request states.info) (λ (one : Client). record one { waiting = record one.waiting { told = None } }) filling (λ one plain. record { key = plain.key; calls = plain.calls }) holds

resent-holds : {S : Type 0} (client : Client) (draw : S) (numbers : List ℕ) (filling : Filling S) → Holds client draw filling → Holds client draw (says_resent numbers filling)
resent-holds client draw [] filling holds = holds
resent-holds client draw (number ∷ numbers) filling holds =
    says-holds client draw false (MsgResendReq (number ∷ numbers)) (λ (one : Client). record one { waiting = record one.waiting { resent = [] } }) filling (λ one plain. record { key = plain.key; calls = plain.calls }) holds

states-hold : {S : Type 0} (client : Client) (draw : S) (wish : Bool) (filling : Filling S) → Holds client draw filling → Holds client draw (says_states wish filling)
states-hold client draw false filling holds = holds
states-hold client draw true filling holds =
    says-holds client draw false (MsgsStateReq (outstanding filling.client)) (asks_states (outstanding filling.client)) filling
    (λ one plain. record { key = plain.key; calls = plain.calls }) holds

ping-holds : {S : Type 0} (client : Client) (draw : S) (ping : Option ℕ) (filling : Filling S) → Holds client draw filling → Holds client draw (says_ping ping filling)
ping-holds client draw None filling holds = holds
ping-holds client draw (Some id) filling holds =
    says-holds client draw false (Ping id) (λ (one : Client). record one { waiting = record one.waiting { ping = None } }) filling (λ one plain. record { key = plain.key; calls = plain.calls }) holds

salts-hold : {S : Type 0} (client : Client) (draw : S) (salts : Option ℕ) (filling : Filling S) → Holds client draw filling → Holds client draw (says_salts salts filling)
salts-hold client draw None filling holds = holds
salts-hold client draw (Some count) filling holds =
    says-holds client draw true (GetFutureSalts count) (λ (one : Client). record one { waiting = record one.waiting { salts = None } }) filling (λ one plain. record { key = plain.key; calls = plain.calls }) holds

destroyed-holds : {S : Type 0} (client : Client) (draw : S) (destroyed : Option ℕ) (filling : Filling S) → Holds client draw filling
    → Holds client draw (says_destroyed destroyed filling)
destroyed-holds client draw None filling holds = holds
destroyed-holds client draw (Some session) filling holds =
    let wish = (λ (one : Client). record one { waiting = record one.waiting { destroyed = None } }) in
    either (Holds client draw) (is_open filling.client) (says true (DestroySession session) wish filling) filling
    (says-holds client draw true (DestroySession session) wish filling (λ one plain. record { key = plain.key; calls = plain.calls }) holds) holds

-- under a permanent key none is bound
binding-holds : {S : Type 0} (setting : Setting S) (client : Client) (draw : S) (temporary : Option Temporary) (filling : Filling S) → temporary ≡ None
    → Holds client draw filling → Holds client draw (says_binding setting temporary filling)
binding-holds setting client draw None filling none holds = holds
binding-holds setting client draw (Some temporary) filling none holds = absurd (cc)

-- ---- answers to drop

drop-holds-of : {S : Type 0} (client : Client) (draw : S) (call : CallNo) (number : Option ℕ) (filling : Filling S) → Holds client draw filling
    → Holds client draw (says_drop_of call number filling)
drop-holds-of client draw call None filling holds = holds
drop-holds-of client draw call (Some number) filling holds =
    says-holds client draw true (RpcDropAnswer number) (with_call call undropped) filling (λ one plain. call_changed call undropped (λ call none. none) one plain) holds

drop-holds : {S : Type 0} (client : Client) (draw : S) (filling : Filling S) (call : CallNo) → Holds client draw filling → Holds client draw (says_drop filling call)
drop-holds client draw filling call holds = drop-holds-of client draw call (number_of (at call (calls_of filling.client))) filling holds

-- ---- queued calls

-- what follows none goes when its turn comes
turn-by : (learnt : Bool) (calls : List Call) (after : Option CallNo) (temporary : Option Temporary) → after ≡ None → temporary ≡ None
    → (if learnt then turn_with temporary (turn_after calls after) else turn_after calls after) ≡ Goes None
turn-by true calls None None first second = refl
turn-by false calls None None first second = refl
turn-by learnt calls (Some call) temporary first second = absurd (cc)
turn-by learnt calls None (Some temporary) first second = absurd (cc)

turn-goes : (client : Client) (call : Call) → IsPlain client → FollowsNone call → turn_of client call ≡ Goes None
turn-goes client call plain none = turn-by (is_open client) (calls_of client) call.after client.temporary none plain.key

turn-holds : {S : Type 0} (client : Client) (draw : S) (call : CallNo) (body : List ℕ) (turn : Turn) (filling : Filling S) → turn ≡ Goes None
    → Holds client draw filling → Holds client draw (takes_turn call body turn filling)
turn-holds {S} client draw call body turn filling is holds =
    let message = numbered true (body_behind None body) filling.client in
    let living : Living = record { number = message.number; seq = message.seq; wrap = None } in
    subst (λ (turn : Turn). Holds client draw (takes_turn call body turn filling)) (sym is)
    (goes-holds client draw message (sends_call call None message) filling
    (λ one plain. call_changed call (sent one.client.session living one.client.salt) (λ call none. none) (after_message true one.client)
    (record { key = plain.key; calls = plain.calls }))
    (λ one. refl) holds)

pub all_got : {X : Type 0} (P : X → Type 0) (place : ℕ) (xs : List X) → AllByRecursion P xs → IfSome (slice_get xs place) P
all_got P place [] all = tt
all_got P zero (x ∷ xs) all = all.0
all_got P (suc place) (x ∷ xs) all = all_got P place xs all.1

call-holds-at : {S : Type 0} (client : Client) (draw : S) (number : CallNo) (found : Option Call) (filling : Filling S) → IfSome found FollowsNone
    → Holds client draw filling → Holds client draw (says_call_at number found filling)
call-holds-at client draw number None filling none holds = holds
call-holds-at client draw number (Some call) filling none holds =
    turn-holds client draw number call.body (turn_of filling.client call) filling (turn-goes filling.client call holds.plain none) holds

call-holds : {S : Type 0} (client : Client) (draw : S) (filling : Filling S) (call : CallNo) → Holds client draw filling → Holds client draw (says_call filling call)
call-holds client draw filling call holds =
    either (Holds client draw) filling.is_full filling (says_call_at call (at call (calls_of filling.client)) filling) holds
    (call-holds-at client draw call (at call (calls_of filling.client)) filling (all_got FollowsNone (call.n - 1) (calls_of filling.client) holds.plain.calls) holds)

-- ---- all of it

pub fills-holds : {S : Type 0} (setting : Setting S) (client : Client) (draw : S) → IsPlain client → Holds client draw (fills setting client draw)
fills-holds {S} setting client draw plain =
    let waiting = client.waiting in
    let start : Filling S = empty client draw in
    let begins : Holds client draw start = record { plain = plain; same = λ none. (refl, refl) } in
    let acks = says_acks client.table.acks start in
    let told = says_told waiting.told acks in
    let resent = says_resent waiting.resent told in
    let states = says_states waiting.states resent in
    let ping = says_ping waiting.ping states in
    let salts = says_salts waiting.salts ping in
    let items = says_destroyed waiting.destroyed salts in
    let bound = says_binding setting client.temporary items in
    let drops = fold says_drop bound (group_of group.Dropping (calls_of client)) in
    let first : Holds client draw told = told-holds client draw waiting.told acks (acks-hold client draw client.table.acks start begins) in
    let second : Holds client draw states = states-hold client draw waiting.states resent (resent-holds client draw waiting.resent told first) in
    let third : Holds client draw salts = salts-hold client draw waiting.salts ping (ping-holds client draw waiting.ping states second) in
    let fourth : Holds client draw bound = binding-holds setting client draw client.temporary items plain.key (destroyed-holds client draw waiting.destroyed salts third) in
    folded (Holds client draw) says_call (call-holds client draw) drops (group_of group.Queued (calls_of client))
    (folded (Holds client draw) says_drop (drop-holds client draw) bound (group_of group.Dropping (calls_of client)) fourth)
