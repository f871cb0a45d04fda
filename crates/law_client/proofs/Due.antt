-- A flush that sends a packet leaves less that waits to be sent.
use Rattle.std.proofs.Common.{◌≡◌, ◌∙◌, ◌⊎◌, ◌<◌, ◌≤◌, ◌+◌, ◌*◌, ℕ, zero, suc, Bool, true, false, cond, Option, None, Some, List, [], ◌∷◌, ◌++◌, length, map, ap, sym, subst, refl, arith, inl, inr}
use Rattle.std.specs.Prelude.{◌-◌, ◌&&◌, fold, is_some, option_map, slice_get, nat_lt}
use Rattle.std.specs.List.{AllByRecursion}
use Rattle.std.proofs.lemmas.Bool.{and_parts, cond_both, false≢true}
use Rattle.msg_ids.specs.Counters.{room}
use Rattle.service_tl.specs.declared.item.Item.{Item}
use Rattle.service_tl.specs.declared.item.Item.TheVariants.{RpcDropAnswer, GetFutureSalts, Ping, DestroySession, MsgsAck, MsgsStateReq, MsgsStateInfo, MsgResendReq}
use Rattle.service_tl.specs.declared.lists.Message.{Message}
use Rattle.service_tl.specs.Items.{spelling_of}
use Rattle.packing.specs.Packing.{is_within}
use Rattle.call_table.specs.declared.call.CallNo.{CallNo}
use Rattle.call_table.specs.declared.call.Living.{Living}
use Rattle.call_table.specs.declared.call.Fate.TheVariants as fate
use Rattle.call_table.specs.declared.call.Group.{Group}
use Rattle.call_table.specs.declared.call.Group.TheVariants as group
use Rattle.call_table.specs.Table.{Call, at, call_no, changed_at, group_of, is_in, is_queued, living_name, owner, places_from, sent, settled}
use Rattle.client_rules.specs.Client.{Binding, Asked, Client, States, Temporary, after_message, at_moment, bound_so, calls_of, is_open, numbered, with_binding, with_call}
use Rattle.client_rules.specs.Filling.{Filling, Turn, Goes, Waits, Never, asks_binding, body_behind, changes, empty, fills, goes, is_needed, outstanding, asks_states, says, says_acks, says_binding, says_call, says_call_at, says_destroyed, says_drop, says_drop_of, says_ping, says_resent, says_salts, says_states, says_told, sends_call, number_of, takes_turn, turn_of, undropped}
use Rattle.client_rules.specs.Flush.{Nothing, Spent, Sends, Flushed, Marked, asked_alone, binding_alone, filled, first_marked, flush, gone_again, has_any, marked_at, message_behind, remembers, remembers_lone, room_min, sends, unless_binding, unless_call}
use Rattle.client_rules.specs.Sending.{Packet, Setting, binding_body}
use Rattle.law_client.specs.Due.{due_of, due_of_binding, due_of_call, due_of_calls, has_numbers, one_where}

-- ---- one call is changed

one-most : (holds : Bool) → one_where holds ≤ 1
one-most true = omega arith
one-most false = omega arith

calls-no_more : (change : Call → Call) → ((call : Call) → due_of_call (change call) ≤ due_of_call call)
    → (place : ℕ) (calls : List Call) → due_of_calls (changed_at place change calls) ≤ due_of_calls calls
calls-no_more change no_more place [] = omega arith
calls-no_more change no_more zero (call ∷ calls) = let one = no_more call in omega (arith, one)
calls-no_more change no_more (suc place) (call ∷ calls) = let rest = calls-no_more change no_more place calls in omega (arith, rest)

none-some : {X : Type 0} (x : X) → None ≡ Some x → ⊥
none-some x same = cc

some-is : {X : Type 0} (x y : X) → Some x ≡ Some y → x ≡ y
some-is x y same = cc

calls-less : (change : Call → Call) (place : ℕ) (calls : List Call) (call : Call) → slice_get calls place ≡ Some call → due_of_call (change call) < due_of_call call
    → due_of_calls (changed_at place change calls) < due_of_calls calls
calls-less change place [] call is less = absurd (none-some call is)
calls-less change zero (other ∷ calls) call is less =
    let same : other ≡ call = some-is other call is in
    let one = subst (λ (call : Call). due_of_call (change call) < due_of_call call) (sym same) less in
    omega (arith, one)
calls-less change (suc place) (other ∷ calls) call is less = let rest = calls-less change place calls call is less in omega (arith, rest)

-- ---- the members of a group

-- the call of this number is of the group
abbrev IsOne : Group → List Call → CallNo → Type 0
IsOne group calls number = (call : Call) → at number calls ≡ Some call → is_in group call ≡ true

-- the member of this place, where the first one has the place k, passes the test
abbrev IsPlaced : (Call → Bool) → ℕ → List Call → ℕ → Type 0
IsPlaced test k calls place = (k ≤ place) × ((call : Call) → slice_get calls (place - k) ≡ Some call → test call ≡ true)

placed-later : (test : Call → Bool) (k : ℕ) (first : Call) (calls : List Call) (place : ℕ) → IsPlaced test (k + 1) calls place → IsPlaced test k (first ∷ calls) place
placed-later test k first calls place (le, is) =
    let e : place - k ≡ suc (place - (k + 1)) = omega (arith, le) in
    (omega (arith, le), λ call found. is call (sym (ap (λ (n : ℕ). slice_get (first ∷ calls) n) e) ∙ found))

all-later : (test : Call → Bool) (k : ℕ) (first : Call) (calls : List Call) (places : List ℕ) → AllByRecursion (IsPlaced test (k + 1) calls) places
    → AllByRecursion (IsPlaced test k (first ∷ calls)) places
all-later test k first calls [] all = tt
all-later test k first calls (place ∷ places) all = (placed-later test k first calls place all.0, all-later test k first calls places all.1)

placed-first : (test : Call → Bool) (k : ℕ) (first : Call) (calls : List Call) → test first ≡ true → IsPlaced test k (first ∷ calls) k
placed-first test k first calls is =
    let e : k - k ≡ 0 = omega arith in (
      omega arith,
      λ call found.
          let same : first ≡ call = some-is first call (sym (ap (λ (n : ℕ). slice_get (first ∷ calls) n) e) ∙ found) in
          subst (λ (call : Call). test call ≡ true) same is,
    )

places-are : (test : Call → Bool) (k : ℕ) (calls : List Call) → AllByRecursion (IsPlaced test k calls) (places_from test k calls)
places-are test k [] = tt
places-are test k (call ∷ calls) =
    let rest = all-later test k call calls (places_from test (k + 1) calls) (places-are test (k + 1) calls) in
    cond_both (test call) (k ∷ places_from test (k + 1) calls) (places_from test (k + 1) calls) (AllByRecursion (IsPlaced test k (call ∷ calls)))
    (λ is. (placed-first test k call calls is, rest)) (λ is. rest)

ones : (group : Group) (calls : List Call) (places : List ℕ) → AllByRecursion (IsPlaced (is_in group) 0 calls) places → AllByRecursion (IsOne group calls) (map call_no places)
ones group calls [] all = tt
ones group calls (place ∷ places) all =
    let e : place + 1 - 1 ≡ place - 0 = omega arith in
    (λ call found. all.0.1 call (sym (ap (λ (n : ℕ). slice_get calls n) e) ∙ found), ones group calls places all.1)

all-ones : (group : Group) (calls : List Call) → AllByRecursion (IsOne group calls) (group_of group calls)
all-ones group calls = ones group calls (places_from (is_in group) 0 calls) (places-are (is_in group) 0 calls)

-- ---- a packet is filled

-- what waits is less than at this client; or the client is that one, and no message went into the packet so far
abbrev IsLess : {S : Type 0} → Client → Filling S → Type 0
IsLess client filling = (due_of filling.client < due_of client) ⊎ ((filling.client ≡ client) × (filling.messages ≡ []))

goes-less : {S : Type 0} (client : Client) (message : Message) (leaves : Filling S → Filling S) (filling : Filling S)
    → due_of (leaves (record filling { messages = filling.messages ++ message ∷ [] })).client ≤ due_of filling.client
    → (filling.client ≡ client → due_of (leaves (record filling { messages = filling.messages ++ message ∷ [] })).client < due_of client)
    → IsLess client filling → IsLess client (goes message leaves filling)
goes-less {S} client message leaves filling no_more less so_far =
    let with_it : Filling S = leaves (record filling { messages = filling.messages ++ message ∷ [] }) in
    let full : Filling S = record filling { is_full = true } in
    let within = is_within (filling.messages ++ message ∷ []) in
    let gone : IsLess client with_it = elim so_far [
      | inl before ↦ inl (omega (arith, no_more, before))
      | inr untouched ↦ inl (less untouched.0)
    ] in
    let stays : IsLess client full = elim so_far [
      | inl before ↦ inl before
      | inr untouched ↦ inr untouched
    ] in
    cond_both filling.is_full filling (cond within with_it full) (IsLess client) (λ is. so_far)
    (λ is. cond_both within with_it full (IsLess client) (λ is. gone) (λ is. stays))

says-less : {S : Type 0} (client : Client) (is_content : Bool) (item : Item) (change : Client → Client) (filling : Filling S)
    → ((one : Client) → due_of (change (after_message is_content one)) ≤ due_of one)
    → (filling.client ≡ client → due_of (change (after_message is_content client)) < due_of client)
    → IsLess client filling → IsLess client (says is_content item change filling)
says-less {S} client is_content item change filling no_more less so_far =
    goes-less client (numbered is_content (spelling_of item) filling.client) (changes (λ client. change (after_message is_content client))) filling
    (no_more filling.client)
    (λ same. subst (λ (one : Client). due_of (change (after_message is_content one)) < due_of client) (sym same) (less same)) so_far

-- ---- what waits beside the calls

acks-less : {S : Type 0} (client : Client) (acks : List ℕ) (filling : Filling S) → acks ≡ client.table.acks → IsLess client filling → IsLess client (says_acks acks filling)
acks-less client [] filling is so_far = so_far
acks-less client (ack ∷ acks) filling is so_far =
    let some : 1 ≡ one_where (has_numbers client.table.acks) = ap (λ (numbers : List ℕ). one_where (has_numbers numbers)) is in
    says-less client false (MsgsAck (ack ∷ acks)) (λ client. record client { table = record client.table { acks = [] } }) filling
    (λ one. omega arith) (λ same. omega (arith, some)) so_far

told-less : {S : Type 0} (client : Client) (told : Option States) (filling : Filling S) → told ≡ client.waiting.told → IsLess client filling → IsLess client (says_told told filling)
told-less client None filling is so_far = so_far
told-less client (Some states) filling is so_far =
    let some : 1 ≡ one_where (is_some client.waiting.told) = ap (λ (told : Option States). one_where (is_some told)) is in
    says-less client false (MsgsStateInfo states.request states.info) (λ client. record client { waiting = record client.waiting { told = None } }) filling
    (λ one. omega arith) (λ same. omega (arith, some)) so_far

resent-less : {S : Type 0} (client : Client) (numbers : List ℕ) (filling : Filling S) → numbers ≡ client.waiting.resent → IsLess client filling → IsLess client (says_resent numbers filling)
resent-less client [] filling is so_far = so_far
resent-less client (number ∷ numbers) filling is so_far =
    let some : 1 ≡ one_where (has_numbers client.waiting.resent) = ap (λ (numbers : List ℕ). one_where (has_numbers numbers)) is in
    says-less client false (MsgResendReq (number ∷ numbers)) (λ client. record client { waiting = record client.waiting { resent = [] } }) filling
    (λ one. omega arith) (λ same. omega (arith, some)) so_far

states-less : {S : Type 0} (client : Client) (states : Bool) (filling : Filling S) → states ≡ client.waiting.states → IsLess client filling → IsLess client (says_states states filling)
states-less client false filling is so_far = so_far
states-less client true filling is so_far =
    let some : 1 ≡ one_where client.waiting.states = ap one_where is in
    says-less client false (MsgsStateReq (outstanding filling.client)) (asks_states (outstanding filling.client)) filling
    (λ one. omega arith) (λ same. omega (arith, some)) so_far

ping-less : {S : Type 0} (client : Client) (ping : Option ℕ) (filling : Filling S) → ping ≡ client.waiting.ping → IsLess client filling → IsLess client (says_ping ping filling)
ping-less client None filling is so_far = so_far
ping-less client (Some id) filling is so_far =
    let some : 1 ≡ one_where (is_some client.waiting.ping) = ap (λ (ping : Option ℕ). one_where (is_some ping)) is in
    says-less client false (Ping id) (λ client. record client { waiting = record client.waiting { ping = None } }) filling
    (λ one. omega arith) (λ same. omega (arith, some)) so_far

salts-less : {S : Type 0} (client : Client) (salts : Option ℕ) (filling : Filling S) → salts ≡ client.waiting.salts → IsLess client filling → IsLess client (says_salts salts filling)
salts-less client None filling is so_far = so_far
salts-less client (Some count) filling is so_far =
    let some : 1 ≡ one_where (is_some client.waiting.salts) = ap (λ (salts : Option ℕ). one_where (is_some salts)) is in
    says-less client true (GetFutureSalts count) (λ client. record client { waiting = record client.waiting { salts = None } }) filling
    (λ one. omega arith) (λ same. omega (arith, some)) so_far

destroyed-less : {S : Type 0} (client : Client) (destroyed : Option ℕ) (filling : Filling S) → destroyed ≡ client.waiting.destroyed → IsLess client filling
    → IsLess client (says_destroyed destroyed filling)
destroyed-less client None filling is so_far = so_far
destroyed-less {S} client (Some session) filling is so_far =
    let some : 1 ≡ one_where (is_some client.waiting.destroyed) = ap (λ (destroyed : Option ℕ). one_where (is_some destroyed)) is in
    let change : Client → Client = λ client. record client { waiting = record client.waiting { destroyed = None } } in
    cond_both (is_open filling.client) (says true (DestroySession session) change filling) filling (IsLess client)
    (λ opened. says-less client true (DestroySession session) change filling (λ one. omega arith) (λ same. omega (arith, some)) so_far)
    (λ opened. so_far)

-- ---- the binding

bound-none : (message : Message) (temporary : Option Temporary) → due_of_binding (option_map (bound_so (Asked message)) temporary) ≡ 0
bound-none message None = refl
bound-none message (Some temporary) = refl

binding-less : {S : Type 0} (setting : Setting S) (client : Client) (temporary : Option Temporary) (filling : Filling S) → temporary ≡ client.temporary → IsLess client filling
    → IsLess client (says_binding setting temporary filling)
binding-less setting client None filling is so_far = so_far
binding-less {S} setting client (Some temporary) filling is so_far =
    let unsaid = numbered true [] filling.client in
    let body = binding_body setting filling.client temporary unsaid.number filling.draw in
    let message : Message = record unsaid { body = body } in
    cond_both (is_needed temporary.binding && is_open filling.client) (goes message (asks_binding setting message) filling) filling (IsLess client)
    (λ needed.
    let some : one_where temporary.is_alone + one_where (is_needed temporary.binding) ≡ due_of_binding client.temporary = ap due_of_binding is in
    let one : one_where (is_needed temporary.binding) ≡ 1 = ap one_where (and_parts (is_needed temporary.binding) (is_open filling.client) needed).0 in
    let none = bound-none message filling.client.temporary in
    let none_there = bound-none message client.temporary in
    goes-less client message (asks_binding setting message) filling (omega (arith, none))
    (λ same. subst (λ (one : Client). due_of (with_binding (Asked message) (after_message true one)) < due_of client) (sym same) (omega (arith, some, one, none_there))) so_far)
    (λ needed. so_far)

-- ---- answers to drop, and queued calls

drop-of-less : {S : Type 0} (client : Client) (call : CallNo) (number : Option ℕ) (filling : Filling S) → ((one : Client) → due_of (with_call call undropped (after_message true one)) ≤ due_of one)
    → (filling.client ≡ client → due_of (with_call call undropped (after_message true client)) < due_of client) → IsLess client filling → IsLess client (says_drop_of call number filling)
drop-of-less client call None filling no_more less so_far = so_far
drop-of-less client call (Some number) filling no_more less so_far = says-less client true (RpcDropAnswer number) (with_call call undropped) filling no_more less so_far

undropped-no_more : (call : Call) → due_of_call (undropped call) ≤ due_of_call call
undropped-no_more call = omega arith

drop-no_more : (call : CallNo) (one : Client) → due_of (with_call call undropped (after_message true one)) ≤ due_of one
drop-no_more call one = let calls = calls-no_more undropped undropped-no_more (call.n - 1) (calls_of one) in omega (arith, calls)

drop-at-less : {S : Type 0} (client : Client) (call : CallNo) (found : Option Call) (filling : Filling S) → at call (calls_of filling.client) ≡ found → IsOne group.Dropping (calls_of client) call
    → IsLess client filling → IsLess client (says_drop_of call (number_of found) filling)
drop-at-less client call None filling is one so_far = so_far
drop-at-less client call (Some its) filling is one so_far =
    drop-of-less client call (number_of (Some its)) filling (drop-no_more call)
    (λ same.
    let there : at call (calls_of client) ≡ Some its = ap (λ (one : Client). at call (calls_of one)) (sym same) ∙ is in
    let flag : one_where its.flags.dropping ≡ 1 = ap one_where (one its there) in
    let less : due_of_call (undropped its) < due_of_call its = omega (arith, flag) in
    let calls = calls-less undropped (call.n - 1) (calls_of client) its there less in
    omega (arith, calls)) so_far

drops-less : {S : Type 0} (client : Client) (numbers : List CallNo) (filling : Filling S) → AllByRecursion (IsOne group.Dropping (calls_of client)) numbers
    → IsLess client filling → IsLess client (fold says_drop filling numbers)
drops-less client [] filling all so_far = so_far
drops-less client (call ∷ others) filling all so_far =
    drops-less client others (says_drop filling call) all.1 (drop-at-less client call (at call (calls_of filling.client)) filling refl all.0 so_far)

sent-no_more : (session salt : ℕ) (living : Living) (call : Call) → due_of_call (sent session living salt call) ≤ due_of_call call
sent-no_more session salt living call = omega arith

never-no_more : (call : Call) → due_of_call (settled (fate.Refused 0) call) ≤ due_of_call call
never-no_more call = omega arith

turn-less : {S : Type 0} (client : Client) (call : CallNo) (its : Call) (turn : Turn) (filling : Filling S) → at call (calls_of filling.client) ≡ Some its
    → IsOne group.Queued (calls_of client) call → IsLess client filling → IsLess client (takes_turn call its.body turn filling)
turn-less {S} client call its (Goes wrap) filling is one so_far =
    let message = numbered true (body_behind wrap its.body) filling.client in
    let living : Living = record { number = message.number; seq = message.seq; wrap = wrap } in
    let change : Call → Call = sent filling.client.session living filling.client.salt in
    let no_more = calls-no_more change (sent-no_more filling.client.session filling.client.salt living) (call.n - 1) (calls_of filling.client) in
    goes-less client message (sends_call call wrap message) filling (omega (arith, no_more))
    (λ same.
    let queued : is_queued its.state ≡ true = one its (ap (λ (one : Client). at call (calls_of one)) (sym same) ∙ is) in
    let flag : one_where (is_queued its.state) ≡ 1 = ap one_where queued in
    let less : due_of_call (change its) < due_of_call its = omega (arith, flag) in
    let calls = calls-less change (call.n - 1) (calls_of filling.client) its is less in
    let whole : due_of filling.client ≡ due_of client = ap due_of same in
    omega (arith, calls, whole)) so_far
turn-less client call its Waits filling is one so_far = so_far
turn-less {S} client call its Never filling is one so_far =
    let change : Call → Call = settled (fate.Refused 0) in
    elim so_far [
      | inl before ↦
          let no_more = calls-no_more change never-no_more (call.n - 1) (calls_of filling.client) in
          inl (omega (arith, no_more, before))
      | inr untouched ↦
          let same : filling.client ≡ client = untouched.0 in
          let queued : is_queued its.state ≡ true = one its (ap (λ (one : Client). at call (calls_of one)) (sym same) ∙ is) in
          let flag : one_where (is_queued its.state) ≡ 1 = ap one_where queued in
          let less : due_of_call (change its) < due_of_call its = omega (arith, flag) in
          let calls = calls-less change (call.n - 1) (calls_of filling.client) its is less in
          let whole : due_of filling.client ≡ due_of client = ap due_of same in
          inl (omega (arith, calls, whole))
    ]

call-at-less : {S : Type 0} (client : Client) (call : CallNo) (found : Option Call) (filling : Filling S) → at call (calls_of filling.client) ≡ found
    → IsOne group.Queued (calls_of client) call → IsLess client filling → IsLess client (says_call_at call found filling)
call-at-less client call None filling is one so_far = so_far
call-at-less client call (Some its) filling is one so_far = turn-less client call its (turn_of filling.client its) filling is one so_far

calls-all-less : {S : Type 0} (client : Client) (numbers : List CallNo) (filling : Filling S) → AllByRecursion (IsOne group.Queued (calls_of client)) numbers
    → IsLess client filling → IsLess client (fold says_call filling numbers)
calls-all-less client [] filling all so_far = so_far
calls-all-less {S} client (call ∷ others) filling all so_far =
    let its = at call (calls_of filling.client) in
    calls-all-less client others (says_call filling call) all.1
    (cond_both filling.is_full filling (says_call_at call its filling) (IsLess client) (λ is. so_far) (λ is. call-at-less client call its filling refl all.0 so_far))

-- ---- all of it

fills-less : {S : Type 0} (setting : Setting S) (client : Client) (draw : S) → IsLess client (fills setting client draw)
fills-less {S} setting client draw =
    let waiting = client.waiting in
    let begun : Filling S = empty client draw in
    let acks : Filling S = says_acks client.table.acks begun in
    let told : Filling S = says_told waiting.told acks in
    let resent : Filling S = says_resent waiting.resent told in
    let states : Filling S = says_states waiting.states resent in
    let ping : Filling S = says_ping waiting.ping states in
    let salts : Filling S = says_salts waiting.salts ping in
    let items : Filling S = says_destroyed waiting.destroyed salts in
    let bound : Filling S = says_binding setting client.temporary items in
    let drops : Filling S = fold says_drop bound (group_of group.Dropping (calls_of client)) in
    let one : IsLess client acks = acks-less client client.table.acks begun refl (inr (refl, refl)) in
    let two : IsLess client told = told-less client waiting.told acks refl one in
    let three : IsLess client resent = resent-less client waiting.resent told refl two in
    let four : IsLess client states = states-less client waiting.states resent refl three in
    let five : IsLess client ping = ping-less client waiting.ping states refl four in
    let six : IsLess client salts = salts-less client waiting.salts ping refl five in
    let seven : IsLess client items = destroyed-less client waiting.destroyed salts refl six in
    let eight : IsLess client bound = binding-less setting client client.temporary items refl seven in
    let nine : IsLess client drops = drops-less client (group_of group.Dropping (calls_of client)) bound (all-ones group.Dropping (calls_of client)) eight in
    calls-all-less client (group_of group.Queued (calls_of client)) drops (all-ones group.Queued (calls_of client)) nine

-- ---- what goes alone

-- where there is a message, less waits
abbrev LeavesLess : {S : Type 0} → Client → Filling S → Type 0
LeavesLess client filling = has_any filling.messages ≡ true → due_of filling.client < due_of client

fills-leave : {S : Type 0} (setting : Setting S) (client : Client) (draw : S) → LeavesLess client (fills setting client draw)
fills-leave {S} setting client draw some =
    elim (fills-less setting client draw) [
      | inl less ↦ less
      | inr untouched ↦ absurd (false≢true (sym (ap has_any untouched.1) ∙ some))
    ]

marked-by : (calls : List Call) (number : CallNo) (call : Call) (message : Option Message) (marked : Marked) → at number calls ≡ Some call
    → option_map (λ message. record { call = number; message = message }) message ≡ Some marked → (call : Call) × (at marked.call calls ≡ Some call) × (number ≡ marked.call)
marked-by calls number call None marked is found = absurd (none-some marked found)
marked-by calls number call (Some message) marked is found =
    let made : Marked = record { call = number; message = message } in
    let same : number ≡ marked.call = ap (λ (one : Marked). one.call) (some-is made marked found) in
    (call, subst (λ (number : CallNo). at number calls ≡ Some call) same is, same)

marked-is : (calls : List Call) (number : CallNo) (found : Option Call) (marked : Marked) → at number calls ≡ found → marked_at number found ≡ Some marked
    → (call : Call) × (at marked.call calls ≡ Some call) × (number ≡ marked.call)
marked-is calls number None marked is found = absurd (none-some marked found)
marked-is calls number (Some call) marked is found =
    let message = message_behind call.body (living_name call) in
    marked-by calls number call message marked is found

first-is : (calls : List Call) (numbers : List CallNo) (marked : Marked) → AllByRecursion (IsOne group.Alone calls) numbers → first_marked calls numbers ≡ Some marked
    → (call : Call) × (at marked.call calls ≡ Some call) × (call.flags.alone ≡ true)
first-is calls [] marked all found = absurd (none-some marked found)
first-is calls (number ∷ others) marked all found =
    let is = marked-is calls number (at number calls) marked refl found in
    let one : IsOne group.Alone calls marked.call = subst (IsOne group.Alone calls) is.2 all.0 in
    (is.0, is.1, one is.0 is.1)

again-no_more : (salt : ℕ) (call : Call) → call.flags.alone ≡ true → due_of_call (gone_again salt call) < due_of_call call
again-no_more salt call is = let flag : one_where call.flags.alone ≡ 1 = ap one_where is in omega (arith, flag)

call-leaves : {S : Type 0} (setting : Setting S) (marked : Option Marked) (client : Client) (draw : S) → first_marked (calls_of client) (group_of group.Alone (calls_of client)) ≡ marked
    → LeavesLess client (unless_call setting marked client draw)
call-leaves setting None client draw is = fills-leave setting client draw
call-leaves setting (Some marked) client draw is = λ some.
    let found = first-is (calls_of client) (group_of group.Alone (calls_of client)) marked (all-ones group.Alone (calls_of client)) is in
    let calls = calls-less (gone_again client.salt) (marked.call.n - 1) (calls_of client) found.0 found.1 (again-no_more client.salt found.0 found.2) in
    omega (arith, calls)

alone-waits : (is_alone : Bool) (binding : Binding) (message : Message) → asked_alone is_alone binding ≡ Some message → is_alone ≡ true
alone-waits true binding message is = refl
alone-waits false binding message is = absurd (none-some message is)

binding-waits : (temporary : Option Temporary) (message : Message) → binding_alone temporary ≡ Some message → 0 < due_of_binding temporary
binding-waits None message is = absurd (none-some message is)
binding-waits (Some temporary) message is =
    let flag : one_where temporary.is_alone ≡ 1 = ap one_where (alone-waits temporary.is_alone temporary.binding message is) in
    omega (arith, flag)

filled-leaves : {S : Type 0} (setting : Setting S) (alone : Option Message) (client : Client) (draw : S) → binding_alone client.temporary ≡ alone
    → LeavesLess client (unless_binding setting alone client draw)
filled-leaves setting None client draw is = call-leaves setting (first_marked (calls_of client) (group_of group.Alone (calls_of client))) client draw refl
filled-leaves setting (Some message) client draw is = λ some.
    let waits = binding-waits client.temporary message is in
    let none = bound-none message client.temporary in
    omega (arith, waits, none)

-- ---- a flush

abbrev Gives : {S : Type 0} → Client → Packet → Flushed S → Type 0
Gives client packet done = done.answer ≡ Sends packet → due_of done.client < due_of client

nothing-sends : (packet : Packet) → Nothing ≡ Sends packet → ⊥
nothing-sends packet same = cc

spent-sends : (packet : Packet) → Spent ≡ Sends packet → ⊥
spent-sends packet same = cc

lone-same : (number : ℕ) (inner : List ℕ) (client : Client) → due_of (remembers_lone number inner client) ≡ due_of client
lone-same number inner client =
    cond_both (is_some (owner number (calls_of client))) client (remembers number inner client) (λ (one : Client). due_of one ≡ due_of client) (λ is. refl) (λ is. refl)

sends-less : {S : Type 0} (setting : Setting S) (messages : List Message) (filling : Filling S) (client : Client) (packet : Packet)
    → (has_any messages ≡ true → due_of filling.client < due_of client) → Gives client packet (sends setting messages filling)
sends-less setting [] filling client packet less = λ is. absurd (nothing-sends packet is)
sends-less setting (message ∷ []) filling client packet less = λ is.
    let one = less refl in
    let same = lone-same message.number filling.inner filling.client in
    omega (arith, one, same)
sends-less setting (message ∷ (other ∷ messages)) filling client packet less = λ is. less refl

pub flush-less : {S : Type 0} (setting : Setting S) (now : ℕ) (client : Client) (draw : S) (packet : Packet) → (flush setting now client draw).answer ≡ Sends packet
    → due_of (flush setting now client draw).client < due_of client
flush-less {S} setting now client draw packet =
    let ready : Client = at_moment now client in
    let filling : Filling S = filled setting ready draw in
    let less : has_any filling.messages ≡ true → due_of filling.client < due_of client = filled-leaves setting (binding_alone ready.temporary) ready draw refl in
    let spent : Flushed S = record { answer = Spent; client = client; draw = draw } in
    let few = nat_lt (room client.counters) room_min in
    cond_both (has_any filling.messages) (cond few spent (sends setting filling.messages filling)) (sends setting [] filling) (Gives client packet)
    (λ some. cond_both few spent (sends setting filling.messages filling) (Gives client packet)
    (λ is same. absurd (spent-sends packet same)) (λ is. sends-less setting filling.messages filling client packet less))
    (λ none same. absurd (nothing-sends packet same))

-- ---- how much may wait

calls-few : (calls : List Call) → due_of_calls calls ≤ 3 * length calls
calls-few [] = omega arith
calls-few (call ∷ calls) =
    let one = one-most call.flags.alone in
    let two = one-most call.flags.dropping in
    let three = one-most (is_queued call.state) in
    let rest = calls-few calls in
    omega (arith, one, two, three, rest)

binding-few : (temporary : Option Temporary) → due_of_binding temporary ≤ 2
binding-few None = omega arith
binding-few (Some temporary) = let one = one-most temporary.is_alone in let two = one-most (is_needed temporary.binding) in omega (arith, one, two)

pub due-few : (client : Client) → due_of client ≤ 9 + 3 * length (calls_of client)
due-few client =
    let waiting = client.waiting in
    let acks = one-most (has_numbers client.table.acks) in
    let told = one-most (is_some waiting.told) in
    let resent = one-most (has_numbers waiting.resent) in
    let states = one-most waiting.states in
    let ping = one-most (is_some waiting.ping) in
    let salts = one-most (is_some waiting.salts) in
    let destroyed = one-most (is_some waiting.destroyed) in
    let binding = binding-few client.temporary in
    let calls = calls-few (calls_of client) in
    omega (arith, acks, told, resent, states, ping, salts, destroyed, binding, calls)
