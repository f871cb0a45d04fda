-- An item goes into a packet, or doesn't fit.
use Rattle.std.proofs.Common.{◌≡◌, ◌∙◌, ℕ, suc, drop, ◌+◌, Bool, true, false, Option, Some, None, List, [], ◌∷◌, ◌++◌, length, ap, refl, sym, subst, inl, inr, arith}
use Rattle.std.specs.Prelude.{◌≢◌, ◌==◌, ◌-◌, IfSome, option_map, slice_get, ◌&&◌, not, nat_le, if◌then◌else◌}
use Rattle.std.proofs.lemmas.Bool.{cases_Bool, eqb-true, false≢true, true≢false}
use Rattle.std.proofs.lemmas.List.{length_push}
use Rattle.std.proofs.lemmas.List.Sums.{sum_by-append}
use Rattle.service_tl.specs.declared.lists.Message.{Message}
use Rattle.service_tl.specs.declared.item.Item.TheVariants.{DestroySession, MsgsAck, MsgResendReq, RpcDropAnswer}
use Rattle.service_tl.specs.Items.{spelling_of}
use Rattle.msg_ids.specs.Counters.{Counters, after_next}
use Rattle.containers.specs.Container.{bytes_max, container_head, message_head, messages_max, size_of}
use Rattle.packing.specs.Packing.{is_within}
use Rattle.call_table.specs.declared.call.CallNo.{CallNo}
use Rattle.call_table.specs.declared.call.Flags.{Flags}
use Rattle.call_table.specs.declared.call.Group.TheVariants as group
use Rattle.call_table.specs.Table.{State, Call, Table, at, flagged, no_calls, sent, with_call as with_call_in}
use Rattle.call_table.specs.Kept.{Contents as Calls, Stands as StandsFor}
use Rattle.client_rules.specs.Client.{Client, after_message, calls_of, is_open, numbered, time_of, with_call}
use Rattle.client_rules.specs.Filling.{Filling, changes, Turn, Goes as Going, body_behind, goes, says, says_acks, says_call, says_call_at, says_destroyed, says_drop, says_drop_of, says_resent, number_of, sends_call, takes_turn, turn_of, undropped}
use Rattle.client_core.specs.Kept.{Contents, Stands}
use Rattle.client_core.specs.Draft.{Draft, Goes, Holds, LeavesQueue, drops, queue, enters, filled_up, item_of, needs_answer, said_bytes, said_message}
use Rattle.client_core.specs.declared.saying.Outgoing.{Outgoing}
use Rattle.client_core.specs.Calling.{living_of}
use Rattle.client_core.proofs.CallLemmas.{same_at, value}
use Rattle.client_core.proofs.QueueLemmas.{left_group}

abbrev lies_within : ℕ → Draft → Bool
lies_within size draft = nat_le (draft.count + 1) messages_max && nat_le (container_head + length draft.rows + message_head + size) bytes_max

within_is : (draft : Draft) (messages : List Message) (message : Message) (size : ℕ) → Holds draft messages → length message.body ≡ size
    → is_within (messages ++ message ∷ []) ≡ lies_within size draft
within_is draft messages message size holds sized =
    let count : length (messages ++ message ∷ []) ≡ draft.count + 1 = omega (arith, length_push messages message, holds.count) in
    let bytes : size_of (messages ++ message ∷ []) ≡ container_head + length draft.rows + message_head + size =
    omega (arith, sum_by-append (λ (one : Message). message_head + length one.body) messages (message ∷ []), holds.size, sized) in
    ap (λ n. nat_le n messages_max && nat_le (size_of (messages ++ message ∷ [])) bytes_max) count
    ∙ ap (λ n. nat_le (draft.count + 1) messages_max && nat_le n bytes_max) bytes

abbrev picks : {X : Type 0} → Bool → Bool → X → X → X → X
picks full within stays leaves fills = if full then stays else if within then leaves else fills

picks_in : {X : Type 0} (full within : Bool) (stays leaves fills : X) → (not full && within) ≡ true → picks full within stays leaves fills ≡ leaves
picks_in true within stays leaves fills is = absurd (false≢true is)
picks_in false true stays leaves fills is = refl
picks_in false false stays leaves fills is = absurd (false≢true is)

picks_full : {X : Type 0} (full within : Bool) (stays leaves fills : X) → full ≡ true → picks full within stays leaves fills ≡ stays
picks_full full within stays leaves fills is = ap (λ b. picks b within stays leaves fills) is

picks_out : {X : Type 0} (full within : Bool) (stays leaves fills : X) → full ≡ false → (not full && within) ≡ false → picks full within stays leaves fills ≡ fills
picks_out true within stays leaves fills still is = absurd (true≢false still)
picks_out false true stays leaves fills still is = absurd (true≢false is)
picks_out false false stays leaves fills still is = refl

enters_is : {S : Type 0} (core : Contents) (draft : Draft) (filling : Filling S) (message : Message) (size : ℕ) → Goes core draft filling → length message.body ≡ size
    → (not filling.is_full && is_within (filling.messages ++ message ∷ [])) ≡ enters size draft
enters_is core draft filling message size is sized =
    ap (λ within. not filling.is_full && within) (within_is draft filling.messages message size is.messages sized)
    ∙ ap (λ full. not full && lies_within size draft) (sym is.is_full)

-- it fits, and goes
pub goes_in : {S : Type 0} (core : Contents) (draft : Draft) (filling : Filling S) (message : Message) (leaves : Filling S → Filling S) (size : ℕ)
    → Goes core draft filling → length message.body ≡ size → enters size draft ≡ true
    → goes message leaves filling ≡ leaves (record filling { messages = filling.messages ++ message ∷ [] })
goes_in core draft filling message leaves size is sized fits =
    picks_in filling.is_full (is_within (filling.messages ++ message ∷ [])) filling (leaves (record filling { messages = filling.messages ++ message ∷ [] })) (record filling { is_full = true })
    (enters_is core draft filling message size is sized ∙ fits)

-- it doesn't, and none goes from then on
pub goes_out : {S : Type 0} (core : Contents) (draft : Draft) (filling : Filling S) (message : Message) (leaves : Filling S → Filling S) (size : ℕ)
    → Goes core draft filling → length message.body ≡ size → enters size draft ≡ false
    → Goes core (filled_up draft) (goes message leaves filling)
goes_out core draft filling message leaves size is sized fits =
    let within = is_within (filling.messages ++ message ∷ []) in
    let gone = leaves (record filling { messages = filling.messages ++ message ∷ [] }) in
    let all = record filling { is_full = true } in
    let holds : Holds (filled_up draft) filling.messages = record { rows = is.messages.rows; size = is.messages.size; count = is.messages.count; last = is.messages.last } in
    elim (cases_Bool filling.is_full) [
      | inl full ↦ subst (Goes core (filled_up draft)) (sym (picks_full filling.is_full within filling gone all full))
          (record { client = is.client; messages = holds; inner = is.inner; is_full = sym full })
      | inr room ↦ subst (Goes core (filled_up draft)) (sym (picks_out filling.is_full within filling gone all room (enters_is core draft filling message size is sized ∙ fits)))
          (record { client = is.client; messages = holds; inner = is.inner; is_full = refl })
    ]

-- and what a filling tells stays
pub goes_out_keeps : {S X : Type 0} (tells : Filling S → X) (core : Contents) (draft : Draft) (filling : Filling S) (message : Message) (leaves : Filling S → Filling S) (size : ℕ)
    → Goes core draft filling → length message.body ≡ size → enters size draft ≡ false → tells (record filling { is_full = true }) ≡ tells filling
    → tells (goes message leaves filling) ≡ tells filling
goes_out_keeps tells core draft filling message leaves size is sized fits stays =
    let within = is_within (filling.messages ++ message ∷ []) in
    let gone = leaves (record filling { messages = filling.messages ++ message ∷ [] }) in
    let all = record filling { is_full = true } in
    elim (cases_Bool filling.is_full) [
      | inl full ↦ ap tells (picks_full filling.is_full within filling gone all full)
      | inr room ↦ ap tells (picks_out filling.is_full within filling gone all room (enters_is core draft filling message size is sized ∙ fits)) ∙ stays
    ]

-- the client changes besides
pub goes_so : {S : Type 0} (core inside new : Contents) (draft : Draft) (filling : Filling S) (change : Client → Client)
    → inside ≡ core → Goes core draft filling
    → ((client : Client) → inside.rest ≡ record client { table = no_calls } → new.rest ≡ record (change client) { table = no_calls })
    → ((client : Client) → StandsFor inside.calls client.table → StandsFor new.calls (change client).table)
    → Goes new draft (changes change filling)
goes_so core inside new draft filling change same is rest calls =
    record {
      client = record {
        rest = rest filling.client (ap (λ (own : Contents). own.rest) same ∙ is.client.rest);
        calls = calls filling.client (subst (λ (kept : Calls). StandsFor kept filling.client.table) (sym (ap (λ (own : Contents). own.calls) same)) is.client.calls);
      };
      messages = is.messages;
      inner = is.inner;
      is_full = is.is_full;
    }

-- a field of the client, by what is kept
pub told : {X : Type 0} (core inside : Contents) (client : Client) (field : Client → X) → inside ≡ core → Stands core client
    → field inside.rest ≡ field (record client { table = no_calls })
told core inside client field same stands = ap field (ap (λ (own : Contents). own.rest) same ∙ stands.rest)

-- a former session is destroyed by an open client alone
pub destroys : {S : Type 0} (session : ℕ) (filling : Filling S) → is_open filling.client ≡ true
    → says_destroyed (Some session) filling ≡ says true (DestroySession session) (λ client. record client { waiting = record client.waiting { destroyed = None } }) filling
destroys session filling learnt =
    ap (λ b. if b then says true (DestroySession session) (λ client. record client { waiting = record client.waiting { destroyed = None } }) filling else filling) learnt

pub destroys_not : {S : Type 0} (own : Option ℕ) (filling : Filling S) → is_open filling.client ≡ false → says_destroyed own filling ≡ filling
destroys_not None filling unlearnt = refl
destroys_not (Some session) filling unlearnt =
    ap (λ b. if b then says true (DestroySession session) (λ client. record client { waiting = record client.waiting { destroyed = None } }) filling else filling) unlearnt

-- the filling is that of another value
pub moved : {S X : Type 0} (core : Contents) (draft : Draft) (gives : X → Filling S) (own other : X) → own ≡ other → Goes core draft (gives other) → Goes core draft (gives own)
moved core draft gives own other same is = subst (λ x. Goes core draft (gives x)) (sym same) is

pub same_goes : {S : Type 0} (core : Contents) (draft : Draft) (one other : Filling S) → one ≡ other → Goes core draft other → Goes core draft one
same_goes core draft one other same is = subst (Goes core draft) (sym same) is

pub some_of : (count : ℕ) (none : Bool) → none ≡ (count == 0) → none ≡ false → count ≢ 0
some_of count none is isnt zero_of = true≢false (sym (is ∙ ap (λ n. n == 0) zero_of) ∙ isnt)

pub none_of : (count : ℕ) (none : Bool) → none ≡ (count == 0) → none ≡ true → count ≡ 0
none_of count none is yes_now = eqb-true count 0 (sym is ∙ yes_now)

pub acks_go : {S : Type 0} (acks : List ℕ) (filling : Filling S) → length acks ≢ 0
    → says_acks acks filling ≡ says false (MsgsAck acks) (λ client. record client { table = record client.table { acks = [] } }) filling
acks_go [] filling some = absurd (some refl)
acks_go (number ∷ acks) filling some = refl

pub resent_not : {S : Type 0} (numbers : List ℕ) (filling : Filling S) → length numbers ≡ 0 → says_resent numbers filling ≡ filling
resent_not [] filling none = refl
resent_not (number ∷ numbers) filling none = absurd (omega (arith, none))

pub resent_go : {S : Type 0} (numbers : List ℕ) (filling : Filling S) → length numbers ≢ 0
    → says_resent numbers filling ≡ says false (MsgResendReq numbers) (λ client. record client { waiting = record client.waiting { resent = [] } }) filling
resent_go [] filling some = absurd (some refl)
resent_go (number ∷ numbers) filling some = refl

-- ---- what is said

-- it fits: the client changes besides
pub said_in : {S : Type 0} (core inside new : Contents) (draft after : Draft) (filling : Filling S) (change : Client → Client) (said : Outgoing) (at : ℕ)
    → inside ≡ core → Goes core draft filling → at ≡ time_of filling.client
    → length (spelling_of (item_of said)) ≡ said_bytes said → enters (said_bytes said) draft ≡ true
    → ((messages : List Message) → Holds draft messages → Holds after (messages ++ said_message at inside.rest.counters said ∷ []))
    → after.inner ≡ draft.inner → after.is_full ≡ draft.is_full
    → ((client : Client) → record inside.rest { counters = after_next inside.rest.counters at (needs_answer said) } ≡ record client { table = no_calls } → new.rest ≡ record (change client) { table = no_calls })
    → ((client : Client) → StandsFor inside.calls client.table → StandsFor new.calls (change client).table)
    → Goes new after (says (needs_answer said) (item_of said) change filling)
said_in core inside new draft after filling change said at same is now size fits holds inner full rest calls =
    let client = filling.client in
    let content = needs_answer said in
    let counters : inside.rest.counters ≡ client.counters = told core inside client (λ (own : Client). own.counters) same is.client in
    let message = numbered content (spelling_of (item_of said)) client in
    let numbers : said_message at inside.rest.counters said ≡ message =
    ap (λ (moment : ℕ). said_message moment inside.rest.counters said) now ∙ ap (λ (own : Counters). said_message (time_of client) own said) counters in
    let counted : after_next inside.rest.counters at content ≡ after_next client.counters (time_of client) content =
    ap (λ (moment : ℕ). after_next inside.rest.counters moment content) now ∙ ap (λ (own : Counters). after_next own (time_of client) content) counters in
    let kept : inside.rest ≡ record client { table = no_calls } = ap (λ (own : Contents). own.rest) same ∙ is.client.rest in
    subst (Goes new after) (sym (goes_in core draft filling message (changes (λ (one : Client). change (after_message content one))) (said_bytes said) is size fits)) (record {
      client = record {
        rest = rest (after_message content client)
            (ap (λ (own : Client). record own { counters = after_next inside.rest.counters at content }) kept
            ∙ ap (λ (own : Counters). record client { counters = own; table = no_calls }) counted);
        calls = calls (after_message content client) (subst (λ (own : Calls). StandsFor own client.table) (sym (ap (λ (own : Contents). own.calls) same)) is.client.calls);
      };
      messages = subst (λ (one : Message). Holds after (filling.messages ++ one ∷ [])) numbers (holds filling.messages is.messages);
      inner = inner ∙ is.inner;
      is_full = full ∙ is.is_full;
    })

-- ---- a queued call

-- by the body that it has
pub if_body : (own : Option Call) (body : List ℕ) (P : List ℕ → Type 0) → option_map (λ one. one.body) own ≡ Some body → P body → IfSome own (λ one. P one.body)
if_body None body P is h = tt
if_body (Some one) body P is h = subst P (sym (ap (value one.body) is)) h

turn_at : {S : Type 0} (core : Contents) (draft : Draft) (filling : Filling S) (call : CallNo) (turn : Turn) (own : Option Call)
    → IfSome own (λ one. Goes core draft (takes_turn call one.body turn filling)) → IfSome own (λ one. turn ≡ turn_of filling.client one)
    → own ≢ None → Goes core draft (says_call_at call own filling)
turn_at core draft filling call turn None goes_by is there = absurd (there refl)
turn_at core draft filling call turn (Some one) goes_by is there = subst (λ own. Goes core draft (takes_turn call one.body own filling)) is goes_by

-- its turn comes
pub turn_comes : {S : Type 0} (core : Contents) (draft : Draft) (filling : Filling S) (call : CallNo) (turn : Turn) → filling.is_full ≡ false
    → IfSome (at call (calls_of filling.client)) (λ one. Goes core draft (takes_turn call one.body turn filling))
    → IfSome (at call (calls_of filling.client)) (λ one. turn ≡ turn_of filling.client one)
    → at call (calls_of filling.client) ≢ None → Goes core draft (says_call filling call)
turn_comes core draft filling call turn room goes_by is there =
    subst (Goes core draft) (sym (ap (λ b. if b then filling else says_call_at call (at call (calls_of filling.client)) filling) room))
    (turn_at core draft filling call turn (at call (calls_of filling.client)) goes_by is there)

pub is_there : (own : Option Call) (state : State) → option_map (λ one. one.state) own ≡ Some state → own ≢ None
is_there None state is = λ none. grind (arith, is)
is_there (Some one) state is = λ none. grind (arith, none)

pub if_any : (own : Option Call) (P : Call → Type 0) → ((one : Call) → P one) → IfSome own P
if_any None P h = tt
if_any (Some one) P h = h one

-- the wish to drop an answer ends
undropped_of : (own : Option Call) (flags : Flags) → option_map (λ one. one.flags) own ≡ Some flags → option_map (flagged (record flags { dropping = false })) own ≡ option_map undropped own
undropped_of None flags is = refl
undropped_of (Some call) flags is = ap (λ now. Some (flagged (record now { dropping = false }) call)) (sym (ap (value call.flags) is))

pub undropped_stands : (new : Calls) (table : Table) (call : CallNo) (flags : Flags)
    → StandsFor new (with_call_in call (flagged (record flags { dropping = false })) table)
    → option_map (λ one. one.flags) (at call table.calls) ≡ Some flags
    → StandsFor new (with_call_in call undropped table)
undropped_stands new table call flags calls is =
    rw (sym (same_at (flagged (record flags { dropping = false })) undropped (call.n - 1) table.calls (undropped_of (at call table.calls) flags is))) calls

-- ---- what leaves the queue

turn_at_any : {S : Type 0} (P : Filling S → Type 0) (filling : Filling S) (call : CallNo) (turn : Turn) (own : Option Call)
    → IfSome own (λ one. P (takes_turn call one.body turn filling)) → IfSome own (λ one. turn ≡ turn_of filling.client one)
    → own ≢ None → P (says_call_at call own filling)
turn_at_any P filling call turn None by is there = absurd (there refl)
turn_at_any P filling call turn (Some one) by is there = subst (λ own. P (takes_turn call one.body own filling)) is by

-- what holds of its turn
pub turn_any : {S : Type 0} (P : Filling S → Type 0) (filling : Filling S) (call : CallNo) (turn : Turn) → filling.is_full ≡ false
    → IfSome (at call (calls_of filling.client)) (λ one. P (takes_turn call one.body turn filling))
    → IfSome (at call (calls_of filling.client)) (λ one. turn ≡ turn_of filling.client one)
    → at call (calls_of filling.client) ≢ None → P (says_call filling call)
turn_any P filling call turn room by is there =
    subst P (sym (ap (λ b. if b then filling else says_call_at call (at call (calls_of filling.client)) filling) room))
    (turn_at_any P filling call turn (at call (calls_of filling.client)) by is there)

pub sent_leaves : {S : Type 0} (core : Contents) (draft : Draft) (filling : Filling S) (call : CallNo) (wrap : Option ℕ) (body : List ℕ) (size : ℕ)
    → Goes core draft filling → length (body_behind wrap body) ≡ size → enters size draft ≡ true
    → LeavesQueue call filling (takes_turn call body (Going wrap) filling)
sent_leaves core draft filling call wrap body size is sized fits place told_at =
    let message = numbered true (body_behind wrap body) filling.client in
    let gone = goes_in core draft filling message (sends_call call wrap message) size is sized fits in
    subst (λ own. drop place (queue own) ≡ drop (suc place) (queue filling)) (sym gone)
    (left_group group.Queued (sent filling.client.session (living_of message wrap) filling.client.salt) (λ one. refl) (calls_of filling.client) call place told_at)

-- the calls, as they are kept inside
pub kept_calls : {S : Type 0} (core inside : Contents) (draft : Draft) (filling : Filling S) → inside ≡ core → Goes core draft filling → StandsFor inside.calls filling.client.table
kept_calls core inside draft filling same is = subst (λ (own : Calls). StandsFor own filling.client.table) (sym (ap (λ (own : Contents). own.calls) same)) is.client.calls

-- where an item didn't fit, none goes
pub goes_full : {S : Type 0} (message : Message) (leaves : Filling S → Filling S) (filling : Filling S) → filling.is_full ≡ true → goes message leaves filling ≡ filling
goes_full message leaves filling full =
    picks_full filling.is_full (is_within (filling.messages ++ message ∷ [])) filling (leaves (record filling { messages = filling.messages ++ message ∷ [] })) (record filling { is_full = true }) full

-- a wish to drop an answer ends where it goes
pub drop_leaves : {S : Type 0} (core : Contents) (draft : Draft) (filling : Filling S) (call : CallNo) (number size : ℕ)
    → Goes core draft filling → number_of (at call (calls_of filling.client)) ≡ Some number
    → length (spelling_of (RpcDropAnswer number)) ≡ size → enters size draft ≡ true → slice_get (drops filling) 0 ≡ Some call
    → drops (says_drop filling call) ≡ drop 1 (drops filling)
drop_leaves core draft filling call number size is own sized fits first =
    let change = λ (client : Client). with_call call undropped (after_message true client) in
    let gone = goes_in core draft filling (numbered true (spelling_of (RpcDropAnswer number)) filling.client) (changes change) size is sized fits in
    ap (λ (other : Option ℕ). drops (says_drop_of call other filling)) own
    ∙ (ap drops gone ∙ left_group group.Dropping undropped (λ one. refl) (calls_of filling.client) call 0 first)
