-- What an event leaves as it was: a client's keys, its session and how many calls it has.
use Rattle.std.proofs.Common.{◌≡◌, ◌∙◌, ℕ, suc, ◌-◌, Bool, true, false, List, [], ◌∷◌, length, map, fold, Option, Some, None, ap, refl, sym}
use Rattle.std.specs.Prelude.{◌==◌, ◌||◌, if◌then◌else◌, nat_le, nat_lt, not, option_map, IfSome, IsSome, OnErr, OnOk, Result, Ok, Err}
use Rattle.std.specs.List.{AllZip, list_any, zip}
use Rattle.std.proofs.lemmas.List.{length-map}
use Rattle.auth_keys.specs.declared.ring.RingKey.{RingKey}
use Rattle.auth_keys.specs.Rings.{entry_of}
use Rattle.octets.specs.declared.memory.Memory.{Memory}
use Rattle.envelope.specs.declared.parts.Envelope.{Envelope}
use Rattle.call_table.specs.declared.call.CallNo.{CallNo}
use Rattle.call_table.specs.declared.call.Fate.{Fate}
use Rattle.call_table.specs.Kept.{IsRowOf}
use Rattle.call_table.specs.Table.{Call, inner_of, living_name, owner}
use Rattle.client_rules.specs.Asking.{alone, alone_if_asked, alone_if_sent, attached, can_drop, dropped, drops, is_asked, submitted}
use Rattle.client_rules.specs.Client.{Binding, Client, Needed, StateRequest, Temporary, at_moment, bound_so, calls_of, is_open, with_binding, with_call, with_calls}
use Rattle.client_rules.specs.Events.{fate_renewed, renewed}
use Rattle.client_rules.specs.Filling.{numbers_max}
use Rattle.client_rules.specs.Learning.{each_becomes, ended, fate_at_end, fate_learning, learn, learnt_max, learns, settled_if, with_clock}
use Rattle.client_rules.specs.Taking.{Notice, alone_among, alone_call, alone_number, asks_answer, binding_noticed, goes_again, has_asked, is_asked_by, is_for, message_in, messages_of, noticed_by, packet_noticed, take, takes_message, takes_over, told_of, told_state, told_states, with_notice_clock, with_notice_salt, without_idle_wish}
use Rattle.msg_ids.specs.Counters.{is_odd}
use Rattle.client_core.specs.declared.brought.Brought.{Brought}
use Rattle.client_core.specs.declared.brought.Brought.TheVariants as brought
use Rattle.client_core.specs.declared.brought.Incoming.{Incoming}
use Rattle.client_core.specs.Brought.{acknowledges_number, answered_as, binding_by, lesson_of, row_of, takes_lesson}
use Rattle.client_core.specs.Keys.{BoundTo, Keys, bound_to_of, keys_of}
use Rattle.client_core.specs.Kept.{Contents, Stands, at_end}
use Rattle.client_core.specs.One.{StandsForOne}
use Rattle.client_core.specs.Own.{Came, Own, own_in, own_of}
use Rattle.client_core.specs.Took.{TookBy}
use Rattle.client_core.proofs.AloneLemmas.{changed_count}
use Rattle.client_core.proofs.TakingLemmas.{messages_same}

-- ---- what is kept has what the client has

zip_count : {X Y : Type 0} (R : X → Y → Type 0) (xs : List X) (ys : List Y) → AllZip R xs ys → length xs ≡ length ys
zip_count R [] [] all = refl
zip_count R [] (y ∷ ys) all = absurd all
zip_count R (x ∷ xs) [] all = absurd all
zip_count R (x ∷ xs) (y ∷ ys) all = ap suc (zip_count R xs ys all.1)

abbrev own_with : Keys → ℕ → ℕ → Own
own_with keys session count = record { keys = keys; session = session; count = count }

pub own_stands : (contents : Contents) (client : Client) → Stands contents client → own_in contents ≡ own_of client
own_stands contents client stands =
    ap (λ rest. own_with (keys_of rest) rest.session (length contents.calls.rows)) stands.rest
    ∙ ap (own_with (keys_of client) client.session) (zip_count IsRowOf contents.calls.rows (calls_of client) stands.calls.rows)

pub own_kept : (old new : Contents) (before after : Client) → Stands old before → Stands new after → own_of after ≡ own_of before → own_in new ≡ own_in old
own_kept old new before after was is same = own_stands new after is ∙ (same ∙ sym (own_stands old before was))

-- ---- a call, and the binding

abbrev with_count : Client → ℕ → Own
with_count client count = own_with (keys_of client) client.session count

abbrev with_bound : Client → Option BoundTo → Own
with_bound client bound = own_with (record { key = client.key; bound_to = bound }) client.session (length (calls_of client))

pub call_own : (call : CallNo) (change : Call → Call) (client : Client) → own_of (with_call call change client) ≡ own_of client
call_own call change client = ap (with_count client) (changed_count change (call.n - 1) (calls_of client))

pub calls_own : (change : Call → Call) (client : Client) → own_of (with_calls (map change (calls_of client)) client) ≡ own_of client
calls_own change client = ap (with_count client) (length-map (calls_of client) change)

bound_same : (binding : Binding) (own : Option Temporary) → option_map bound_to_of (option_map (bound_so binding) own) ≡ option_map bound_to_of own
bound_same binding None = refl
bound_same binding (Some temporary) = refl

pub binding_own : (binding : Binding) (client : Client) → own_of (with_binding binding client) ≡ own_of client
binding_own binding client = ap (with_bound client) (bound_same binding client.temporary)

pub if_own : (b : Bool) (one other : Client) (own : Own) → own_of one ≡ own → own_of other ≡ own → own_of (if b then one else other) ≡ own
if_own true one other own first second = first
if_own false one other own first second = second

-- ---- a connection is opened, an answer dropped

alone_same : (b : Bool) (temporary : Temporary) → bound_to_of (if b then record temporary { is_alone = true } else temporary) ≡ bound_to_of temporary
alone_same true temporary = refl
alone_same false temporary = refl

asked_same : (own : Option Temporary) → option_map bound_to_of (option_map alone_if_asked own) ≡ option_map bound_to_of own
asked_same None = refl
asked_same (Some temporary) = ap Some (alone_same (is_asked temporary.binding) temporary)

pub attached_own : (client : Client) → own_of (attached client) ≡ own_of client
attached_own client =
    ap (with_count (record client { temporary = option_map alone_if_asked client.temporary })) (length-map (calls_of client) alone_if_sent)
    ∙ ap (with_bound client) (asked_same client.temporary)

pub dropped_own : (call : CallNo) (client : Client) → own_of (dropped call client) ≡ own_of client
dropped_own call client = if_own (can_drop call client) (with_call call drops client) client (own_of client) (call_own call drops client) refl

-- ---- the end, and another session

pub each_own : (fate : Call → Option Fate) (client : Client) → own_of (each_becomes fate client) ≡ own_of client
each_own fate client = calls_own (λ call. settled_if (fate call) call) client

pub ended_own : (client : Client) → own_of (ended client) ≡ own_of client
ended_own client = each_own (λ call. fate_at_end call.state) client

pub renewed_own : (session : ℕ) (client : Client) → own_of (renewed session client) ≡ record (own_of client) { session = session }
renewed_own session client =
    let change = λ (call : Call). settled_if (fate_renewed call.state) call in
    ap (λ bound. own_with (record { key = client.key; bound_to = bound }) session (length (map change (calls_of client)))) (bound_same Needed client.temporary)
    ∙ ap (own_with (keys_of client) session) (length-map (calls_of client) change)

-- ---- what a packet brings

clock_own : (outer code : ℕ) (client : Client) → own_of (with_notice_clock outer code client) ≡ own_of client
clock_own outer code client = if_own (code == 16 || code == 17) (with_clock outer client) client (own_of client) refl refl

salt_own : (salt : Option ℕ) (client : Client) → own_of (with_notice_salt salt client) ≡ own_of client
salt_own None client = refl
salt_own (Some salt) client = refl

over_own : (outer : ℕ) (notice : Notice) (client : Client) → own_of (takes_over outer notice client) ≡ own_of client
over_own outer notice client = salt_own notice.salt (with_notice_clock outer notice.code client) ∙ clock_own outer notice.code client

learns_own : (unique salt : ℕ) (client : Client) → own_of (learns unique salt client) ≡ own_of client
learns_own unique salt client =
    let change = λ (call : Call). settled_if (fate_learning (not (is_open client)) salt (living_name call)) call in
    ap (λ bound. own_with (record { key = client.key; bound_to = bound }) client.session (length (map change (calls_of client)))) (bound_same Needed client.temporary)
    ∙ ap (own_with (keys_of client) client.session) (length-map (calls_of client) change)

learn_own : (outer unique salt : ℕ) (client : Client) → own_of (learn outer unique salt client) ≡ own_of client
learn_own outer unique salt client =
    if_own (list_any (λ learnt. learnt == unique) client.learnt) client
    (if nat_le learnt_max (length client.learnt) then ended client else with_clock outer (learns unique salt client)) (own_of client) refl
    (if_own (nat_le learnt_max (length client.learnt)) (ended client) (with_clock outer (learns unique salt client)) (own_of client) (ended_own client) (learns_own unique salt client))

answered_own : (own : Option CallNo) (is_binding : Bool) (result : List ℕ) (code : ℕ) (client : Client) → own_of (answered_as own is_binding result code client) ≡ own_of client
answered_own (Some call) is_binding result code client = call_own call _ client
answered_own None true result code client = binding_own (binding_by result code) client
answered_own None false result code client = refl

alone_own : (own : Option CallNo) (client : Client) → own_of (alone_call own client) ≡ own_of client
alone_own None client = refl
alone_own (Some call) client = call_own call alone client

numbers_own : (client : Client) (numbers : List ℕ) → own_of (fold alone_number client numbers) ≡ own_of client
numbers_own client [] = refl
numbers_own client (number ∷ numbers) = numbers_own (alone_number client number) numbers ∙ alone_own (owner number (calls_of client)) client

among_same : (numbers : List ℕ) (own : Option Temporary) → option_map bound_to_of (option_map (alone_among numbers) own) ≡ option_map bound_to_of own
among_same numbers None = refl
among_same numbers (Some temporary) = ap Some (alone_same (list_any (λ number. is_asked_by number temporary.binding) numbers) temporary)

packet_own : (numbers : List ℕ) (client : Client) → own_of (packet_noticed numbers client) ≡ own_of client
packet_own numbers client =
    numbers_own (record client { temporary = option_map (alone_among numbers) client.temporary }) numbers ∙ ap (with_bound client) (among_same numbers client.temporary)

noticed_own : (own : Option CallNo) (is_binding : Bool) (packet : Option (List ℕ)) (outer : ℕ) (notice : Notice) (client : Client)
    → own_of (noticed_by own is_binding packet outer notice client) ≡ own_of client
noticed_own (Some call) is_binding packet outer notice client = call_own call _ (takes_over outer notice client) ∙ over_own outer notice client
noticed_own None true packet outer notice client = binding_own (binding_noticed notice.code) (takes_over outer notice client) ∙ over_own outer notice client
noticed_own None false (Some numbers) outer notice client = packet_own numbers (takes_over outer notice client) ∙ over_own outer notice client
noticed_own None false None outer notice client = refl

states_own : (client : Client) (told : List (ℕ × ℕ)) → own_of (fold told_state client told) ≡ own_of client
states_own client [] = refl
states_own client ((number, byte) ∷ told) =
    states_own (told_state client (number, byte)) told
    ∙ if_own (goes_again byte) (alone_number client number) client (own_of client) (alone_own (owner number (calls_of client)) client) refl

told_own : (numbers info : List ℕ) (client : Client) → own_of (told_states numbers info client) ≡ own_of client
told_own numbers info client = if_own (length info == length numbers) (fold told_state client (zip numbers info)) client (own_of client) (states_own client (zip numbers info)) refl

told_of_own : (asked : Option StateRequest) (request : ℕ) (info : List ℕ) (client : Client) → own_of (told_of asked request info client) ≡ own_of client
told_of_own None request info client = refl
told_of_own (Some asked) request info client = if_own (asked.number == request) (told_states asked.numbers info client) client (own_of client) (told_own asked.numbers info client) refl

asks_own : (number : ℕ) (client : Client) → own_of (asks_answer number client) ≡ own_of client
asks_own number client = if_own (nat_lt (length client.waiting.resent) numbers_max) _ client (own_of client) refl refl

row_own : (outer number : ℕ) (item : Brought) (client : Client) → own_of (row_of outer number item client) ≡ own_of client
row_own outer number (brought.Session unique salt) client = learn_own outer unique salt client
row_own outer number (brought.Answer about result code) client = answered_own (owner about (calls_of client)) (has_asked about client.temporary) result code client
row_own outer number (brought.Notice about code salt) client =
    noticed_own (owner about (calls_of client)) (has_asked about client.temporary) (inner_of about client.table.packets) outer (record { about = about; code = code; salt = salt }) client
row_own outer number (brought.Told request info) client = told_of_own client.asked request info client
row_own outer number (brought.Fared numbers info) client = told_own numbers info client
row_own outer number (brought.Again numbers) client = numbers_own client numbers
row_own outer number (brought.Asks info) client = refl
row_own outer number (brought.Waits answer) client = asks_own answer client
row_own outer number brought.Nothing client = refl

acks_own : (number seq : ℕ) (client : Client) → own_of (acknowledges_number number seq client) ≡ own_of client
acks_own number seq client = if_own (is_odd seq) _ client (own_of client) refl refl

lesson_own : (outer : ℕ) (client : Client) (lesson : Incoming) → own_of (takes_lesson outer client lesson) ≡ own_of client
lesson_own outer client lesson =
    let acked = acknowledges_number lesson.number lesson.seq client in
    if_own client.has_ended client (row_of outer lesson.number lesson.brought acked) (own_of client) refl
    (row_own outer lesson.number lesson.brought acked ∙ acks_own lesson.number lesson.seq client)

lessons_own : (outer : ℕ) (client : Client) (lessons : List Incoming) → own_of (fold (takes_lesson outer) client lessons) ≡ own_of client
lessons_own outer client [] = refl
lessons_own outer client (lesson ∷ lessons) = lessons_own outer (takes_lesson outer client lesson) lessons ∙ lesson_own outer client lesson

pub take_own : (now : ℕ) (envelope : Envelope) (client : Client) → own_of (take now envelope client) ≡ own_of client
take_own now envelope client =
    let ready = at_moment now client in
    let messages = messages_of (message_in envelope) in
    let after = fold (takes_message envelope.number) ready messages in
    if_own (is_for client envelope) (without_idle_wish after) ready (own_of client)
    (ap own_of (messages_same envelope.number ready messages) ∙ lessons_own envelope.number ready (map lesson_of messages)) refl

-- ---- what a packet leaves

took_own : (ended : Bool) (now : Contents) (before after : Client) → TookBy (Ok ended) now before after → own_in now ≡ own_of after
took_own false now before after took = own_stands now after took.1
took_own true now before after took = own_stands (at_end now) after took.1

came_by : (result : Result Bool Memory) (now : Contents) (before after : Client) → TookBy result now before after → own_of after ≡ own_of before → own_in now ≡ own_of before
came_by (Ok ended) now before after took own = took_own ended now before after took ∙ own
came_by (Err memory) now before after took own = own_stands now before took

pub came_own : (result : Result Bool Memory) (old now : Contents) (before : Client) → Stands old before → Came result now before → own_in now ≡ own_in old
came_own result old now before stands came = came_by result now before came.after came.took came.own ∙ sym (own_stands old before stands)

-- ---- a ring has the keys

pub perm_known : (ring : List RingKey) (own : Option Temporary) → IfSome (option_map bound_to_of own) (λ one. IsSome (entry_of one.perm ring))
    → IfSome own (λ temporary. IsSome (entry_of temporary.perm ring))
perm_known ring None known = known
perm_known ring (Some temporary) known = known

-- ---- an event of a client that is kept

pub keeps_one : (old new : Contents) (change : Client → Client) → StandsForOne old → ((client : Client) → Stands old client → Stands new (change client)) → StandsForOne new
keeps_one old new change one stands = record { client = change one.client; stands = stands one.client one.stands }

pub keeps_own : (old new : Contents) (change : Client → Client) → StandsForOne old → ((client : Client) → Stands old client → Stands new (change client))
    → ((client : Client) → own_of (change client) ≡ own_of client) → own_in new ≡ own_in old
keeps_own old new change one stands same = own_kept old new one.client (change one.client) one.stands (stands one.client one.stands) (same one.client)

-- another session
pub renews_own : (session : ℕ) (old new : Contents) → StandsForOne old → ((client : Client) → Stands old client → Stands new (renewed session client))
    → own_in new ≡ record (own_in old) { session = session }
renews_own session old new one stands =
    own_stands new (renewed session one.client) (stands one.client one.stands)
    ∙ (renewed_own session one.client ∙ ap (λ (own : Own). record own { session = session }) (sym (own_stands old one.client one.stands)))

-- the end
pub ends_own : (old new : Contents) → StandsForOne old → ((client : Client) → Stands old client → Stands new (ended client)) → own_in new ≡ own_in old
ends_own old new one stands =
    own_stands new (ended one.client) (stands one.client one.stands) ∙ (ended_own one.client ∙ sym (own_stands old one.client one.stands))

-- a call is submitted, or isn't
pub submits_one : {X Y : Type 0} (result : Result X Y) (old new : Contents) (body : List ℕ) (after : Option CallNo) → StandsForOne old
    → OnOk result ((client : Client) → Stands old client → Stands new (submitted body after client)) → OnErr result (new ≡ old) → StandsForOne new
submits_one (Ok call) old new body after one stands same = record { client = submitted body after one.client; stands = stands one.client one.stands }
submits_one (Err fault) old new body after one stands same = rw same one
