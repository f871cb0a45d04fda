-- A packet has a message exactly where something is due.
use Rattle.std.proofs.Common.{◌≡◌, ◌∙◌, ℕ, zero, suc, ◌≤◌, Bool, true, false, List, [], ◌∷◌, ◌++◌, Option, Some, None, length, ap, refl, sym, subst, inl, inr, arith}
use Rattle.std.specs.Prelude.{◌⊎◌, ◌≢◌, ◌&&◌, ◌||◌, if◌then◌else◌, is_some, IfSome, fold, slice_get, take}
use Rattle.std.specs.List.{list_any}
use Rattle.std.proofs.lemmas.Bool.{cases_Bool, true≢false}
use Rattle.tl_codec.specs.Spelling.{Form, Of, Fits, spelling, string_size, size_of as size_of_form}
use Rattle.service_tl.specs.declared.lists.Message.{Message}
use Rattle.service_tl.specs.declared.item.Item.{Item}
use Rattle.service_tl.specs.declared.item.Item.TheVariants.{RpcDropAnswer, GetFutureSalts, Ping, DestroySession, MsgsAck, MsgsStateReq, MsgsStateInfo, MsgResendReq}
use Rattle.service_tl.specs.Items.{spelling_of}
use Rattle.service_tl.specs.Schema.{rpc_drop_answer, get_future_salts, ping, destroy_session, msgs_ack, msgs_state_req, msgs_state_info, msg_resend_req}
use Rattle.packing.specs.Packing.{is_within}
use Rattle.call_table.specs.declared.call.CallNo.{CallNo}
use Rattle.call_table.specs.declared.call.Group.TheVariants as group
use Rattle.call_table.specs.Table.{at, group_of}
use Rattle.client_rules.specs.Client.{Client, Temporary, States, after_message, at_moment, calls_of, is_open, numbered, with_call}
use Rattle.client_rules.specs.Sending.{Setting}
use Rattle.client_rules.specs.Filling.{Filling, asks_binding, asks_states, changes, empty, fills, goes, number_of, outstanding, says, says_acks, says_binding, says_call, says_destroyed, says_drop, says_drop_of, says_ping, says_resent, says_salts, says_states, says_told, undropped}
use Rattle.client_rules.specs.Flush.{has_any}
use Rattle.client_core.specs.Asked.{asking_message, needed_of}
use Rattle.client_core.specs.Due.{CanSay, goes_at, has_some, is_due_before, is_due_beside, waits}
use Rattle.client_core.specs.declared.rebinding.Needed.{Needed as NeededSo}
use Rattle.client_core.proofs.BoundLemmas.{needed_goes, needed_not, unopened}
use Rattle.client_core.proofs.QuietLemmas.{calls_any, calls_due}
use Rattle.client_core.proofs.SizeLemmas.{boxed-size}

abbrev went : {S : Type 0} → Message → Filling S → Filling S
went message filling = record filling { messages = filling.messages ++ message ∷ [] }

any_more : (messages : List Message) (message : Message) → has_any (messages ++ message ∷ []) ≡ true
any_more [] message = refl
any_more (first ∷ others) message = refl

any_picked : {S : Type 0} (full within : Bool) (stays gone : Filling S) → has_any stays.messages ≡ true → has_any gone.messages ≡ true
    → has_any (if full then stays else if within then gone else record stays { is_full = true }).messages ≡ true
any_picked true within stays gone any new = any
any_picked false true stays gone any new = new
any_picked false false stays gone any new = any

-- a packet that has a message keeps it
goes_any : {S : Type 0} (message : Message) (leaves : Filling S → Filling S) (filling : Filling S) → (leaves (went message filling)).messages ≡ filling.messages ++ message ∷ []
    → has_any filling.messages ≡ true → has_any (goes message leaves filling).messages ≡ true
goes_any message leaves filling kept any =
    any_picked filling.is_full (is_within (filling.messages ++ message ∷ [])) filling (leaves (went message filling)) any (ap has_any kept ∙ any_more filling.messages message)

-- alone in a packet a message of so many bytes fits
alone_within : (message : Message) → length message.body ≤ 1000000 → is_within (message ∷ []) ≡ true
alone_within message short = grind (arith, short)

goes_first : {S : Type 0} (client : Client) (draw : S) (message : Message) (leaves : Filling S → Filling S) → length message.body ≤ 1000000
    → (leaves (went message (empty client draw))).messages ≡ message ∷ [] → has_any (goes message leaves (empty client draw)).messages ≡ true
goes_first client draw message leaves short kept =
    ap (λ within. has_any (if within then leaves (went message (empty client draw)) else record (empty client draw) { is_full = true }).messages) (alone_within message short)
    ∙ ap has_any kept

says_any : {S : Type 0} (content : Bool) (item : Item) (change : Client → Client) (filling : Filling S) → has_any filling.messages ≡ true → has_any (says content item change filling).messages ≡ true
says_any content item change filling any =
    goes_any (numbered content (spelling_of item) filling.client) (changes (λ client. change (after_message content client))) filling refl any

says_first : {S : Type 0} (client : Client) (draw : S) (content : Bool) (item : Item) (change : Client → Client) → length (spelling_of item) ≤ 1000000 → has_any (says content item change (empty client draw)).messages ≡ true
says_first client draw content item change short =
    goes_first client draw (numbered content (spelling_of item) client) (changes (λ own. change (after_message content own))) short refl

-- so far: nothing is due and nothing was said, or something is and was
abbrev pub Stage : {S : Type 0} → Client → S → Bool → Filling S → Type 0
Stage client draw due filling = ((due ≡ false) × (filling ≡ empty client draw)) ⊎ ((due ≡ true) × (has_any filling.messages ≡ true))

stage_next : {S : Type 0} (client : Client) (draw : S) (due here : Bool) (filling : Filling S) (says_it : Filling S → Filling S)
    → (has_any filling.messages ≡ true → has_any (says_it filling).messages ≡ true)
    → (here ≡ false → says_it (empty client draw) ≡ empty client draw)
    → (here ≡ true → has_any (says_it (empty client draw)).messages ≡ true)
    → Stage client draw due filling → Stage client draw (due || here) (says_it filling)
stage_next client draw due here filling says_it keeps stays first stage = elim stage [
  | inl none ↦ elim (cases_Bool here) [
    | inl yes_now ↦ inr (ap (λ b. b || here) none.0 ∙ yes_now, ap (λ own. has_any (says_it own).messages) none.1 ∙ first yes_now)
    | inr not_now ↦ inl (ap (λ b. b || here) none.0 ∙ not_now, ap says_it none.1 ∙ stays not_now)
  ]
  | inr some ↦ inr (ap (λ b. b || here) some.0, keeps some.1)
]

stage_stays : {S : Type 0} (client : Client) (draw : S) (due : Bool) (filling : Filling S) → Stage client draw due filling → Stage client draw (due || false) filling
stage_stays client draw due filling stage =
    stage_next client draw due false filling (λ it. it) (λ any. any) (λ is. refl) (λ is. absurd (true≢false (sym is))) stage

stage_says : {S : Type 0} (client : Client) (draw : S) (due : Bool) (filling : Filling S) (content : Bool) (item : Item) (change : Client → Client)
    → length (spelling_of item) ≤ 1000000
    → Stage client draw due filling → Stage client draw (due || true) (says content item change filling)
stage_says client draw due filling content item change short stage =
    stage_next client draw due true filling (says content item change) (says_any content item change filling) (λ is. absurd (true≢false is))
    (λ is. says_first client draw content item change short) stage

string_few : (n : ℕ) → n ≤ 8192 → string_size n ≤ 65536
string_few n few = grind (arith, few)

take_few : {X : Type 0} (n : ℕ) (xs : List X) → length (take n xs) ≤ n
take_few zero xs = omega arith
take_few (suc n) [] = omega arith
take_few (suc n) (x ∷ xs) = omega (arith, take_few n xs)

-- ---- what waits

keeps_if : {S : Type 0} (b : Bool) (gone stays : Filling S) → has_any gone.messages ≡ true → has_any stays.messages ≡ true → has_any (if b then gone else stays).messages ≡ true
keeps_if true gone stays one other = one
keeps_if false gone stays one other = other

module _ (sizes : (form : Form) (value : Of form) → Fits form value → length (spelling form value) ≡ size_of_form form value) where
  acks_stage : {S : Type 0} (client : Client) (draw : S) (due : Bool) (filling : Filling S) (own : List ℕ) → length own ≤ 8192
      → Stage client draw due filling → Stage client draw (due || has_some own) (says_acks own filling)
  acks_stage client draw due filling [] few stage = stage_stays client draw due filling stage
  acks_stage client draw due filling (number ∷ numbers) few stage =
      stage_says client draw due filling false (MsgsAck (number ∷ numbers)) (λ one. record one { table = record one.table { acks = [] } })
      (omega (arith, few, boxed-size sizes msgs_ack.number msgs_ack.fields (number ∷ numbers, tt) (tt, tt))) stage

  told_stage : {S : Type 0} (client : Client) (draw : S) (due : Bool) (filling : Filling S) (own : Option States) → IfSome own (λ states. length states.info ≤ 8192)
      → Stage client draw due filling → Stage client draw (due || is_some own) (says_told own filling)
  told_stage client draw due filling None few stage = stage_stays client draw due filling stage
  told_stage client draw due filling (Some states) few stage =
      stage_says client draw due filling false (MsgsStateInfo states.request states.info) (λ one. record one { waiting = record one.waiting { told = None } })
      (omega (arith, string_few (length states.info) few, boxed-size sizes msgs_state_info.number msgs_state_info.fields (states.request, (states.info, tt)) (tt, (omega (arith, few), tt)))) stage

  resent_stage : {S : Type 0} (client : Client) (draw : S) (due : Bool) (filling : Filling S) (own : List ℕ) → length own ≤ 8192
      → Stage client draw due filling → Stage client draw (due || has_some own) (says_resent own filling)
  resent_stage client draw due filling [] few stage = stage_stays client draw due filling stage
  resent_stage client draw due filling (number ∷ numbers) few stage =
      stage_says client draw due filling false (MsgResendReq (number ∷ numbers)) (λ one. record one { waiting = record one.waiting { resent = [] } })
      (omega (arith, few, boxed-size sizes msg_resend_req.number msg_resend_req.fields (number ∷ numbers, tt) (tt, tt))) stage

  states_size : (numbers : List ℕ) → length numbers ≤ 8192 → length (spelling_of (MsgsStateReq numbers)) ≤ 1000000
  states_size numbers few = omega (arith, few, boxed-size sizes msgs_state_req.number msgs_state_req.fields (numbers, tt) (tt, tt))

  states_stage : {S : Type 0} (client : Client) (draw : S) (due : Bool) (filling : Filling S) (own : Bool)
      → Stage client draw due filling → Stage client draw (due || own) (says_states own filling)
  states_stage client draw due filling false stage = stage_stays client draw due filling stage
  states_stage client draw due filling true stage =
      stage_next client draw due true filling (says_states true)
      (says_any false (MsgsStateReq (outstanding filling.client)) (asks_states (outstanding filling.client)) filling)
      (λ is. absurd (true≢false is))
      (λ is. says_first client draw false (MsgsStateReq (outstanding client)) (asks_states (outstanding client)) (states_size (outstanding client) (take_few _ _))) stage

  ping_stage : {S : Type 0} (client : Client) (draw : S) (due : Bool) (filling : Filling S) (own : Option ℕ)
      → Stage client draw due filling → Stage client draw (due || is_some own) (says_ping own filling)
  ping_stage client draw due filling None stage = stage_stays client draw due filling stage
  ping_stage client draw due filling (Some id) stage =
      stage_says client draw due filling false (Ping id) (λ one. record one { waiting = record one.waiting { ping = None } })
      (omega (arith, boxed-size sizes ping.number ping.fields (id, tt) (tt, tt))) stage

  salts_stage : {S : Type 0} (client : Client) (draw : S) (due : Bool) (filling : Filling S) (own : Option ℕ)
      → Stage client draw due filling → Stage client draw (due || is_some own) (says_salts own filling)
  salts_stage client draw due filling None stage = stage_stays client draw due filling stage
  salts_stage client draw due filling (Some count) stage =
      stage_says client draw due filling true (GetFutureSalts count) (λ one. record one { waiting = record one.waiting { salts = None } })
      (omega (arith, boxed-size sizes get_future_salts.number get_future_salts.fields (count, tt) (tt, tt))) stage

  destroyed_stage : {S : Type 0} (client : Client) (draw : S) (due : Bool) (filling : Filling S) (own : Option ℕ)
      → Stage client draw due filling → Stage client draw (due || (is_some own && is_open client)) (says_destroyed own filling)
  destroyed_stage client draw due filling None stage = stage_stays client draw due filling stage
  destroyed_stage client draw due filling (Some session) stage =
      let change = λ (one : Client). record one { waiting = record one.waiting { destroyed = None } } in
      let item = DestroySession session in
      stage_next client draw due (is_open client) filling (says_destroyed (Some session))
      (λ any. keeps_if (is_open filling.client) (says true item change filling) filling (says_any true item change filling any) any)
      (λ closed. ap (λ b. if b then says true item change (empty client draw) else empty client draw) closed)
      (λ opened. ap (λ b. has_any (if b then says true item change (empty client draw) else empty client draw).messages) opened
      ∙ says_first client draw true item change (omega (arith, boxed-size sizes destroy_session.number destroy_session.fields (session, tt) (tt, tt)))) stage

  drop_first : {S : Type 0} (client : Client) (draw : S) (call : CallNo) (own : Option ℕ) → own ≢ None → has_any (says_drop_of call own (empty client draw)).messages ≡ true
  drop_first client draw call None some = absurd (some refl)
  drop_first client draw call (Some number) some =
      says_first client draw true (RpcDropAnswer number) (with_call call undropped) (omega (arith, boxed-size sizes rpc_drop_answer.number rpc_drop_answer.fields (number, tt) (tt, tt)))

  drop_any : {S : Type 0} (call : CallNo) (own : Option ℕ) (filling : Filling S) → has_any filling.messages ≡ true → has_any (says_drop_of call own filling).messages ≡ true
  drop_any call None filling any = any
  drop_any call (Some number) filling any = says_any true (RpcDropAnswer number) (with_call call undropped) filling any

  drops_any : {S : Type 0} (filling : Filling S) (calls : List CallNo) → has_any filling.messages ≡ true → has_any (fold says_drop filling calls).messages ≡ true
  drops_any filling [] any = any
  drops_any filling (call ∷ calls) any =
      drops_any (says_drop filling call) calls (drop_any call (number_of (at call (calls_of filling.client))) filling any)

  drops_stage : {S : Type 0} (client : Client) (draw : S) (due : Bool) (filling : Filling S) (calls : List CallNo)
      → IfSome (slice_get calls 0) (λ call. number_of (at call (calls_of client)) ≢ None)
      → Stage client draw due filling → Stage client draw (due || has_some calls) (fold says_drop filling calls)
  drops_stage client draw due filling [] some stage = stage_stays client draw due filling stage
  drops_stage client draw due filling (call ∷ calls) some stage =
      stage_next client draw due true filling (λ own. fold says_drop own (call ∷ calls)) (drops_any filling (call ∷ calls)) (λ is. absurd (true≢false is))
      (λ is. drops_any (says_drop (empty client draw) call) calls (drop_first client draw call (number_of (at call (calls_of client))) some)) stage

  waits_stage : {S : Type 0} (client : Client) (draw : S) → CanSay client
      → Stage client draw (waits client) (says_destroyed client.waiting.destroyed (says_salts client.waiting.salts (says_ping client.waiting.ping
      (says_states client.waiting.states (says_resent client.waiting.resent (says_told client.waiting.told (says_acks client.table.acks (empty client draw))))))))
  waits_stage client draw can =
      destroyed_stage client draw _ _ client.waiting.destroyed
      (salts_stage client draw _ _ client.waiting.salts
      (ping_stage client draw _ _ client.waiting.ping
      (states_stage client draw _ _ client.waiting.states
      (resent_stage client draw _ _ client.waiting.resent can.resent
      (told_stage client draw _ _ client.waiting.told can.told
      (acks_stage client draw false (empty client draw) client.table.acks can.acks (inl (refl, refl))))))))

-- ---- the binding

abbrev asks : {S : Type 0} → Setting S → NeededSo → Filling S → Filling S
asks setting needed filling =
    goes (asking_message setting filling.client needed filling.draw) (asks_binding setting (asking_message setting filling.client needed filling.draw)) filling

-- a binding that is needed goes where the client is open
binding_goes : {S : Type 0} (setting : Setting S) (own : Option Temporary) (filling : Filling S) (needed : NeededSo) → needed_of own ≡ Some needed
    → says_binding setting own filling ≡ (if is_open filling.client then asks setting needed filling else filling)
binding_goes setting own filling needed is = elim (cases_Bool (is_open filling.client)) [
  | inl opened ↦ needed_goes setting own filling needed is opened ∙ sym (ap (λ b. if b then asks setting needed filling else filling) opened)
  | inr closed ↦ unopened setting own filling closed ∙ sym (ap (λ b. if b then asks setting needed filling else filling) closed)
]

binding_any : {S : Type 0} (setting : Setting S) (needed : NeededSo) (filling : Filling S) → has_any filling.messages ≡ true → has_any (if is_open filling.client then asks setting needed filling else filling).messages ≡ true
binding_any setting needed filling any =
    keeps_if (is_open filling.client) (asks setting needed filling) filling
    (goes_any (asking_message setting filling.client needed filling.draw) (asks_binding setting (asking_message setting filling.client needed filling.draw)) filling refl any) any

binding_stage_of : {S : Type 0} (setting : Setting S) (client : Client) (draw : S) (due : Bool) (filling : Filling S) (own : Option Temporary) (need : Option NeededSo) → needed_of own ≡ need
    → IfSome need (λ needed. length (asking_message setting client needed draw).body ≤ 1000000)
    → Stage client draw due filling → Stage client draw (due || (is_some need && is_open client)) (says_binding setting own filling)
binding_stage_of setting client draw due filling own None is short stage =
    subst (Stage client draw (due || false)) (sym (needed_not setting own filling is)) (stage_stays client draw due filling stage)
binding_stage_of setting client draw due filling own (Some needed) is short stage =
    let tries = λ (one : Filling _). if is_open one.client then asks setting needed one else one in
    subst (Stage client draw (due || is_open client)) (sym (binding_goes setting own filling needed is))
    (stage_next client draw due (is_open client) filling tries (binding_any setting needed filling)
    (λ closed. ap (λ b. if b then asks setting needed (empty client draw) else empty client draw) closed)
    (λ opened. ap (λ b. has_any (if b then asks setting needed (empty client draw) else empty client draw).messages) opened
    ∙ goes_first client draw (asking_message setting client needed draw) (asks_binding setting (asking_message setting client needed draw)) short refl) stage)

binding_stage : {S : Type 0} (setting : Setting S) (client : Client) (draw : S) (due : Bool) (filling : Filling S)
    → IfSome (needed_of client.temporary) (λ needed. length (asking_message setting client needed draw).body ≤ 1000000)
    → Stage client draw due filling → Stage client draw (due || (is_some (needed_of client.temporary) && is_open client)) (says_binding setting client.temporary filling)
binding_stage setting client draw due filling short stage =
    binding_stage_of setting client draw due filling client.temporary (needed_of client.temporary) refl short stage

-- ---- all of it

abbrev pub before : {S : Type 0} → Setting S → Client → S → Filling S
before setting client draw =
    let waiting = client.waiting in
    let items = says_destroyed waiting.destroyed (says_salts waiting.salts (says_ping waiting.ping
    (says_states waiting.states (says_resent waiting.resent (says_told waiting.told
    (says_acks client.table.acks (empty client draw))))))) in
    fold says_drop (says_binding setting client.temporary items) (group_of group.Dropping (calls_of client))

-- a moment says nothing of it
pub can_at : (now : ℕ) (client : Client) → CanSay client → CanSay (at_moment now client)
can_at now client can = record { acks = can.acks; told = can.told; resent = can.resent; drops = can.drops; bodies = can.bodies }

module _ (sizes : (form : Form) (value : Of form) → Fits form value → length (spelling form value) ≡ size_of_form form value) where
  pub before_stage : {S : Type 0} (setting : Setting S) (client : Client) (draw : S) → CanSay client
      → IfSome (needed_of client.temporary) (λ needed. length (asking_message setting client needed draw).body ≤ 1000000)
      → Stage client draw (is_due_before client) (before setting client draw)
  before_stage setting client draw can short =
      drops_stage sizes client draw _ _ (group_of group.Dropping (calls_of client)) can.drops
      (binding_stage setting client draw (waits client) _ short (waits_stage sizes client draw can))

  pub due_is : {S : Type 0} (setting : Setting S) (client : Client) (draw : S) → CanSay client
      → IfSome (needed_of client.temporary) (λ needed. length (asking_message setting client needed draw).body ≤ 1000000)
      → has_any (fills setting client draw).messages ≡ is_due_beside client
  due_is setting client draw can short = elim (before_stage setting client draw can short) [
    | inl none ↦ ap (λ own. has_any (fold says_call own (group_of group.Queued (calls_of client))).messages) none.1
        ∙ (calls_due sizes client draw can.bodies ∙ sym (ap (λ b. b || list_any (goes_at client) (group_of group.Queued (calls_of client))) none.0))
    | inr some ↦ calls_any (before setting client draw) (group_of group.Queued (calls_of client)) some.1
        ∙ sym (ap (λ b. b || list_any (goes_at client) (group_of group.Queued (calls_of client))) some.0)
  ]

  -- where nothing is due, only the turns of queued calls come
  pub quiet_is : {S : Type 0} (setting : Setting S) (client : Client) (draw : S) → CanSay client
      → IfSome (needed_of client.temporary) (λ needed. length (asking_message setting client needed draw).body ≤ 1000000)
      → is_due_beside client ≡ false
      → fills setting client draw ≡ fold says_call (empty client draw) (group_of group.Queued (calls_of client))
  quiet_is setting client draw can short quiet = elim (before_stage setting client draw can short) [
    | inl none ↦ ap (λ own. fold says_call own (group_of group.Queued (calls_of client))) none.1
    | inr some ↦ absurd (true≢false (sym (ap (λ b. b || list_any (goes_at client) (group_of group.Queued (calls_of client))) some.0) ∙ quiet))
  ]
