-- What the body of a client's message asks is what a server takes it for.
use Rattle.std.proofs.Common.{◌≡◌, ◌≤◌, ◌<◌, ◌+◌, ◌^◌, ◌/◌, ◌==◌, ◌&&◌, not, ℕ, zero, suc, Bool, true, false, List, [], ◌∷◌, ◌++◌, length, length-append, map, Option, None, Some, inl, inr, refl, sym, ap, subst, ◌∙◌, arith, eq-eqb}
use Rattle.std.specs.Prelude.{nat_le, nat_lt, replicate, take, drop, Ok, Contains}
use Rattle.std.specs.List.{AllByRecursion, list_any, flat_map}
use Rattle.std.specs.Int.{byte_at, bytes_low_first}
use Rattle.std.proofs.Math.Nat.{mod-lt}
use Rattle.std.proofs.lemmas.Bool.{cases_Bool, eqb-true, leb-true, leb-false, ltb-true}
use Rattle.std.proofs.lemmas.List.Folds.{list_any_at}
use Rattle.std.proofs.lemmas.List.{append-nil, length-map}
use Rattle.byteorder.specs.Endian.{little_bytes, little_number}
use Rattle.byteorder.specs.Numbers.{little_from-take, little_number-reads_back}
use Rattle.octets.specs.Bytes.{IsBytes, AreLongs}
use Rattle.tl_codec.specs.Standard.{bytes_max, longs_max}
use Rattle.tl_codec.specs.Spelling.{Form, Int, Long, Bytes, Longs, Of, Reads, Spells, head, padding_of, spelling}
use Rattle.tl_codec.specs.Reading.{Takes, read_at, number_at}
use Rattle.service_tl.specs.declared.item.Item.{Item}
use Rattle.service_tl.specs.declared.item.Item.TheVariants.{AuthBindTempAuthKey, BadMsgNotification, BadServerSalt, Broken, Call, DestroySession, DestroySessionNone, DestroySessionOk, FutureSalts, GetFutureSalts, InvokeAfterMsg, InvokeAfterMsgs, MsgContainer, MsgDetailedInfo, MsgNewDetailedInfo, MsgResendReq, MsgsAck, MsgsAllInfo, MsgsStateInfo, MsgsStateReq, NewSessionCreated, Packed, Ping, PingDelayDisconnect, Pong, RpcAnswerDropped, RpcAnswerDroppedRunning, RpcAnswerUnknown, RpcDropAnswer, RpcError, RpcResult}
use Rattle.service_tl.specs.Exact.{IsRead, behind}
use Rattle.service_tl.specs.ItemOf.{item_of}
use Rattle.service_tl.specs.Items.{spelling_of}
use Rattle.service_tl.specs.Schema.{schema, service_numbers, gzip_packed, rpc_drop_answer, get_future_salts, ping, destroy_session, msgs_ack, msgs_state_req, msgs_state_info, msg_resend_req, invoke_after_msg, auth_bind_temp_auth_key}
use Rattle.containers.specs.Container.{begins_container, constructor}
use Rattle.inbox.specs.Kinds.{item_told}
use Rattle.client_rules.specs.Asking.{begins_service, is_refused}
use Rattle.law_server.specs.Lives.{request_of}
use Rattle.law_client.specs.Sent.{Asks, IsSaidAside}

-- ---- rows of the schema

abbrev pub AreRead : Type 0
AreRead = AllByRecursion IsRead schema

drop_read : AreRead → IsRead rpc_drop_answer
unfolding schema
drop_read rows = rows.1.1.0

salts_read : AreRead → IsRead get_future_salts
unfolding schema
salts_read rows = rows.1.1.1.1.1.1.0

ping_read : AreRead → IsRead ping
unfolding schema
ping_read rows = rows.1.1.1.1.1.1.1.1.0

destroy_read : AreRead → IsRead destroy_session
unfolding schema
destroy_read rows = rows.1.1.1.1.1.1.1.1.1.1.1.0

ack_read : AreRead → IsRead msgs_ack
unfolding schema
ack_read rows = rows.1.1.1.1.1.1.1.1.1.1.1.1.1.1.1.1.0

states_read : AreRead → IsRead msgs_state_req
unfolding schema
states_read rows = rows.1.1.1.1.1.1.1.1.1.1.1.1.1.1.1.1.1.0

info_read : AreRead → IsRead msgs_state_info
unfolding schema
info_read rows = rows.1.1.1.1.1.1.1.1.1.1.1.1.1.1.1.1.1.1.0

resend_read : AreRead → IsRead msg_resend_req
unfolding schema
resend_read rows = rows.1.1.1.1.1.1.1.1.1.1.1.1.1.1.1.1.1.1.1.1.0

after_read : AreRead → IsRead invoke_after_msg
unfolding schema
after_read rows = rows.1.1.1.1.1.1.1.1.1.1.1.1.1.1.1.1.1.1.1.1.1.1.1.1.1.0

bind_read : AreRead → IsRead auth_bind_temp_auth_key
unfolding schema
bind_read rows = rows.1.1.1.1.1.1.1.1.1.1.1.1.1.1.1.1.1.1.1.1.1.1.1.1.1.1.1.0

-- ---- numbers

byte_lt : (place number : ℕ) → byte_at place number < 256
byte_lt zero number = mod-lt number (omega arith)
byte_lt (suc place) number = mod-lt (number / 256 ^ suc place) (omega arith)

-- what a reader of bytes tells
pub record Reading : Type 0 where
  pub nil : IsBytes []
  pub cons : (x : ℕ) (xs : List ℕ) → x < 256 → IsBytes xs → IsBytes (x ∷ xs)
  pub taken : (form : Form) (value : Of form) (text rest : List ℕ) → IsBytes text → read_at form text ≡ Ok (value, rest) → Takes form value text rest
  pub reads : (form : Form) (value : Of form) (text : List ℕ) → Spells form value text → Reads form value text
  pub rows : AreRead
  pub packed : (text : List ℕ) → item_of (behind gzip_packed text) ≡ Packed
  pub call : (number : ℕ) (text : List ℕ) → number < 2 ^ 32 → (Contains service_numbers number → ⊥) → item_of (behind number text) ≡ Call
  pub short : (body : List ℕ) → length body < 4 → item_of body ≡ Call

module _ (r : Reading) where
  number_bytes : (place count number : ℕ) → IsBytes (bytes_low_first place count number)
  number_bytes place zero number = r.nil
  number_bytes place (suc count) number = r.cons (byte_at place number) (bytes_low_first (suc place) count number) (byte_lt place number) (number_bytes (suc place) count number)

  -- the number that is read of one that is written
  pub int_again : (number : ℕ) → (value : ℕ) × Reads Int value (spelling Int number)
  unfolding spelling number_at
  int_again number =
      let text : List ℕ = little_bytes 4 number in
      let taken = r.taken Int (little_number 4 text) text [] (number_bytes 0 4 number) refl in
      (little_number 4 text, subst (Reads Int (little_number 4 text)) (sym (taken.2 ∙ append-nil taken.0)) taken.1)

  pub long_again : (number : ℕ) → (value : ℕ) × Reads Long value (spelling Long number)
  unfolding spelling number_at
  long_again number =
      let text : List ℕ = little_bytes 8 number in
      let taken = r.taken Long (little_number 8 text) text [] (number_bytes 0 8 number) refl in
      (little_number 8 text, subst (Reads Long (little_number 8 text)) (sym (taken.2 ∙ append-nil taken.0)) taken.1)

  abbrev agains : List ℕ → List ℕ
  agains numbers = map (λ number. (long_again number).0) numbers

  agains_spelt : (numbers : List ℕ) → flat_map (little_bytes 8) numbers ≡ flat_map (little_bytes 8) (agains numbers)
  unfolding spelling
  agains_spelt [] = refl
  agains_spelt (number ∷ numbers) =
      let same : little_bytes 8 number ≡ little_bytes 8 (long_again number).0 = (long_again number).1.1 in
      ap (λ (front : List ℕ). front ++ flat_map (little_bytes 8) numbers) same ∙ ap (λ (rest : List ℕ). little_bytes 8 (long_again number).0 ++ rest) (agains_spelt numbers)

  agains_fit : (numbers : List ℕ) → AreLongs (agains numbers)
  agains_fit [] place = omega arith
  agains_fit (number ∷ numbers) zero = (long_again number).1.0
  agains_fit (number ∷ numbers) (suc place) = agains_fit numbers place

  longs_again : (numbers : List ℕ) → length numbers ≤ longs_max → (values : List ℕ) × Reads Longs values (spelling Longs numbers)
  unfolding spelling
  longs_again numbers few =
      let counted : length (agains numbers) ≡ length numbers = length-map numbers (λ (number : ℕ). (long_again number).0) in (
        agains numbers,
        (
          (omega (arith, few, counted), agains_fit numbers),
          rw (counted, sym (agains_spelt numbers)) refl,
        ),
      )

  bytes_again : (content : List ℕ) → length content ≤ bytes_max → Reads Bytes content (spelling Bytes content)
  bytes_again content few = r.reads Bytes content (spelling Bytes content) (few, refl)

  -- ---- what begins a body

  and_false : (b : Bool) → (b && false) ≡ false
  and_false true = refl
  and_false false = refl

  -- a body behind another number is no container
  pub no_container : (number : ℕ) (text : List ℕ) → number < 2 ^ 32 → (number == constructor) ≡ false → begins_container (behind number text) ≡ false
  unfolding spelling begins_container
  no_container number text small other =
      let same : little_number 4 (little_bytes 4 number ++ text) ≡ number = little_number-reads_back 4 number text small in
      rw (same, other) (and_false (nat_le 4 (length (little_bytes 4 number ++ text))))

  -- the body is no container, and asks this
  pub record IsAsked (body : List ℕ) (call : Option (List ℕ)) : Type 0 where
    pub unnested : begins_container body ≡ false
    pub asks : request_of (item_told body) body ≡ call

  is_asked : (body : List ℕ) (item : Item) (call : Option (List ℕ)) → begins_container body ≡ false → item_of body ≡ item → request_of item body ≡ call → IsAsked body call
  is_asked body item call alone is asks = record { unnested = alone; asks = rw (alone, is) asks }

  behind_so : (number : ℕ) (text : List ℕ) (item : Item) (call : Option (List ℕ)) → number < 2 ^ 32 → (number == constructor) ≡ false → item_of (behind number text) ≡ item
      → request_of item (behind number text) ≡ call → IsAsked (behind number text) call
  behind_so number text item call small other is asks = is_asked (behind number text) item call (no_container number text small other) is asks

  -- ---- a call's own body

  le_not : (size : ℕ) → 4 ≤ size → nat_lt size 4 ≡ false
  le_not size long = elim (cases_Bool (nat_lt size 4)) [
    | inl less ↦ absurd (omega (arith, long, ltb-true size 4 less))
    | inr not ↦ not
  ]

  any_false : (number : ℕ) (numbers : List ℕ) → list_any (λ (service : ℕ). number == service) numbers ≡ false → Contains numbers number → ⊥
  any_false number numbers none held =
      let some = list_any_at (λ (service : ℕ). number == service) numbers held.0 number held.1 (eq-eqb _ _ (sym held.2)) in
      let e : true ≡ false = sym some ∙ none in absurd (cc)

  container_refused : is_refused constructor ≡ true
  unfolding service_numbers schema
  container_refused = refl

  begun_of : (query : List ℕ) → IsBytes query → 4 ≤ length query → (rest : List ℕ) × (little_number 4 query < 2 ^ 32) × (query ≡ behind (little_number 4 query) rest)
  unfolding number_at spelling
  begun_of query bytes long =
      let same : little_number 4 (take 4 query) ≡ little_number 4 query = little_from-take 0 4 4 query (omega arith) in
      let read : read_at Int query ≡ Ok (little_number 4 query, drop 4 query) = rw (le_not (length query) long, same) refl in
      let taken = r.taken Int (little_number 4 query) query (drop 4 query) bytes read in
      (drop 4 query, taken.1.0, taken.2 ∙ ap (λ (front : List ℕ). front ++ drop 4 query) taken.1.1)

  own_item : (number : ℕ) (query rest : List ℕ) → number < 2 ^ 32 → is_refused number ≡ false → query ≡ behind number rest → request_of (item_of query) query ≡ Some query
  own_item number query rest small plain is =
      elim (cases_Bool (number == gzip_packed)) [
        | inl packed ↦
            let same : number ≡ gzip_packed = eqb-true _ _ packed in
            let item : item_of query ≡ Packed = ap item_of (is ∙ ap (λ (n : ℕ). behind n rest) same) ∙ r.packed rest in
            rw item refl
        | inr other ↦
            let none : list_any (λ (service : ℕ). number == service) service_numbers ≡ false =
            subst (λ (b : Bool). (not b && list_any (λ (service : ℕ). number == service) service_numbers) ≡ false) other plain in
            let item : item_of query ≡ Call = ap item_of is ∙ r.call number rest small (any_false number service_numbers none) in
            rw item refl
      ]

  own_body : (query : List ℕ) → IsBytes query → begins_service query ≡ false → IsAsked query (Some query)
  unfolding begins_container
  own_body query bytes plain =
      elim (cases_Bool (nat_le 4 (length query))) [
        | inl long ↦
            let refused : is_refused (little_number 4 query) ≡ false = subst (λ (b : Bool). (b && is_refused (little_number 4 query)) ≡ false) long plain in
            let begun = begun_of query bytes (leb-true 4 (length query) long) in
            let other : (little_number 4 query == constructor) ≡ false =
            elim (cases_Bool (little_number 4 query == constructor)) [
              | inl is ↦
                  let e : true ≡ false = sym container_refused ∙ subst (λ (n : ℕ). is_refused n ≡ false) (eqb-true _ _ is) refused in absurd (cc)
              | inr not ↦ not
            ] in
            let alone : begins_container query ≡ false = rw (long, other) refl in
            is_asked query (item_of query) (Some query) alone refl (own_item (little_number 4 query) query begun.0 begun.1 refused begun.2)
        | inr fails ↦
            let alone : begins_container query ≡ false = rw fails refl in
            is_asked query Call (Some query) alone (r.short query (omega (arith, leb-false 4 (length query) fails))) refl
      ]

  -- ---- items

  bytes_within : (content : List ℕ) → length content ≤ length (spelling Bytes content)
  unfolding spelling
  bytes_within content =
      let front = head (length content) in
      let behind_it : List ℕ = replicate (padding_of (length front + length content)) 0 in
      let whole : length (spelling Bytes content) ≡ length ((front ++ content) ++ behind_it) = refl in
      omega (arith, whole, length-append (front ++ content) behind_it, length-append front content)

  wrapped_so : (number : ℕ) (query : List ℕ) → IsAsked (spelling_of (InvokeAfterMsg number query)) (Some query)
  wrapped_so number query =
      let v = long_again number in
      let text : List ℕ = spelling Long number ++ (query ++ []) in
      behind_so invoke_after_msg.number text (InvokeAfterMsg v.0 query) (Some query) (omega arith) refl
      (after_read r.rows (v.0, (query, tt)) text (spelling Long number, query ++ [], v.1, (query, [], refl, refl, refl), refl)) refl

  list_so : (numbers : List ℕ) (number : ℕ) (item : List ℕ → Item) → length numbers ≤ longs_max → number < 2 ^ 32 → (number == constructor) ≡ false
      → ((values : List ℕ) → Reads Longs values (spelling Longs numbers) → item_of (behind number (spelling Longs numbers ++ [])) ≡ item values)
      → ((values body : List ℕ) → request_of (item values) body ≡ None) → IsAsked (behind number (spelling Longs numbers ++ [])) None
  list_so numbers number item few small other read none =
      let v = longs_again numbers few in
      behind_so number (spelling Longs numbers ++ []) (item v.0) None small other (read v.0 v.1) (none v.0 _)

  aside : (item : Item) → length (spelling_of item) ≤ bytes_max → IsSaidAside item → IsAsked (spelling_of item) None
  aside (MsgsAck numbers) few short =
      list_so numbers msgs_ack.number MsgsAck short (omega arith) refl
      (λ values reads. ack_read r.rows (values, tt) (spelling Longs numbers ++ []) (spelling Longs numbers, [], reads, refl, refl)) (λ values body. refl)
  aside (MsgResendReq numbers) few short =
      list_so numbers msg_resend_req.number MsgResendReq short (omega arith) refl
      (λ values reads. resend_read r.rows (values, tt) (spelling Longs numbers ++ []) (spelling Longs numbers, [], reads, refl, refl)) (λ values body. refl)
  aside (MsgsStateReq numbers) few short =
      list_so numbers msgs_state_req.number MsgsStateReq short (omega arith) refl
      (λ values reads. states_read r.rows (values, tt) (spelling Longs numbers ++ []) (spelling Longs numbers, [], reads, refl, refl)) (λ values body. refl)
  aside (MsgsStateInfo request info) few short =
      let v = long_again request in
      let rest : List ℕ = spelling Bytes info ++ [] in
      let text : List ℕ = spelling Long request ++ rest in
      let most : length info ≤ bytes_max =
      omega (arith, few, bytes_within info, length-append (spelling Bytes info) [], length-append (spelling Long request) rest, length-append (spelling Int msgs_state_info.number) text) in
      behind_so msgs_state_info.number text (MsgsStateInfo v.0 info) None (omega arith) refl
      (info_read r.rows (v.0, (info, tt)) text (spelling Long request, rest, v.1, (spelling Bytes info, [], bytes_again info most, refl, refl), refl)) refl
  aside (Ping id) few short =
      let v = long_again id in
      behind_so ping.number (spelling Long id ++ []) (Ping v.0) None (omega arith) refl
      (ping_read r.rows (v.0, tt) (spelling Long id ++ []) (spelling Long id, [], v.1, refl, refl)) refl
  aside (GetFutureSalts count) few short =
      let v = int_again count in
      behind_so get_future_salts.number (spelling Int count ++ []) (GetFutureSalts v.0) None (omega arith) refl
      (salts_read r.rows (v.0, tt) (spelling Int count ++ []) (spelling Int count, [], v.1, refl, refl)) refl
  aside (DestroySession session) few short =
      let v = long_again session in
      behind_so destroy_session.number (spelling Long session ++ []) (DestroySession v.0) None (omega arith) refl
      (destroy_read r.rows (v.0, tt) (spelling Long session ++ []) (spelling Long session, [], v.1, refl, refl)) refl
  aside (RpcDropAnswer call) few short =
      let v = long_again call in
      behind_so rpc_drop_answer.number (spelling Long call ++ []) (RpcDropAnswer v.0) None (omega arith) refl
      (drop_read r.rows (v.0, tt) (spelling Long call ++ []) (spelling Long call, [], v.1, refl, refl)) refl
  aside (AuthBindTempAuthKey perm nonce expires message) few short =
      let p = long_again perm in
      let n = long_again nonce in
      let e = int_again expires in
      let last : List ℕ = spelling Bytes message ++ [] in
      let third : List ℕ = spelling Int expires ++ last in
      let second : List ℕ = spelling Long nonce ++ third in
      let text : List ℕ = spelling Long perm ++ second in
      let most : length message ≤ bytes_max =
      omega (arith, few, bytes_within message, length-append (spelling Bytes message) [], length-append (spelling Int expires) last, length-append (spelling Long nonce) third, length-append (spelling Long perm) second, length-append (spelling Int auth_bind_temp_auth_key.number) text) in
      behind_so auth_bind_temp_auth_key.number text (AuthBindTempAuthKey p.0 n.0 e.0 message) None (omega arith) refl
      (bind_read r.rows (p.0, (n.0, (e.0, (message, tt)))) text (spelling Long perm, second, p.1, (spelling Long nonce, third, n.1, (spelling Int expires, last, e.1, (spelling Bytes message, [], bytes_again message most, refl, refl), refl), refl), refl)) refl
  aside (RpcResult a b) few short = absurd short
  aside (RpcError a b) few short = absurd short
  aside RpcAnswerUnknown few short = absurd short
  aside RpcAnswerDroppedRunning few short = absurd short
  aside (RpcAnswerDropped a b c) few short = absurd short
  aside (FutureSalts a b c) few short = absurd short
  aside (PingDelayDisconnect a b) few short = absurd short
  aside (Pong a b) few short = absurd short
  aside (DestroySessionOk a) few short = absurd short
  aside (DestroySessionNone a) few short = absurd short
  aside (NewSessionCreated a b c) few short = absurd short
  aside (MsgContainer a) few short = absurd short
  aside (MsgsAllInfo a b) few short = absurd short
  aside (MsgDetailedInfo a b c d) few short = absurd short
  aside (MsgNewDetailedInfo a b c) few short = absurd short
  aside (BadMsgNotification a b c) few short = absurd short
  aside (BadServerSalt a b c d) few short = absurd short
  aside (InvokeAfterMsg a b) few short = absurd short
  aside (InvokeAfterMsgs a b) few short = absurd short
  aside Packed few short = absurd short
  aside Call few short = absurd short
  aside (Broken a) few short = absurd short

  -- ---- a body

  pub asked : (body : List ℕ) (call : Option (List ℕ)) → IsBytes body → length body ≤ bytes_max → Asks body call → IsAsked body call
  asked body (Some query) bytes few (plain, None, is) = subst (λ (b : List ℕ). IsAsked b (Some query)) (sym is) (own_body query (subst IsBytes is bytes) plain)
  asked body (Some query) bytes few (plain, Some number, is) = subst (λ (b : List ℕ). IsAsked b (Some query)) (sym is) (wrapped_so number query)
  asked body None bytes few (item, is, short) =
      subst (λ (b : List ℕ). IsAsked b None) (sym is) (aside item (subst (λ (b : List ℕ). length b ≤ bytes_max) is few) short)
