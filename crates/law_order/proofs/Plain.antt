-- What a client says beside containers is none.
use Rattle.std.proofs.Common.{◌≡◌, ◌≤◌, ◌<◌, ◌^◌, ◌==◌, ◌&&◌, ◌%◌, ℕ, Bool, true, false, not, Option, Some, None, List, [], ◌++◌, length, length-append, ap, sym, refl, ◌∙◌, arith, inl, inr}
use Rattle.std.specs.Prelude.{⊤, nat_le, nat_lt}
use Rattle.std.proofs.lemmas.Bool.{cases_Bool, cond_both, eqb-true}
use Rattle.byteorder.specs.Endian.{little_bytes, little_number}
use Rattle.byteorder.specs.Numbers.{little_number-reads_back}
use Rattle.tl_codec.specs.Spelling.{Int, Long, Bytes, Longs, spelling}
use Rattle.service_tl.specs.declared.item.Item.{Item}
use Rattle.service_tl.specs.declared.item.Item.TheVariants.{AuthBindTempAuthKey, DestroySession, GetFutureSalts, InvokeAfterMsg, MsgResendReq, MsgsAck, MsgsStateInfo, MsgsStateReq, Ping, RpcDropAnswer}
use Rattle.service_tl.specs.Exact.{behind}
use Rattle.service_tl.specs.Items.{spelling_of}
use Rattle.service_tl.specs.Schema.{schema, service_numbers, auth_bind_temp_auth_key, destroy_session, get_future_salts, invoke_after_msg, msg_resend_req, msgs_ack, msgs_state_info, msgs_state_req, ping, rpc_drop_answer}
use Rattle.containers.specs.Container.{begins_container, constructor}
use Rattle.call_table.specs.declared.call.CallNo.{CallNo}
use Rattle.client_rules.specs.Asking.{Fault, NotWords, ServiceTag, TooLong, begins_service, body_bytes_max, fault_at, is_refused}
use Rattle.client_rules.specs.Filling.{body_behind}
use Rattle.law_order.specs.Given.{IsPlain}
use Rattle.law_order.proofs.Lists.{none-some, true-false}

-- ---- how a body begins

-- it begins with this number
abbrev Begins : ℕ → List ℕ → Type 0
Begins number body = (little_number 4 body ≡ number) × (4 ≤ length body)

begins-behind : (number : ℕ) (text : List ℕ) → number < 2 ^ 32 → Begins number (behind number text)
unfolding spelling
begins-behind number text small = (little_number-reads_back 4 number text small, omega (arith, length-append (little_bytes 4 number) text))

and-false : (b : Bool) → (b && false) ≡ false
and-false true = refl
and-false false = refl

no-container : (number : ℕ) (body : List ℕ) → Begins number body → (number == constructor) ≡ false → IsPlain body
unfolding begins_container
no-container number body begins other = rw (begins.0, other) (and-false (nat_le 4 (length body)))

-- ---- items

-- an item that a client says
abbrev pub IsSaid : Item → Type 0
IsSaid (MsgsAck numbers) = ⊤
IsSaid (MsgsStateInfo request info) = ⊤
IsSaid (MsgResendReq numbers) = ⊤
IsSaid (MsgsStateReq numbers) = ⊤
IsSaid (Ping id) = ⊤
IsSaid (GetFutureSalts count) = ⊤
IsSaid (DestroySession session) = ⊤
IsSaid (AuthBindTempAuthKey perm nonce expires message) = ⊤
IsSaid (RpcDropAnswer call) = ⊤
IsSaid (InvokeAfterMsg number query) = ⊤
IsSaid _ = ⊥

pub item-plain : (item : Item) → IsSaid item → IsPlain (spelling_of item)
unfolding spelling schema
item-plain (MsgsAck numbers) said = no-container msgs_ack.number _ (begins-behind msgs_ack.number (spelling Longs numbers ++ []) (omega arith)) refl
item-plain (MsgsStateInfo request info) said = no-container msgs_state_info.number _ (begins-behind msgs_state_info.number (spelling Long request ++ (spelling Bytes info ++ [])) (omega arith)) refl
item-plain (MsgResendReq numbers) said = no-container msg_resend_req.number _ (begins-behind msg_resend_req.number (spelling Longs numbers ++ []) (omega arith)) refl
item-plain (MsgsStateReq numbers) said = no-container msgs_state_req.number _ (begins-behind msgs_state_req.number (spelling Longs numbers ++ []) (omega arith)) refl
item-plain (Ping id) said = no-container ping.number _ (begins-behind ping.number (spelling Long id ++ []) (omega arith)) refl
item-plain (GetFutureSalts count) said = no-container get_future_salts.number _ (begins-behind get_future_salts.number (spelling Int count ++ []) (omega arith)) refl
item-plain (DestroySession session) said = no-container destroy_session.number _ (begins-behind destroy_session.number (spelling Long session ++ []) (omega arith)) refl
item-plain (AuthBindTempAuthKey perm nonce expires message) said = no-container auth_bind_temp_auth_key.number _ (begins-behind auth_bind_temp_auth_key.number (spelling Long perm ++ (spelling Long nonce ++ (spelling Int expires ++ (spelling Bytes message ++ [])))) (omega arith)) refl
item-plain (RpcDropAnswer call) said = no-container rpc_drop_answer.number _ (begins-behind rpc_drop_answer.number (spelling Long call ++ []) (omega arith)) refl
item-plain (InvokeAfterMsg number query) said = no-container invoke_after_msg.number _ (begins-behind invoke_after_msg.number (spelling Long number ++ (query ++ [])) (omega arith)) refl
item-plain item said = absurd said

-- ---- calls

-- a call's body, as it goes
pub behind-plain : (wrap : Option ℕ) (body : List ℕ) → IsPlain body → IsPlain (body_behind wrap body)
behind-plain None body plain = plain
behind-plain (Some number) body plain = item-plain (InvokeAfterMsg number body) tt

container-refused : is_refused constructor ≡ true
unfolding service_numbers schema
container-refused = refl

query-plain : (query : List ℕ) → begins_service query ≡ false → IsPlain query
unfolding begins_container
query-plain query plain =
    elim (cases_Bool (nat_le 4 (length query))) [
      | inr short ↦ rw short refl
      | inl long ↦
          elim (cases_Bool (little_number 4 query == constructor)) [
            | inr other ↦ rw (long, other) refl
            | inl is ↦
                let same : little_number 4 query ≡ constructor = eqb-true (little_number 4 query) constructor is in
                let refused : is_refused (little_number 4 query) ≡ true = ap is_refused same ∙ container-refused in
                let served : begins_service query ≡ true = rw long refused in
                absurd (true-false (sym served ∙ plain))
          ]
    ]

abbrev IsFault : Option Fault → Type 0
IsFault found = found ≡ None → ⊥

refused : (fault : Fault) → IsFault (Some fault)
refused fault none = none-some fault (sym none)

-- what is taken as a call is none
pub submitted-plain : (count : ℕ) (body : List ℕ) (after : Option CallNo) → fault_at count body after ≡ None → IsPlain body
submitted-plain count body after is =
    elim (cases_Bool (begins_service body)) [
      | inr plain ↦ query-plain body plain
      | inl service ↦
          absurd
          (cond_both (nat_lt body_bytes_max (length body)) (Some (TooLong (length body))) _ IsFault (λ is. refused (TooLong (length body)))
          (λ is.
          cond_both (not ((length body % 4) == 0)) (Some (NotWords (length body))) _ IsFault (λ is. refused (NotWords (length body)))
          (λ is. rw service (refused (ServiceTag (little_number 4 body)))))
          is)
    ]
