-- What a server reads of a client's packet is what the client put there.
use Rattle.std.proofs.Common.{◌≡◌, ◌≤◌, ◌<◌, ◌+◌, ◌^◌, ◌==◌, ◌&&◌, ℕ, Bool, true, false, List, [], ◌∷◌, ◌++◌, length, length-append, Option, None, Some, Result, Ok, Err, inl, inr, refl, sym, ap, subst, ◌∙◌, arith, drop, take}
use Rattle.std.specs.Prelude.{IsTrue, nat_le}
use Rattle.std.specs.List.{AllByRecursion, flat_map}
use Rattle.std.proofs.lemmas.Bool.{cases_Bool, eqb-true, le-leb}
use Rattle.std.proofs.lemmas.List.{take_at, drop_at, length-drop}
use Rattle.byteorder.specs.Endian.{little_bytes, little_number}
use Rattle.byteorder.specs.Numbers.{little_number-reads_back}
use Rattle.octets.specs.Bytes.{IsBytes}
use Rattle.tl_codec.specs.Standard.{bytes_max}
use Rattle.tl_codec.specs.Spelling.{Int, Long, Bytes, Longs, spelling}
use Rattle.service_tl.specs.declared.lists.Message.{Message}
use Rattle.service_tl.specs.declared.item.Item.{Item}
use Rattle.service_tl.specs.declared.item.Item.TheVariants.{AuthBindTempAuthKey, DestroySession, GetFutureSalts, InvokeAfterMsg, MsgResendReq, MsgsAck, MsgsStateInfo, MsgsStateReq, Ping, RpcDropAnswer}
use Rattle.service_tl.specs.Exact.{IsRead, behind}
use Rattle.service_tl.specs.ItemOf.{item_of}
use Rattle.service_tl.specs.Items.{spelling_of}
use Rattle.service_tl.specs.Schema.{schema, service_numbers, auth_bind_temp_auth_key, destroy_session, get_future_salts, invoke_after_msg, msg_resend_req, msgs_ack, msgs_state_info, msgs_state_req, ping, rpc_drop_answer}
use Rattle.containers.specs.declared.fault.ContainerFault.{ContainerFault}
use Rattle.containers.specs.Container.{IsContainer, IsInner, begins_container, constructor, container_of, head_of, row}
use Rattle.containers.specs.Parts.{parts_of}
use Rattle.inbox.specs.Verdicts.{Verdict, Accepted, Again, Noticed}
use Rattle.inbox.specs.Kinds.{inner_messages, item_told, parts_among}
use Rattle.inbox.specs.Judging.{unfolded}
use Rattle.client_rules.specs.Asking.{begins_service, is_refused}
use Rattle.law_client.specs.Sent.{Asks, IsSaidAside}

-- ---- how a body begins

-- it begins with this number
abbrev pub Begins : ℕ → List ℕ → Type 0
Begins number body = (little_number 4 body ≡ number) × (4 ≤ length body)

begins-behind : (number : ℕ) (text : List ℕ) → number < 2 ^ 32 → Begins number (behind number text)
unfolding spelling
begins-behind number text small = (little_number-reads_back 4 number text small, omega (arith, length-append (little_bytes 4 number) text))

-- a service item's, which begins neither a container nor a call that waits
pub record IsAside (body : List ℕ) : Type 0 where
  pub number : ℕ
  pub begins : Begins number body
  pub refused : is_refused number ≡ true
  pub uncontained : (number == constructor) ≡ false
  pub unwrapped : (number == invoke_after_msg.number) ≡ false

aside-so : (item : Item) → IsSaidAside item → IsAside (spelling_of item)
unfolding spelling service_numbers schema
aside-so (MsgsAck numbers) short = record { number = msgs_ack.number; begins = begins-behind msgs_ack.number (spelling Longs numbers ++ []) (omega arith); refused = refl; uncontained = refl; unwrapped = refl }
aside-so (MsgsStateInfo request info) short = record { number = msgs_state_info.number; begins = begins-behind msgs_state_info.number (spelling Long request ++ (spelling Bytes info ++ [])) (omega arith); refused = refl; uncontained = refl; unwrapped = refl }
aside-so (MsgResendReq numbers) short = record { number = msg_resend_req.number; begins = begins-behind msg_resend_req.number (spelling Longs numbers ++ []) (omega arith); refused = refl; uncontained = refl; unwrapped = refl }
aside-so (MsgsStateReq numbers) short = record { number = msgs_state_req.number; begins = begins-behind msgs_state_req.number (spelling Longs numbers ++ []) (omega arith); refused = refl; uncontained = refl; unwrapped = refl }
aside-so (Ping id) short = record { number = ping.number; begins = begins-behind ping.number (spelling Long id ++ []) (omega arith); refused = refl; uncontained = refl; unwrapped = refl }
aside-so (GetFutureSalts count) short = record { number = get_future_salts.number; begins = begins-behind get_future_salts.number (spelling Int count ++ []) (omega arith); refused = refl; uncontained = refl; unwrapped = refl }
aside-so (DestroySession session) short = record { number = destroy_session.number; begins = begins-behind destroy_session.number (spelling Long session ++ []) (omega arith); refused = refl; uncontained = refl; unwrapped = refl }
aside-so (AuthBindTempAuthKey perm nonce expires message) short = record { number = auth_bind_temp_auth_key.number; begins = begins-behind auth_bind_temp_auth_key.number (spelling Long perm ++ (spelling Long nonce ++ (spelling Int expires ++ (spelling Bytes message ++ [])))) (omega arith); refused = refl; uncontained = refl; unwrapped = refl }
aside-so (RpcDropAnswer call) short = record { number = rpc_drop_answer.number; begins = begins-behind rpc_drop_answer.number (spelling Long call ++ []) (omega arith); refused = refl; uncontained = refl; unwrapped = refl }
aside-so item short = absurd short

wrapped-begins : (number : ℕ) (query : List ℕ) → Begins invoke_after_msg.number (spelling_of (InvokeAfterMsg number query))
unfolding spelling
wrapped-begins number query = begins-behind invoke_after_msg.number (spelling Long number ++ (query ++ [])) (omega arith)

pub true-false : true ≡ false → ⊥
true-false is = cc

service-begins : (number : ℕ) (body : List ℕ) → Begins number body → is_refused number ≡ true → begins_service body ≡ true
service-begins number body begins refused =
    let long : nat_le 4 (length body) ≡ true = le-leb 4 (length body) begins.1 in
    rw (long, begins.0) refused

-- a body asks something or nothing
pub not-both : (body query : List ℕ) → Asks body (Some query) → Asks body None → ⊥
not-both body query (plain, None, is) (item, spelt, short) =
    let aside = aside-so item short in
    let same : spelling_of item ≡ query = sym spelt ∙ is in
    true-false (sym (service-begins aside.number (spelling_of item) aside.begins aside.refused) ∙ (ap begins_service same ∙ plain))
not-both body query (plain, Some number, is) (item, spelt, short) =
    let aside = aside-so item short in
    let same : spelling_of item ≡ spelling_of (InvokeAfterMsg number query) = sym spelt ∙ is in
    let number_is : aside.number ≡ invoke_after_msg.number = sym aside.begins.0 ∙ (ap (little_number 4) same ∙ (wrapped-begins number query).0) in
    let e : (invoke_after_msg.number == invoke_after_msg.number) ≡ false = subst (λ (n : ℕ). (n == invoke_after_msg.number) ≡ false) number_is aside.unwrapped in
    true-false e

-- ---- no container

and-false : (b : Bool) → (b && false) ≡ false
and-false true = refl
and-false false = refl

no-container : (number : ℕ) (body : List ℕ) → Begins number body → (number == constructor) ≡ false → begins_container body ≡ false
unfolding begins_container
no-container number body begins other = rw (begins.0, other) (and-false (nat_le 4 (length body)))

container-refused : is_refused constructor ≡ true
unfolding service_numbers schema
container-refused = refl

plain-uncontained : (query : List ℕ) → begins_service query ≡ false → begins_container query ≡ false
unfolding begins_container
plain-uncontained query plain =
    elim (cases_Bool (nat_le 4 (length query))) [
      | inr short ↦ rw short refl
      | inl long ↦
          elim (cases_Bool (little_number 4 query == constructor)) [
            | inr other ↦ rw (long, other) refl
            | inl is ↦
                let same : little_number 4 query ≡ constructor = eqb-true (little_number 4 query) constructor is in
                let refused : is_refused (little_number 4 query) ≡ true = ap is_refused same ∙ container-refused in
                let served : begins_service query ≡ true = rw long refused in
                absurd (true-false (sym served ∙ plain))
          ]
    ]

pub uncontained : (body : List ℕ) (call : Option (List ℕ)) → Asks body call → begins_container body ≡ false
uncontained body (Some query) (plain, None, is) = ap begins_container is ∙ plain-uncontained query plain
uncontained body (Some query) (plain, Some number, is) =
    ap begins_container is ∙ no-container invoke_after_msg.number (spelling_of (InvokeAfterMsg number query)) (wrapped-begins number query) refl
uncontained body None (item, spelt, short) =
    let aside = aside-so item short in
    ap begins_container spelt ∙ no-container aside.number (spelling_of item) aside.begins aside.uncontained

-- ---- what is read

-- what laws tell of bytes
pub record Bytes-laws : Type 0 where
  pub front : (xs ys : List ℕ) → IsBytes (xs ++ ys) → IsBytes xs
  pub back : (xs ys : List ℕ) → IsBytes (xs ++ ys) → IsBytes ys
  pub drop : (n : ℕ) (xs : List ℕ) → IsBytes xs → IsBytes (drop n xs)
  pub begins : (messages : List Message) → IsTrue (begins_container (container_of messages))
  pub lawful : (number : ℕ) (messages : List Message) (body : List ℕ) → IsBytes body → IsTrue (begins_container body) → parts_of number body ≡ Ok messages → IsContainer number messages body
  pub rows : AllByRecursion IsRead schema

after-read : AllByRecursion IsRead schema → IsRead invoke_after_msg
unfolding schema
after-read rows = rows.1.1.1.1.1.1.1.1.1.1.1.1.1.1.1.1.1.1.1.1.1.1.1.1.1.0

-- a call that waits is read with the number for which it waits
pub wrapped-item : Bytes-laws → (number : ℕ) (query : List ℕ) → number < 2 ^ 64 → item_told (spelling_of (InvokeAfterMsg number query)) ≡ InvokeAfterMsg number query
wrapped-item laws number query small =
    let text : List ℕ = spelling Long number ++ (query ++ []) in
    let read : item_of (behind invoke_after_msg.number text) ≡ InvokeAfterMsg number query =
    after-read laws.rows (number, (query, tt)) text (spelling Long number, query ++ [], (small, refl), (query, [], refl, refl, refl), refl) in
    let alone : begins_container (spelling_of (InvokeAfterMsg number query)) ≡ false =
    no-container invoke_after_msg.number (spelling_of (InvokeAfterMsg number query)) (wrapped-begins number query) refl in
    rw alone read

-- ---- a container's messages

module _ (message : Message) (rest : List ℕ) where
  row-number : message.number < 2 ^ 64 → little_number 8 (row message ++ rest) ≡ message.number
  unfolding row
  row-number small = little_number-reads_back 8 message.number (little_bytes 4 message.seq ++ (little_bytes 4 (length message.body) ++ (message.body ++ rest))) small

  row-size : length message.body < 2 ^ 32 → little_number 4 (drop 12 (row message ++ rest)) ≡ length message.body
  unfolding row
  row-size small = little_number-reads_back 4 (length message.body) (message.body ++ rest) small

  row-behind : drop 16 (row message ++ rest) ≡ message.body ++ rest
  unfolding row
  row-behind = refl

  row-long : 16 ≤ length (row message ++ rest)
  unfolding row
  row-long = omega (arith, length-append message.body rest)

  row-length : length message.body + length rest ≤ length (row message ++ rest)
  unfolding row
  row-length = omega (arith, length-append message.body rest)

module _ (laws : Bytes-laws) (Was : ℕ → List ℕ → Type 0) where
  parts-were : (messages parts : List Message) → AllByRecursion (λ message. Was message.number message.body) messages
      → AllByRecursion (λ message. message.number < 2 ^ 64) messages → AllByRecursion (λ message. message.number < 2 ^ 64) parts
      → flat_map row messages ≡ flat_map row parts → length (flat_map row parts) ≤ bytes_max
      → AllByRecursion (λ message. Was message.number message.body) parts
  parts-were messages [] was small also same few = tt
  parts-were [] (part ∷ parts) was small also same few =
      let counted : 0 ≡ length (row part ++ flat_map row parts) = ap length same in
      absurd (omega (arith, counted, row-long part (flat_map row parts)))
  parts-were (message ∷ messages) (part ∷ parts) was small also same few =
      let one = flat_map row messages in
      let other = flat_map row parts in
      let counted : length (row message ++ one) ≡ length (row part ++ other) = ap length same in
      let first = row-length message one in
      let second = row-length part other in
      let number : message.number ≡ part.number = sym (row-number message one small.0) ∙ ap (little_number 8) same ∙ row-number part other also.0 in
      let size : length message.body ≡ length part.body =
      sym (row-size message one (omega (arith, counted, first, few))) ∙ ap (λ (t : List ℕ). little_number 4 (drop 12 t)) same ∙ row-size part other (omega (arith, second, few)) in
      let behind_it : message.body ++ one ≡ part.body ++ other = sym (row-behind message one) ∙ ap (drop 16) same ∙ row-behind part other in
      let body : message.body ≡ part.body =
      sym (take_at message.body one (length part.body) size) ∙ ap (take (length part.body)) behind_it ∙ take_at part.body other (length part.body) refl in
      let others : one ≡ other =
      sym (drop_at message.body one (length part.body) size) ∙ ap (drop (length part.body)) behind_it ∙ drop_at part.body other (length part.body) refl in (
        subst (λ (b : List ℕ). Was part.number b) body (subst (λ (n : ℕ). Was n message.body) number was.0),
        parts-were messages parts was.1 small.1 also.1 others (omega (arith, second, few)),
      )

  container-rows : (messages : List Message) → drop 8 (container_of messages) ≡ flat_map row messages
  unfolding container_of head_of
  container-rows messages = refl

  smaller : (top : ℕ) → top < 2 ^ 64 → (messages : List Message) → AllByRecursion (λ message. message.number < top) messages → AllByRecursion (λ message. message.number < 2 ^ 64) messages
  smaller top small [] below = tt
  smaller top small (message ∷ messages) below = (omega (arith, small, below.0), smaller top small messages below.1)

  inner-small : (number : ℕ) (messages : List Message) → AllByRecursion (IsInner number) messages → AllByRecursion (λ message. message.number < 2 ^ 64) messages
  inner-small number [] inner = tt
  inner-small number (message ∷ messages) inner = (inner.0.fits.0, inner-small number messages inner.1)

  unfolds-so : (P : Message → Type 0) (verdict : Verdict) (message : Message) → AllByRecursion P (inner_messages message) → AllByRecursion P (unfolded verdict message)
  unfolds-so P (Accepted item) message each = each
  unfolds-so P (Again mark) message each = tt
  unfolds-so P (Noticed code) message each = tt

  abbrev IsSuch : Message → Type 0
  IsSuch message = Was message.number message.body

  -- one message that is no container
  pub lone-was : (message : Message) → begins_container message.body ≡ false → Was message.number message.body → (verdict : Verdict) → AllByRecursion IsSuch (message ∷ unfolded verdict message)
  lone-was message alone was verdict = (was, unfolds-so IsSuch verdict message (rw alone tt))

  among-was : (messages : List Message) (number : ℕ) (body : List ℕ) → number < 2 ^ 64 → IsBytes body → length body ≤ bytes_max → body ≡ container_of messages
      → begins_container body ≡ true
      → AllByRecursion IsSuch messages → AllByRecursion (λ message. message.number < number) messages
      → (result : Result (List Message) ContainerFault) → parts_of number body ≡ result → AllByRecursion IsSuch (parts_among (Some result))
  among-was messages number body small bytes few is begins was below (Err fault) parsed = tt
  among-was messages number body small bytes few is begins was below (Ok parts) parsed =
      let lawful = laws.lawful number parts body bytes begins parsed in
      let same : flat_map row messages ≡ flat_map row parts =
      sym (container-rows messages) ∙ ap (drop 8) (sym is ∙ lawful.spelt) ∙ container-rows parts in
      let rows : drop 8 body ≡ flat_map row parts = ap (drop 8) lawful.spelt ∙ container-rows parts in
      let dropped : length (drop 8 body) ≡ length (flat_map row parts) = ap length rows in
      parts-were messages parts was (smaller number small messages below) (inner-small number parts lawful.inner) same (omega (arith, dropped, length-drop 8 body, few))

  begins-true : (b : Bool) → IsTrue b → b ≡ true
  begins-true b is = is

  -- a container of messages: what is inside it was
  pub container-was : (messages : List Message) (message : Message) → message.number < 2 ^ 64 → IsBytes message.body → length message.body ≤ bytes_max → message.body ≡ container_of messages
      → AllByRecursion IsSuch messages → AllByRecursion (λ inner. inner.number < message.number) messages → (verdict : Verdict)
      → (begins_container message.body ≡ true) × AllByRecursion IsSuch (unfolded verdict message)
  container-was messages message small bytes few is was below verdict =
      let begins : begins_container message.body ≡ true = begins-true (begins_container message.body) (subst (λ (b : List ℕ). IsTrue (begins_container b)) (sym is) (laws.begins messages)) in (
        begins,
        unfolds-so IsSuch verdict message
            (rw begins (among-was messages message.number message.body small bytes few is begins was below (parts_of message.number message.body) refl)),
      )
