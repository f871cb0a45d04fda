-- What went out of a server in a packet is what a client reads in it.
use Rattle.std.proofs.Common.{◌≡◌, ◌≤◌, ◌<◌, ◌^◌, ◌==◌, ℕ, true, false, List, [], ◌∷◌, ◌++◌, length, Result, Ok, Err, Some, inl, inr, refl, sym, ap, subst, ◌∙◌, arith, drop, take}
use Rattle.std.specs.List.{AllByRecursion, Contains, flat_map}
use Rattle.std.proofs.lemmas.Bool.{cases_Bool}
use Rattle.std.proofs.lemmas.List.{take_at, drop_at, length-drop}
use Rattle.byteorder.specs.Endian.{little_number}
use Rattle.tl_codec.specs.declared.fault.TlFault.{TlFault}
use Rattle.tl_codec.specs.Standard.{bytes_max}
use Rattle.tl_codec.specs.Spelling.{Form, Int, Long, Bytes, Longs, Of, spelling}
use Rattle.tl_codec.specs.Reading.{◌>>=◌, Takes, read_at}
use Rattle.service_tl.specs.declared.item.Item.{Item}
use Rattle.service_tl.specs.declared.item.Item.TheVariants.{AuthBindTempAuthKey, BadMsgNotification, BadServerSalt, Broken, Call, DestroySession, DestroySessionNone, DestroySessionOk, FutureSalts, GetFutureSalts, InvokeAfterMsg, InvokeAfterMsgs, MsgContainer, MsgDetailedInfo, MsgNewDetailedInfo, MsgResendReq, MsgsAck, MsgsAllInfo, MsgsStateInfo, MsgsStateReq, NewSessionCreated, Packed, Ping, PingDelayDisconnect, Pong, RpcAnswerDropped, RpcAnswerDroppedRunning, RpcAnswerUnknown, RpcDropAnswer, RpcError, RpcResult}
use Rattle.service_tl.specs.declared.lists.Message.{Message}
use Rattle.service_tl.specs.Exact.{IsRead, behind}
use Rattle.service_tl.specs.Fields.{Field, Salts, Bodies, field_at, field_spelling}
use Rattle.service_tl.specs.ItemOf.{item_of, item_after, item_behind, whole}
use Rattle.service_tl.specs.Items.{Values, made, spelling_of}
use Rattle.service_tl.specs.Schema.{Makes, fields_at, schema, rpc_result, rpc_error, rpc_drop_answer, rpc_answer_unknown, rpc_answer_dropped_running, rpc_answer_dropped, get_future_salts, future_salts, ping, ping_delay_disconnect, pong, destroy_session, destroy_session_ok, destroy_session_none, new_session_created, msg_container, msgs_ack, msgs_state_req, msgs_state_info, msgs_all_info, msg_resend_req, msg_detailed_info, msg_new_detailed_info, bad_msg_notification, bad_server_salt, invoke_after_msg, invoke_after_msgs, auth_bind_temp_auth_key}
use Rattle.containers.specs.Container.{IsContainer, begins_container, container_of, row}
use Rattle.containers.specs.Parts.{parts_of}
use Rattle.packing.specs.Packing.{packed}
use Rattle.envelope.specs.declared.parts.Envelope.{Envelope}
use Rattle.client_rules.specs.Taking.{messages_of}
use Rattle.law_moves.specs.Table as moves
use Rattle.law_moves.specs.World.{World}
use Rattle.law_client.specs.Packets.{item_there, items_there, packet_items}
use Rattle.world_rules.specs.Setting.{as_heard}
use Rattle.law_server_moves.specs.Speaking.{IsPlain}
use Rattle.law_server_moves.specs.Sending.{AreSpelt, IsSmall, WentOut}
use Rattle.law_server_moves.proofs.Asked.{AreRead, Reading, int_again, long_again, no_container}
use Rattle.law_server_moves.proofs.Up.{Unfolds, container_rows, row_behind, row_length, row_long, row_size}

-- ---- rows of the schema

result_read : AreRead → IsRead rpc_result
unfolding schema
result_read rows = rows.0

new_read : AreRead → IsRead new_session_created
unfolding schema
new_read rows = rows.1.1.1.1.1.1.1.1.1.1.1.1.1.1.0

notice_read : AreRead → IsRead bad_msg_notification
unfolding schema
notice_read rows = rows.1.1.1.1.1.1.1.1.1.1.1.1.1.1.1.1.1.1.1.1.1.1.1.0

salt_read : AreRead → IsRead bad_server_salt
unfolding schema
salt_read rows = rows.1.1.1.1.1.1.1.1.1.1.1.1.1.1.1.1.1.1.1.1.1.1.1.1.0

-- ---- items of which the law has nothing

whole_quiet : (number : ℕ) (item : Item) (rest : List ℕ) → item_there item ≡ [] → item_there (whole number (Ok (Some item, rest))) ≡ []
whole_quiet number item rest none =
    elim (cases_Bool (length rest == 0)) [
      | inl is ↦ rw is none
      | inr not ↦ rw not refl
    ]

field_quiet : {A : Type 0} (number : ℕ) (after : A × List ℕ → Result (Item × List ℕ) TlFault) (read : Result (A × List ℕ) TlFault)
    → ((value : A × List ℕ) → item_there (whole number (after value >>= λ item. Ok (Some item.0, item.1))) ≡ [])
    → item_there (whole number ((read >>= after) >>= λ item. Ok (Some item.0, item.1))) ≡ []
field_quiet number after (Ok value) each = each value
field_quiet number after (Err fault) each = refl

quiet : (fields : List Field) (item : Makes fields) (number : ℕ) (text : List ℕ) → ((values : Values fields) → item_there (made fields item values) ≡ [])
    → item_there (whole number (fields_at fields item text >>= λ item. Ok (Some item.0, item.1))) ≡ []
quiet [] item number text none = whole_quiet number item text (none tt)
quiet (field ∷ fields) item number text none =
    field_quiet number (λ value. fields_at fields (item value.0) value.1) (field_at field text) (λ value. quiet fields (item value.0) number value.1 (λ values. none (value.0, values)))

-- an item's spelling is no container, and what is read of it is the item, as far as it matters
pub record IsReadSo (item : Item) : Type 0 where
  pub unnested : begins_container (spelling_of item) ≡ false
  pub same : item_there (item_of (spelling_of item)) ≡ item_there item

all_front : (xs ys : List moves.Item) → AllByRecursion IsSmall (xs ++ ys) → AllByRecursion IsSmall xs
all_front [] ys h = tt
all_front (x ∷ xs) ys h = (h.0, all_front xs ys h.1)

all_back : (xs ys : List moves.Item) → AllByRecursion IsSmall (xs ++ ys) → AllByRecursion IsSmall ys
all_back [] ys h = h
all_back (x ∷ xs) ys h = all_back xs ys h.1

nothing_begun : begins_container [] ≡ false
unfolding begins_container
nothing_begun = refl

module _ (r : Reading) (read : (form : Form) (value : Of form) (text rest : List ℕ) → Takes form value text rest → read_at form text ≡ Ok (value, rest)) where
  behind_read : (number : ℕ) (text : List ℕ) → number < 2 ^ 32 → item_of (behind number text) ≡ item_behind number text
  behind_read number text small =
      ap item_after (read Int number (behind number text) text (spelling Int number, (small, refl), refl))

  quiet_behind : (number : ℕ) (text : List ℕ) → number < 2 ^ 32 → item_there (item_behind number text) ≡ [] → item_there (item_of (behind number text)) ≡ []
  quiet_behind number text small none = ap item_there (behind_read number text small) ∙ none

  nothing_so : (item : Item) → spelling_of item ≡ [] → item_there item ≡ [] → IsReadSo item
  nothing_so item is none = record {
    unnested = ap begins_container is ∙ nothing_begun;
    same = ap (λ (body : List ℕ). item_there (item_of body)) is ∙ ap item_there (r.short [] (omega arith)) ∙ sym none;
  }

  reads_so : (item : Item) → IsPlain item → AllByRecursion IsSmall (item_there item) → IsReadSo item
  unfolding schema
  reads_so (RpcError a b) plain small =
      let text : List ℕ = spelling Int a ++ (spelling Bytes b ++ []) in
      record { unnested = no_container r rpc_error.number text (omega arith) refl; same = quiet_behind rpc_error.number text (omega arith) (quiet rpc_error.fields rpc_error.item rpc_error.number text (λ values. refl)) }
  reads_so (RpcDropAnswer a) plain small =
      let text : List ℕ = spelling Long a ++ [] in
      record { unnested = no_container r rpc_drop_answer.number text (omega arith) refl; same = quiet_behind rpc_drop_answer.number text (omega arith) (quiet rpc_drop_answer.fields rpc_drop_answer.item rpc_drop_answer.number text (λ values. refl)) }
  reads_so RpcAnswerUnknown plain small =
      let text : List ℕ = [] in
      record { unnested = no_container r rpc_answer_unknown.number text (omega arith) refl; same = quiet_behind rpc_answer_unknown.number text (omega arith) (quiet rpc_answer_unknown.fields rpc_answer_unknown.item rpc_answer_unknown.number text (λ values. refl)) }
  reads_so RpcAnswerDroppedRunning plain small =
      let text : List ℕ = [] in
      record { unnested = no_container r rpc_answer_dropped_running.number text (omega arith) refl; same = quiet_behind rpc_answer_dropped_running.number text (omega arith) (quiet rpc_answer_dropped_running.fields rpc_answer_dropped_running.item rpc_answer_dropped_running.number text (λ values. refl)) }
  reads_so (RpcAnswerDropped a b c) plain small =
      let text : List ℕ = spelling Long a ++ (spelling Int b ++ (spelling Int c ++ [])) in
      record { unnested = no_container r rpc_answer_dropped.number text (omega arith) refl; same = quiet_behind rpc_answer_dropped.number text (omega arith) (quiet rpc_answer_dropped.fields rpc_answer_dropped.item rpc_answer_dropped.number text (λ values. refl)) }
  reads_so (GetFutureSalts a) plain small =
      let text : List ℕ = spelling Int a ++ [] in
      record { unnested = no_container r get_future_salts.number text (omega arith) refl; same = quiet_behind get_future_salts.number text (omega arith) (quiet get_future_salts.fields get_future_salts.item get_future_salts.number text (λ values. refl)) }
  reads_so (FutureSalts a b c) plain small =
      let text : List ℕ = spelling Long a ++ (spelling Int b ++ (field_spelling Salts c ++ [])) in
      record { unnested = no_container r future_salts.number text (omega arith) refl; same = quiet_behind future_salts.number text (omega arith) (quiet future_salts.fields future_salts.item future_salts.number text (λ values. refl)) }
  reads_so (Ping a) plain small =
      let text : List ℕ = spelling Long a ++ [] in
      record { unnested = no_container r ping.number text (omega arith) refl; same = quiet_behind ping.number text (omega arith) (quiet ping.fields ping.item ping.number text (λ values. refl)) }
  reads_so (PingDelayDisconnect a b) plain small =
      let text : List ℕ = spelling Long a ++ (spelling Int b ++ []) in
      record { unnested = no_container r ping_delay_disconnect.number text (omega arith) refl; same = quiet_behind ping_delay_disconnect.number text (omega arith) (quiet ping_delay_disconnect.fields ping_delay_disconnect.item ping_delay_disconnect.number text (λ values. refl)) }
  reads_so (Pong a b) plain small =
      let text : List ℕ = spelling Long a ++ (spelling Long b ++ []) in
      record { unnested = no_container r pong.number text (omega arith) refl; same = quiet_behind pong.number text (omega arith) (quiet pong.fields pong.item pong.number text (λ values. refl)) }
  reads_so (DestroySession a) plain small =
      let text : List ℕ = spelling Long a ++ [] in
      record { unnested = no_container r destroy_session.number text (omega arith) refl; same = quiet_behind destroy_session.number text (omega arith) (quiet destroy_session.fields destroy_session.item destroy_session.number text (λ values. refl)) }
  reads_so (DestroySessionOk a) plain small =
      let text : List ℕ = spelling Long a ++ [] in
      record { unnested = no_container r destroy_session_ok.number text (omega arith) refl; same = quiet_behind destroy_session_ok.number text (omega arith) (quiet destroy_session_ok.fields destroy_session_ok.item destroy_session_ok.number text (λ values. refl)) }
  reads_so (DestroySessionNone a) plain small =
      let text : List ℕ = spelling Long a ++ [] in
      record { unnested = no_container r destroy_session_none.number text (omega arith) refl; same = quiet_behind destroy_session_none.number text (omega arith) (quiet destroy_session_none.fields destroy_session_none.item destroy_session_none.number text (λ values. refl)) }
  reads_so (MsgsAck a) plain small =
      let text : List ℕ = spelling Longs a ++ [] in
      record { unnested = no_container r msgs_ack.number text (omega arith) refl; same = quiet_behind msgs_ack.number text (omega arith) (quiet msgs_ack.fields msgs_ack.item msgs_ack.number text (λ values. refl)) }
  reads_so (MsgsStateReq a) plain small =
      let text : List ℕ = spelling Longs a ++ [] in
      record { unnested = no_container r msgs_state_req.number text (omega arith) refl; same = quiet_behind msgs_state_req.number text (omega arith) (quiet msgs_state_req.fields msgs_state_req.item msgs_state_req.number text (λ values. refl)) }
  reads_so (MsgsStateInfo a b) plain small =
      let text : List ℕ = spelling Long a ++ (spelling Bytes b ++ []) in
      record { unnested = no_container r msgs_state_info.number text (omega arith) refl; same = quiet_behind msgs_state_info.number text (omega arith) (quiet msgs_state_info.fields msgs_state_info.item msgs_state_info.number text (λ values. refl)) }
  reads_so (MsgsAllInfo a b) plain small =
      let text : List ℕ = spelling Longs a ++ (spelling Bytes b ++ []) in
      record { unnested = no_container r msgs_all_info.number text (omega arith) refl; same = quiet_behind msgs_all_info.number text (omega arith) (quiet msgs_all_info.fields msgs_all_info.item msgs_all_info.number text (λ values. refl)) }
  reads_so (MsgResendReq a) plain small =
      let text : List ℕ = spelling Longs a ++ [] in
      record { unnested = no_container r msg_resend_req.number text (omega arith) refl; same = quiet_behind msg_resend_req.number text (omega arith) (quiet msg_resend_req.fields msg_resend_req.item msg_resend_req.number text (λ values. refl)) }
  reads_so (MsgDetailedInfo a b c d) plain small =
      let text : List ℕ = spelling Long a ++ (spelling Long b ++ (spelling Int c ++ (spelling Int d ++ []))) in
      record { unnested = no_container r msg_detailed_info.number text (omega arith) refl; same = quiet_behind msg_detailed_info.number text (omega arith) (quiet msg_detailed_info.fields msg_detailed_info.item msg_detailed_info.number text (λ values. refl)) }
  reads_so (MsgNewDetailedInfo a b c) plain small =
      let text : List ℕ = spelling Long a ++ (spelling Int b ++ (spelling Int c ++ [])) in
      record { unnested = no_container r msg_new_detailed_info.number text (omega arith) refl; same = quiet_behind msg_new_detailed_info.number text (omega arith) (quiet msg_new_detailed_info.fields msg_new_detailed_info.item msg_new_detailed_info.number text (λ values. refl)) }
  reads_so (InvokeAfterMsg a b) plain small =
      let text : List ℕ = spelling Long a ++ (b ++ []) in
      record { unnested = no_container r invoke_after_msg.number text (omega arith) refl; same = quiet_behind invoke_after_msg.number text (omega arith) (quiet invoke_after_msg.fields invoke_after_msg.item invoke_after_msg.number text (λ values. refl)) }
  reads_so (InvokeAfterMsgs a b) plain small =
      let text : List ℕ = spelling Longs a ++ (b ++ []) in
      record { unnested = no_container r invoke_after_msgs.number text (omega arith) refl; same = quiet_behind invoke_after_msgs.number text (omega arith) (quiet invoke_after_msgs.fields invoke_after_msgs.item invoke_after_msgs.number text (λ values. refl)) }
  reads_so (AuthBindTempAuthKey a b c d) plain small =
      let text : List ℕ = spelling Long a ++ (spelling Long b ++ (spelling Int c ++ (spelling Bytes d ++ []))) in
      record { unnested = no_container r auth_bind_temp_auth_key.number text (omega arith) refl; same = quiet_behind auth_bind_temp_auth_key.number text (omega arith) (quiet auth_bind_temp_auth_key.fields auth_bind_temp_auth_key.item auth_bind_temp_auth_key.number text (λ values. refl)) }
  reads_so (RpcResult call content) plain small =
      let text : List ℕ = spelling Long call ++ (content ++ []) in
      record {
        unnested = no_container r rpc_result.number text (omega arith) refl;
        same = ap item_there (result_read r.rows (call, (content, tt)) text (spelling Long call, content ++ [], (small.0, refl), (content, [], refl, refl, refl), refl));
      }
  reads_so (NewSessionCreated first unique salt) plain small =
      let v = long_again r first in
      let last : List ℕ = spelling Long salt ++ [] in
      let second : List ℕ = spelling Long unique ++ last in
      let text : List ℕ = spelling Long first ++ second in
      record {
        unnested = no_container r new_session_created.number text (omega arith) refl;
        same = ap item_there
            (new_read r.rows (v.0, (unique, (salt, tt))) text
            (spelling Long first, second, v.1, (spelling Long unique, last, (small.0.0, refl), (spelling Long salt, [], (small.0.1, refl), refl, refl), refl), refl));
      }
  reads_so (BadMsgNotification number seq code) plain small =
      let v = int_again r seq in
      let last : List ℕ = spelling Int code ++ [] in
      let second : List ℕ = spelling Int seq ++ last in
      let text : List ℕ = spelling Long number ++ second in
      record {
        unnested = no_container r bad_msg_notification.number text (omega arith) refl;
        same = ap item_there
            (notice_read r.rows (number, (v.0, (code, tt))) text
            (spelling Long number, second, (small.0.0, refl), (spelling Int seq, last, v.1, (spelling Int code, [], (small.0.1, refl), refl, refl), refl), refl));
      }
  reads_so (BadServerSalt number seq code salt) plain small =
      let v = int_again r seq in
      let c = int_again r code in
      let last : List ℕ = spelling Long salt ++ [] in
      let third : List ℕ = spelling Int code ++ last in
      let second : List ℕ = spelling Int seq ++ third in
      let text : List ℕ = spelling Long number ++ second in
      record {
        unnested = no_container r bad_server_salt.number text (omega arith) refl;
        same = ap item_there
            (salt_read r.rows (number, (v.0, (c.0, (salt, tt)))) text
            (spelling Long number, second, (small.0.0, refl), (spelling Int seq, third, v.1, (spelling Int code, last, c.1, (spelling Long salt, [], (small.0.1, refl), refl, refl), refl), refl), refl));
      }
  reads_so (MsgContainer messages) plain small = absurd plain
  reads_so Packed plain small = nothing_so Packed refl refl
  reads_so Call plain small = nothing_so Call refl refl
  reads_so (Broken number) plain small = nothing_so (Broken number) refl refl

  -- ---- a container

  rows_read : (messages parts : List Message) (items : List Item) → AreSpelt messages items → AllByRecursion IsSmall (flat_map item_there items)
      → flat_map row messages ≡ flat_map row parts → length (flat_map row parts) ≤ bytes_max → items_there parts ≡ flat_map item_there items
  rows_read [] [] [] spelt small same few = refl
  rows_read [] (part ∷ parts) [] spelt small same few =
      let counted : 0 ≡ length (row part ++ flat_map row parts) = ap length same in
      absurd (omega (arith, counted, row_long part (flat_map row parts)))
  rows_read [] parts (item ∷ items) spelt small same few = absurd spelt
  rows_read (message ∷ messages) parts [] spelt small same few = absurd spelt
  rows_read (message ∷ messages) [] (item ∷ items) spelt small same few =
      let counted : length (row message ++ flat_map row messages) ≡ 0 = ap length same in
      absurd (omega (arith, counted, row_long message (flat_map row messages)))
  rows_read (message ∷ messages) (part ∷ parts) (item ∷ items) spelt small same few =
      let one = flat_map row messages in
      let other = flat_map row parts in
      let counted : length (row message ++ one) ≡ length (row part ++ other) = ap length same in
      let first = row_length message one in
      let second = row_length part other in
      let size : length message.body ≡ length part.body =
      sym (row_size message one (omega (arith, counted, first, few))) ∙ ap (λ (t : List ℕ). little_number 4 (drop 12 t)) same ∙ row_size part other (omega (arith, second, few)) in
      let behind_it : message.body ++ one ≡ part.body ++ other = sym (row_behind message one) ∙ ap (drop 16) same ∙ row_behind part other in
      let body : message.body ≡ part.body =
      sym (take_at message.body one (length part.body) size) ∙ ap (take (length part.body)) behind_it ∙ take_at part.body other (length part.body) refl in
      let others : one ≡ other =
      sym (drop_at message.body one (length part.body) size) ∙ ap (drop (length part.body)) behind_it ∙ drop_at part.body other (length part.body) refl in
      let here : item_there (item_of part.body) ≡ item_there item =
      ap (λ (b : List ℕ). item_there (item_of b)) (sym body ∙ spelt.0) ∙ (reads_so item spelt.1 (all_front (item_there item) (flat_map item_there items) small)).same in
      let rest = rows_read messages parts items spelt.2 (all_back (item_there item) (flat_map item_there items) small) others (omega (arith, second, few)) in
      ap (λ (l : List moves.Item). l ++ items_there parts) here ∙ ap (λ (l : List moves.Item). item_there item ++ l) rest

  container_quiet : (text : List ℕ) → item_there (item_of (behind msg_container.number text)) ≡ []
  unfolding schema
  container_quiet text = quiet_behind msg_container.number text (omega arith) (quiet msg_container.fields msg_container.item msg_container.number text (λ values. refl))

  module _ (u : Unfolds) (spelt_so : (messages : List Message) → container_of messages ≡ spelling_of (MsgContainer messages))
      (parsed : (number : ℕ) (messages : List Message) (body : List ℕ) → IsContainer number messages body → parts_of number body ≡ Ok messages)
      (number seq : ℕ) where
    container_down : (group : List Message) (body : List ℕ) (items : List Item) → body ≡ container_of group → length body ≤ bytes_max
        → (begins_container body ≡ true → (parts : List Message) × IsContainer number parts body)
        → AreSpelt group items → AllByRecursion IsSmall (flat_map item_there items) → items_there (messages_of (record { number = number; seq = seq; body = body })) ≡ flat_map item_there items
    container_down group body items is few lawful spelt small =
        let begins : begins_container body ≡ true = subst (λ (b : List ℕ). begins_container b ≡ true) (sym is) (u.begins group) in
        let its = lawful begins in
        let parts = its.0 in
        let said = parsed number parts body its.1 in
        let same : flat_map row group ≡ flat_map row parts = sym (container_rows group) ∙ ap (drop 8) (sym is ∙ its.1.spelt) ∙ container_rows parts in
        let rows : drop 8 body ≡ flat_map row parts = ap (drop 8) its.1.spelt ∙ container_rows parts in
        let dropped : length (drop 8 body) ≡ length (flat_map row parts) = ap length rows in
        let outer : item_there (item_of body) ≡ [] =
        ap (λ (b : List ℕ). item_there (item_of b)) (is ∙ spelt_so group) ∙ container_quiet (field_spelling Bodies group ++ []) in
        rw (begins, said, outer) (rows_read group parts items spelt small same (omega (arith, dropped, length-drop 8 body, few)))

    alone_down : (message : Message) (body : List ℕ) (items : List Item) → body ≡ message.body → AreSpelt (message ∷ []) items → AllByRecursion IsSmall (flat_map item_there items)
        → items_there (messages_of (record { number = number; seq = seq; body = body })) ≡ flat_map item_there items
    alone_down message body [] is spelt small = absurd spelt
    alone_down message body (item ∷ other ∷ items) is spelt small = absurd spelt.2
    alone_down message body (item ∷ []) is spelt small =
        let so = reads_so item spelt.1 (all_front (item_there item) [] small) in
        let its : body ≡ spelling_of item = is ∙ spelt.0 in
        let alone : begins_container body ≡ false = ap begins_container its ∙ so.unnested in
        let same : item_there (item_of body) ≡ item_there item = ap (λ (b : List ℕ). item_there (item_of b)) its ∙ so.same in
        rw (alone, same) refl

    group_down : (group : List Message) (body : List ℕ) (items : List Item) → body ≡ packed group → length body ≤ bytes_max
        → (begins_container body ≡ true → (parts : List Message) × IsContainer number parts body)
        → AreSpelt group items → AllByRecursion IsSmall (flat_map item_there items) → items_there (messages_of (record { number = number; seq = seq; body = body })) ≡ flat_map item_there items
    group_down [] body items is few lawful spelt small = container_down [] body items is few lawful spelt small
    group_down (message ∷ []) body items is few lawful spelt small = alone_down message body items is spelt small
    group_down (message ∷ other ∷ group) body items is few lawful spelt small = container_down (message ∷ other ∷ group) body items is few lawful spelt small

pub packet_down : Reading → ((form : Form) (value : Of form) (text rest : List ℕ) → Takes form value text rest → read_at form text ≡ Ok (value, rest)) → Unfolds
    → ((messages : List Message) → container_of messages ≡ spelling_of (MsgContainer messages))
    → ((number : ℕ) (messages : List Message) (body : List ℕ) → IsContainer number messages body → parts_of number body ≡ Ok messages)
    → (w : World) (sealed : Envelope) → length sealed.body ≤ bytes_max → (begins_container sealed.body ≡ true → (parts : List Message) × IsContainer sealed.number parts sealed.body)
    → (went : WentOut w (as_heard sealed)) → Contains w.downs (record { server = went.unique; items = packet_items sealed })
packet_down r read u spelt_so parsed w sealed few lawful went =
    let items = went.spoken.items in
    let same = group_down r read u spelt_so parsed sealed.number sealed.seq went.group sealed.body items went.body few lawful went.spoken.spelt went.spoken.small in
    subst (λ (l : List moves.Item). Contains w.downs (record { server = went.unique; items = l })) (sym same) went.spoken.there
