-- A flush gives new numbers to new messages, and sends others under the numbers that they had.
use Rattle.std.proofs.Common.{◌≡◌, ◌∙◌, ℕ, zero, suc, ◌-◌, ◌<◌, Bool, true, false, Option, Some, None, List, [], ◌∷◌, ◌++◌, append-nil, append_assoc, ap, sym, subst, refl, arith, inl, inr}
use Rattle.std.specs.Prelude.{◌&&◌, IfSome, fold, is_some, nat_lt, option_map, slice_get}
use Rattle.std.specs.List.{AllByRecursion, Contains}
use Rattle.std.proofs.lemmas.Bool.{cond_both}
use Rattle.std.proofs.lemmas.List.Elements.{Contains-append_right, Contains-push}
use Rattle.draws.specs.Draws.{draw_after, next_bytes}
use Rattle.msg_ids.specs.Counters.{next_number, room}
use Rattle.service_tl.specs.declared.item.Item.{Item}
use Rattle.service_tl.specs.declared.item.Item.TheVariants.{AuthBindTempAuthKey, DestroySession, GetFutureSalts, MsgResendReq, MsgsAck, MsgsStateInfo, MsgsStateReq, Ping, RpcDropAnswer}
use Rattle.service_tl.specs.declared.lists.Message.{Message}
use Rattle.service_tl.specs.Items.{spelling_of}
use Rattle.containers.specs.Container.{container_of}
use Rattle.packing.specs.Packing.{is_within}
use Rattle.call_table.specs.declared.call.CallNo.{CallNo}
use Rattle.call_table.specs.declared.call.Fate.TheVariants as fate
use Rattle.call_table.specs.declared.call.Group.TheVariants as group
use Rattle.call_table.specs.declared.call.Living.{Living}
use Rattle.call_table.specs.Table.{Call, Name, at, group_of, living_name, owner, sent, settled}
use Rattle.client_rules.specs.Client.{Asked, Binding, Bound, Client, Held, Needed, Refused, States, Temporary, after_message, at_moment, bound_so, calls_of, is_open, numbered, time_of, with_binding, with_call}
use Rattle.client_rules.specs.Sending.{Setting, binding_body, inner_of}
use Rattle.client_rules.specs.Filling.{Filling, Goes, Never, Turn, Waits, asks_binding, asks_states, body_behind, changes, empty, fills, goes, is_needed, number_of, outstanding, says, says_acks, says_binding, says_call, says_call_at, says_destroyed, says_drop, says_drop_of, says_ping, says_resent, says_salts, says_states, says_told, sends_call, takes_turn, turn_of, undropped}
use Rattle.client_rules.specs.Flush.{Flushed, Marked, asked_alone, binding_alone, filled, first_marked, flush, gone_again, has_any, marked_at, message_behind, remembers, remembers_lone, room_min, sends, unless_binding, unless_call}
use Rattle.law_order.specs.Given.{IsAnswerOf, IsAskedAmong, IsPlain, LivesAmong, given_by}
use Rattle.law_order.proofs.Plain.{IsSaid, behind-plain, item-plain}
use Rattle.law_order.proofs.Kept.{Has, Line, again-given, again-lives, changed-given, more-given, sent-lives, settled-lives}
use Rattle.law_order.proofs.NumberTaking.{moment-given}
use Rattle.law_order.proofs.Lists.{all-append, all-members, none-some, some-same, true-false}

above : (last now : ℕ) → last < next_number last now
above last now = omega arith

module _ (session : Line) (given : List Message) where
  -- so far, with the messages of the packet
  abbrev Holds : Client → List Message → Type 0
  Holds client messages = Has session (given ++ messages) client × AllByRecursion (λ (message : Message). IsPlain message.body) messages

  goes-so : {S : Type 0} (message : Message) (leaves : Filling S → Filling S) (filling : Filling S) → Holds filling.client filling.messages
      → Holds (leaves (record filling { messages = filling.messages ++ message ∷ [] })).client (leaves (record filling { messages = filling.messages ++ message ∷ [] })).messages
      → Holds (goes message leaves filling).client (goes message leaves filling).messages
  goes-so {S} message leaves filling before after =
      cond_both filling.is_full filling _ (λ (filling : Filling S). Holds filling.client filling.messages) (λ is. before)
      (λ is.
      cond_both (is_within (filling.messages ++ message ∷ [])) _ _ (λ (filling : Filling S). Holds filling.client filling.messages) (λ is. after)
      (λ is. before))

  said-so : (is_content : Bool) (body : List ℕ) (client : Client) (messages : List Message) → IsPlain body → Holds client messages
      → Holds (after_message is_content client) (messages ++ numbered is_content body client ∷ [])
  said-so is_content body client messages plain holds = (
    subst (λ (all : List Message). Has session all (after_message is_content client)) (append_assoc given messages (numbered is_content body client ∷ []))
        (more-given session (given ++ messages) is_content body client holds.0),
    all-append (λ (message : Message). IsPlain message.body) messages (numbered is_content body client ∷ []) holds.1 (plain, tt),
  )

  -- what a change leaves
  abbrev Leaves : (Client → Client) → Type 0
  Leaves change = (all : List Message) (client : Client) → Has session all client → Has session all (change client)

  says-so : {S : Type 0} (is_content : Bool) (item : Item) (change : Client → Client) (filling : Filling S) → IsSaid item → Leaves change
      → Holds filling.client filling.messages → Holds (says is_content item change filling).client (says is_content item change filling).messages
  says-so is_content item change filling said leaves holds =
      let after = said-so is_content (spelling_of item) filling.client filling.messages (item-plain item said) holds in
      goes-so (numbered is_content (spelling_of item) filling.client) (changes (λ client. change (after_message is_content client))) filling holds
      (leaves (given ++ (filling.messages ++ numbered is_content (spelling_of item) filling.client ∷ [])) (after_message is_content filling.client) after.0, after.1)

  all-at : (P : Call → Type 0) (calls : List Call) (place : ℕ) (call : Call) → slice_get calls place ≡ Some call → AllByRecursion P calls → P call
  all-at P [] place call is all = absurd (none-some call is)
  all-at P (one ∷ calls) zero call is all = subst P (some-same one call is) all.0
  all-at P (one ∷ calls) (suc place) call is all = all-at P calls place call is all.1

  asked-so : (all : List Message) (message : Message) (temporary : Option Temporary) → IsPlain message.body → Contains all message
      → IfSome (option_map (bound_so (Asked message)) temporary) (λ temporary. IsAskedAmong all temporary.binding)
  asked-so all message None plain among = tt
  asked-so all message (Some temporary) plain among = (plain, among)

  module _ {S : Type 0} where
    abbrev HoldsIn : Filling S → Type 0
    HoldsIn filling = Holds filling.client filling.messages

    acks-so : (acks : List ℕ) (filling : Filling S) → HoldsIn filling → HoldsIn (says_acks acks filling)
    acks-so [] filling holds = holds
    acks-so (ack ∷ acks) filling holds =
        says-so false (MsgsAck (ack ∷ acks)) (λ client. record client { table = record client.table { acks = [] } }) filling tt
        (λ all client h. record { once = h.once; within = h.within; living = h.living; asked = h.asked; same = h.same }) holds

    told-so : (told : Option States) (filling : Filling S) → HoldsIn filling → HoldsIn (says_told told filling)
    told-so None filling holds = holds
    told-so (Some states) filling holds =
        says-so false (MsgsStateInfo states.request states.info) (λ client. record client { waiting = record client.waiting { told = None } }) filling tt
        (λ all client h. record { once = h.once; within = h.within; living = h.living; asked = h.asked; same = h.same }) holds

    resent-so : (numbers : List ℕ) (filling : Filling S) → HoldsIn filling → HoldsIn (says_resent numbers filling)
    resent-so [] filling holds = holds
    resent-so (number ∷ numbers) filling holds =
        says-so false (MsgResendReq (number ∷ numbers)) (λ client. record client { waiting = record client.waiting { resent = [] } }) filling tt
        (λ all client h. record { once = h.once; within = h.within; living = h.living; asked = h.asked; same = h.same }) holds

    states-so : (is : Bool) (filling : Filling S) → HoldsIn filling → HoldsIn (says_states is filling)
    states-so false filling holds = holds
    states-so true filling holds =
        says-so false (MsgsStateReq (outstanding filling.client)) (asks_states (outstanding filling.client)) filling tt
        (λ all client h. record { once = h.once; within = h.within; living = h.living; asked = h.asked; same = h.same }) holds

    ping-so : (ping : Option ℕ) (filling : Filling S) → HoldsIn filling → HoldsIn (says_ping ping filling)
    ping-so None filling holds = holds
    ping-so (Some id) filling holds =
        says-so false (Ping id) (λ client. record client { waiting = record client.waiting { ping = None } }) filling tt
        (λ all client h. record { once = h.once; within = h.within; living = h.living; asked = h.asked; same = h.same }) holds

    salts-so : (salts : Option ℕ) (filling : Filling S) → HoldsIn filling → HoldsIn (says_salts salts filling)
    salts-so None filling holds = holds
    salts-so (Some count) filling holds =
        says-so true (GetFutureSalts count) (λ client. record client { waiting = record client.waiting { salts = None } }) filling tt
        (λ all client h. record { once = h.once; within = h.within; living = h.living; asked = h.asked; same = h.same }) holds

    destroyed-so : (destroyed : Option ℕ) (filling : Filling S) → HoldsIn filling → HoldsIn (says_destroyed destroyed filling)
    destroyed-so None filling holds = holds
    destroyed-so (Some former) filling holds =
        cond_both (is_open filling.client) _ filling HoldsIn
        (λ is.
        says-so true (DestroySession former) (λ client. record client { waiting = record client.waiting { destroyed = None } }) filling tt
        (λ all client h. record { once = h.once; within = h.within; living = h.living; asked = h.asked; same = h.same }) holds)
        (λ is. holds)

    binding-so : (setting : Setting S) (temporary : Option Temporary) (filling : Filling S) → HoldsIn filling → HoldsIn (says_binding setting temporary filling)
    binding-so setting None filling holds = holds
    binding-so setting (Some temporary) filling holds =
        let unsaid : Message = numbered true [] filling.client in
        let body = binding_body setting filling.client temporary unsaid.number filling.draw in
        let message : Message = record unsaid { body = body } in
        let all : List Message = given ++ (filling.messages ++ message ∷ []) in
        let inner = inner_of setting filling.client temporary filling.draw in
        let random = next_bytes setting.step 16 (draw_after setting.step 1 filling.draw) in
        let padding = next_bytes setting.step 8 (draw_after setting.step 3 filling.draw) in
        let plain : IsPlain body = item-plain (AuthBindTempAuthKey inner.perm inner.nonce inner.expires (setting.binding_message inner.perm random unsaid.number inner padding)) tt in
        cond_both (is_needed temporary.binding && is_open filling.client) _ filling HoldsIn
        (λ is.
        let said = said-so true body filling.client filling.messages plain holds in
        goes-so message (asks_binding setting message) filling holds (
          record {
            once = said.0.once;
            within = said.0.within;
            living = said.0.living;
            asked =
                asked-so all message filling.client.temporary plain
                (Contains-append_right given (filling.messages ++ message ∷ []) message (Contains-push filling.messages message));
            same = said.0.same;
          },
          said.1,
        ))
        (λ is. holds)

    drop_of-so : (k : CallNo) (number : Option ℕ) (filling : Filling S) → HoldsIn filling → HoldsIn (says_drop_of k number filling)
    drop_of-so k None filling holds = holds
    drop_of-so k (Some number) filling holds =
        says-so true (RpcDropAnswer number) (with_call k undropped) filling tt
        (λ all client h. changed-given session all (k.n - 1) undropped client (λ one there lives. lives) h) holds

    drops-so : (drops : List CallNo) (filling : Filling S) → HoldsIn filling → HoldsIn (fold says_drop filling drops)
    drops-so [] filling holds = holds
    drops-so (k ∷ drops) filling holds = drops-so drops (says_drop filling k) (drop_of-so k (number_of (at k (calls_of filling.client))) filling holds)

    -- ---- a call's turn

    turn-so : (k : CallNo) (call : Call) (turn : Turn) (filling : Filling S) → at k (calls_of filling.client) ≡ Some call → HoldsIn filling
        → HoldsIn (takes_turn k call.body turn filling)
    turn-so k call Waits filling found holds = holds
    turn-so k call Never filling found holds = (
      changed-given session (given ++ filling.messages) (k.n - 1) (settled (fate.Refused 0)) filling.client
          (λ one there lives. settled-lives (given ++ filling.messages) (fate.Refused 0) one lives.0) holds.0,
      holds.1,
    )
    turn-so k call (Goes wrap) filling found holds =
        let message : Message = numbered true (body_behind wrap call.body) filling.client in
        let all : List Message = given ++ (filling.messages ++ message ∷ []) in
        let living : Living = record { number = message.number; seq = message.seq; wrap = wrap } in
        let present = filling.client.session in
        let salt = filling.client.salt in
        let plain = (all-at (LivesAmong (given ++ filling.messages)) (calls_of filling.client) (k.n - 1) call found holds.0.living).0 in
        let said = said-so true (body_behind wrap call.body) filling.client filling.messages (behind-plain wrap call.body plain) holds in
        let among : Contains all message =
        Contains-append_right given (filling.messages ++ message ∷ []) message (Contains-push filling.messages message) in
        goes-so message (sends_call k wrap message) filling holds (
          changed-given session all (k.n - 1) (sent present living salt) (after_message true filling.client)
              (λ one there lives.
              let same : one ≡ call = some-same one call (sym there ∙ found) in
              sent-lives all present salt living one lives.0
              (subst (λ (call : Call). Contains all (record { number = message.number; seq = message.seq; body = body_behind wrap call.body })) (sym same) among))
              said.0,
          said.1,
        )

    call-so : (k : CallNo) (found : Option Call) (filling : Filling S) → at k (calls_of filling.client) ≡ found → HoldsIn filling → HoldsIn (says_call_at k found filling)
    call-so k None filling found holds = holds
    call-so k (Some call) filling found holds = turn-so k call (turn_of filling.client call) filling found holds

    calls-so : (ks : List CallNo) (filling : Filling S) → HoldsIn filling → HoldsIn (fold says_call filling ks)
    calls-so [] filling holds = holds
    calls-so (k ∷ ks) filling holds =
        calls-so ks (says_call filling k)
        (cond_both filling.is_full filling (says_call_at k (at k (calls_of filling.client)) filling) HoldsIn (λ is. holds)
        (λ is. call-so k (at k (calls_of filling.client)) filling refl holds))

    fills-so : (setting : Setting S) (client : Client) (draw : S) → Has session given client → HoldsIn (fills setting client draw)
    fills-so setting client draw h =
        let waiting = client.waiting in
        let start : Holds client [] = (subst (λ (all : List Message). Has session all client) (sym (append-nil given)) h, tt) in
        let a = says_acks client.table.acks (empty client draw) in
        let b = says_told waiting.told a in
        let c = says_resent waiting.resent b in
        let d = says_states waiting.states c in
        let e = says_ping waiting.ping d in
        let f = says_salts waiting.salts e in
        let g = says_destroyed waiting.destroyed f in
        let bound = says_binding setting client.temporary g in
        calls-so (group_of group.Queued (calls_of client)) (fold says_drop bound (group_of group.Dropping (calls_of client)))
        (drops-so (group_of group.Dropping (calls_of client)) bound
        (binding-so setting client.temporary g
        (destroyed-so waiting.destroyed f
        (salts-so waiting.salts e
        (ping-so waiting.ping d
        (states-so waiting.states c
        (resent-so waiting.resent b
        (told-so waiting.told a
        (acks-so client.table.acks (empty client draw) start)))))))))

  -- ---- what goes alone

  -- a message that may go again
  abbrev IsGoing : Message → Type 0
  IsGoing message = IsPlain message.body × Contains given message

  -- it goes again, and nothing else
  alone-so : (message : Message) (client : Client) → IsGoing message → Has session given client → Holds client (message ∷ [])
  alone-so message client going h = (again-given session given message client going.1 h, (going.0, tt))

  marked-behind : (k : CallNo) (body : List ℕ) (living : Option Name) (marked : Marked)
      → option_map (λ (message : Message). record { call = k; message = message }) (message_behind body living) ≡ Some marked
      → message_behind body living ≡ Some marked.message
  marked-behind k body None marked is = absurd (none-some marked is)
  marked-behind k body (Some name) marked is =
      let message : Message = record { number = name.message.number; seq = name.message.seq; body = body_behind name.message.wrap body } in
      let one : Marked = record { call = k; message = message } in
      ap (λ (marked : Marked). Some marked.message) (some-same one marked is)

  living-plain : (body : List ℕ) (living : Option Name) (message : Message) → IsPlain body → message_behind body living ≡ Some message → IsPlain message.body
  living-plain body None message plain is = absurd (none-some message is)
  living-plain body (Some name) message plain is =
      let one : Message = record { number = name.message.number; seq = name.message.seq; body = body_behind name.message.wrap body } in
      subst (λ (message : Message). IsPlain message.body) (some-same one message is) (behind-plain name.message.wrap body plain)

  marked-among : (client : Client) (k : CallNo) (found : Option Call) (marked : Marked) → at k (calls_of client) ≡ found → marked_at k found ≡ Some marked
      → Has session given client → IsGoing marked.message
  marked-among client k None marked found is h = absurd (none-some marked is)
  marked-among client k (Some call) marked found is h =
      let lives = all-at (LivesAmong given) (calls_of client) (k.n - 1) call found h.living in
      let living = marked-behind k call.body (living_name call) marked is in
      (living-plain call.body (living_name call) marked.message lives.0 living, lives.1 marked.message living)

  first-among : (client : Client) (ks : List CallNo) (marked : Marked) → first_marked (calls_of client) ks ≡ Some marked → Has session given client
      → IsGoing marked.message
  first-among client [] marked is h = absurd (none-some marked is)
  first-among client (k ∷ ks) marked is h = marked-among client k (at k (calls_of client)) marked refl is h

  asked-body : (is_alone : Bool) (binding : Binding) (message : Message) → asked_alone is_alone binding ≡ Some message → IsAskedAmong given binding → IsGoing message
  asked-body false binding message is asked = absurd (none-some message is)
  asked-body true Needed message is asked = absurd (none-some message is)
  asked-body true (Asked one) message is asked = subst IsGoing (some-same one message is) asked
  asked-body true Held message is asked = absurd (none-some message is)
  asked-body true Bound message is asked = absurd (none-some message is)
  asked-body true (Refused code) message is asked = absurd (none-some message is)

  asked-among : (temporary : Option Temporary) (message : Message) → binding_alone temporary ≡ Some message
      → IfSome temporary (λ temporary. IsAskedAmong given temporary.binding) → IsGoing message
  asked-among None message is asked = absurd (none-some message is)
  asked-among (Some temporary) message is asked = asked-body temporary.is_alone temporary.binding message is asked

  remembers-given : (all : List Message) (outer : ℕ) (inner : List ℕ) (client : Client) → Has session all client → Has session all (remembers outer inner client)
  remembers-given all outer inner client h = record { once = h.once; within = h.within; living = h.living; asked = h.asked; same = h.same }

  lone-given : (all : List Message) (number : ℕ) (inner : List ℕ) (client : Client) → Has session all client → Has session all (remembers_lone number inner client)
  lone-given all number inner client h =
      cond_both (is_some (owner number (calls_of client))) client (remembers number inner client) (Has session all) (λ is. h) (λ is. remembers-given all number inner client h)

  nothing-so : (client : Client) → Has session given client → Has session (given ++ []) client
  nothing-so client h = subst (λ (all : List Message). Has session all client) (sym (append-nil given)) h

  none-any : (messages : List Message) → has_any messages ≡ false → messages ≡ []
  none-any [] is = refl
  none-any (message ∷ messages) is = absurd (true-false is)

  module _ {S : Type 0} where
    unless_call-so : (setting : Setting S) (marked : Option Marked) (client : Client) (draw : S)
        → first_marked (calls_of client) (group_of group.Alone (calls_of client)) ≡ marked → Has session given client
        → HoldsIn (unless_call setting marked client draw)
    unless_call-so setting (Some marked) client draw is h =
        alone-so marked.message (with_call marked.call (gone_again client.salt) client) (first-among client (group_of group.Alone (calls_of client)) marked is h)
        (changed-given session given (marked.call.n - 1) (gone_again client.salt) client
        (λ one there lives. again-lives given client.salt (record one.flags { alone = false }) one lives) h)
    unless_call-so setting None client draw is h = fills-so setting client draw h

    unless_binding-so : (setting : Setting S) (message : Option Message) (client : Client) (draw : S) → binding_alone client.temporary ≡ message → Has session given client
        → HoldsIn (unless_binding setting message client draw)
    unless_binding-so setting (Some message) client draw is h =
        let among = asked-among client.temporary message is h.asked in
        alone-so message (with_binding (Asked message) client) among
        (record { once = h.once; within = h.within; living = h.living; asked = asked-so given message client.temporary among.0 among.1; same = h.same })
    unless_binding-so setting None client draw is h =
        unless_call-so setting (first_marked (calls_of client) (group_of group.Alone (calls_of client))) client draw refl h

    -- ---- the packet

    -- what is given then, and the packet is made of these messages
    abbrev IsFlushed : List Message → Flushed S → Type 0
    IsFlushed messages done = Has session (given ++ given_by messages done.answer) done.client × IsAnswerOf session.present messages done.answer

    sends-so : (setting : Setting S) (messages : List Message) (filling : Filling S) → Holds filling.client messages → IsFlushed messages (sends setting messages filling)
    sends-so setting [] filling holds = (holds.0, tt)
    sends-so setting (message ∷ []) filling holds =
        let client = remembers_lone message.number filling.inner filling.client in
        let h = lone-given (given ++ message ∷ []) message.number filling.inner filling.client holds.0 in (
          subst (λ (all : List Message). Has session all client) (append_assoc given (message ∷ []) (message ∷ []))
              (again-given session (given ++ message ∷ []) message client (Contains-push given message) h),
          (ap (λ (line : Line). line.present) h.same, record { plain = holds.1; packet = inl refl }),
        )
    sends-so setting (message ∷ (other ∷ messages)) filling holds =
        let client = filling.client in
        let all : List Message = message ∷ (other ∷ messages) in
        let outer : Message = numbered false (container_of all) client in
        let new = above client.counters.last (time_of client) in
        let h : Has session (given ++ (all ++ outer ∷ [])) (after_message false client) =
        subst (λ (given : List Message). Has session given (after_message false client)) (append_assoc given all (outer ∷ []))
        (more-given session (given ++ all) false (container_of all) client holds.0) in (
          remembers-given (given ++ (all ++ outer ∷ [])) outer.number filling.inner (after_message false client) h,
          (
            ap (λ (line : Line). line.present) h.same,
            record {
              plain = holds.1;
              packet =
                  inr
                  (record {
                    body = refl;
                    below =
                        all-members (λ (one : Message). one.number < outer.number) all
                        (λ one among. let within = holds.0.within one (Contains-append_right given all one among) in omega (arith, within, new));
                  });
            },
          ),
        )

    pub flush-so : (setting : Setting S) (now : ℕ) (client : Client) (draw : S) → Has session given client
        → IsFlushed (filled setting (at_moment now client) draw).messages (flush setting now client draw)
    flush-so setting now client draw h =
        let at = at_moment now client in
        let filling = filled setting at draw in
        let holds : HoldsIn filling = unless_binding-so setting (binding_alone at.temporary) at draw refl (moment-given session given now client h) in
        cond_both (has_any filling.messages) _ _ (IsFlushed filling.messages)
        (λ is.
        cond_both (nat_lt (room client.counters) room_min) _ _ (IsFlushed filling.messages) (λ is. (nothing-so client h, tt))
        (λ is. sends-so setting filling.messages filling holds))
        (λ is. (subst (λ (messages : List Message). Has session (given ++ messages) filling.client) (none-any filling.messages is) holds.0, tt))
