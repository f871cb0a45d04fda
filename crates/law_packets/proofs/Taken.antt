-- What a packet from the server changes leaves a client steady.
use Rattle.std.proofs.Common.{◌≡◌, ℕ, ◌<◌, ◌^◌, ltb, leb, ◌&&◌, ◌||◌, Bool, true, false, not, cond, Option, Some, None, Result, Ok, Err, List, [], ◌∷◌, ◌++◌, fold, length, subst, refl, arith}
use Rattle.std.specs.Prelude.{option_map, ⊤, ◌==◌}
use Rattle.std.specs.List.{AllByRecursion, list_any, zip}
use Rattle.std.proofs.lemmas.Bool.{cond_both}
use Rattle.octets.specs.Bytes.{IsBytes}
use Rattle.service_tl.specs.declared.item.Item.{Item}
use Rattle.service_tl.specs.declared.item.Item.TheVariants.{BadMsgNotification, BadServerSalt, MsgDetailedInfo, MsgNewDetailedInfo, MsgResendReq, MsgsAllInfo, MsgsStateInfo, MsgsStateReq, NewSessionCreated, RpcResult}
use Rattle.service_tl.specs.declared.lists.Message.{Message}
use Rattle.service_tl.specs.ItemOf.{item_of}
use Rattle.service_tl.specs.Items.{IsOfSchema, ItemFits}
use Rattle.containers.specs.declared.fault.ContainerFault.{ContainerFault}
use Rattle.containers.specs.Container.{IsContainer, begins_container, container_of}
use Rattle.containers.specs.Parts.{parts_of}
use Rattle.envelope.specs.declared.parts.Envelope.{Envelope}
use Rattle.call_table.specs.declared.call.CallNo.{CallNo}
use Rattle.call_table.specs.declared.call.Fate.{Fate}
use Rattle.call_table.specs.declared.call.Fate.TheVariants as fate
use Rattle.call_table.specs.Table.{Call, inner_of, living_name, owner, settled}
use Rattle.client_rules.specs.Client.{Bound, Client, Held, Needed, Refused, StateRequest, Temporary, at_moment, calls_of, is_open}
use Rattle.client_rules.specs.Asking.{alone, begins}
use Rattle.client_rules.specs.Learning.{each_becomes, ended, fate_at_end, fate_learning, learn, learns, with_clock}
use Rattle.client_rules.specs.Taking.{Notice, acknowledges, alone_among, alone_call, alone_number, answered_by, asked_states, asks_answer, becomes, behind, binding_answered, binding_error, binding_noticed, fate_noticed, goes_again, has_asked, is_for, message_in, messages_of, noticed, noticed_by, packet_noticed, row, take, takes_message, takes_over, told_of, told_state, told_states, with_notice_clock, with_notice_salt, without_idle_wish}
use Rattle.msg_ids.specs.Counters.{is_odd}
use Rattle.law_packets.specs.Steady.{IsAsking, IsSteady, IsTemporary}
use Rattle.law_packets.proofs.Calls.{each-becomes, flagged-keeps, settled-keeps, with-binding, with-call}
use Rattle.law_packets.proofs.Spelled.{copies-bytes}

-- ---- what is read

-- the law on items that are read of bytes, and that on the parts of a container
abbrev pub AreRead : Type 0
AreRead = (body : List ℕ) → IsBytes body → IsOfSchema (item_of body) → ItemFits (item_of body)

abbrev IsSaidInBytes : Message → Type 0
IsSaidInBytes message = IsBytes message.body

pub record AreLawful : Type 0 where
  pub parts : (number : ℕ) (messages : List Message) (body : List ℕ) → IsBytes body → begins_container body ≡ true → parts_of number body ≡ Ok messages → IsContainer number messages body
  pub inner : (messages : List Message) → IsBytes (container_of messages) → AllByRecursion IsSaidInBytes messages

-- a salt that an item tells has 64 bits
abbrev IsHeard : Item → Type 0
IsHeard (NewSessionCreated first unique salt) = salt < 2 ^ 64
IsHeard (BadServerSalt about seq code salt) = salt < 2 ^ 64
IsHeard _ = ⊤

fits-heard : (item : Item) → (IsOfSchema item → ItemFits item) → IsHeard item
fits-heard (NewSessionCreated first unique salt) fits = (fits tt).1.1.0
fits-heard (BadServerSalt about seq code salt) fits = (fits tt).1.1.1.0
fits-heard _ fits = tt

behind-bodies : AreLawful → (number : ℕ) (message : Message) (parts : Result (List Message) ContainerFault) → IsBytes message.body
    → ((messages : List Message) → parts ≡ Ok messages → IsContainer number messages message.body) → AllByRecursion IsSaidInBytes (behind message parts)
behind-bodies laws number message (Ok messages) bytes lawful = (bytes, laws.inner messages (subst IsBytes (lawful messages refl).spelt bytes))
behind-bodies laws number message (Err fault) bytes lawful = tt

all-bodies : AreLawful → (message : Message) → IsBytes message.body → AllByRecursion IsSaidInBytes (messages_of message)
all-bodies lawful message bytes =
    cond_both (begins_container message.body) (behind message (parts_of message.number message.body)) (message ∷ []) (λ (messages : List Message). AllByRecursion IsSaidInBytes messages)
    (λ begins. behind-bodies lawful message.number message (parts_of message.number message.body) bytes (λ messages is. lawful.parts message.number messages message.body bytes begins is))
    (λ other. (bytes, tt))

module _ (known : ℕ → Bool) where
  abbrev Is : Client → Type 0
  Is client = IsSteady known client

  -- ---- what is learnt

  pub ended-steady : (client : Client) → Is client → Is (ended client)
  ended-steady client s =
      let after = each-becomes known (λ call. fate_at_end call.state) client s in
      record { is_known = after.is_known; key = after.key; session = after.session; salt = after.salt; temporary = after.temporary; told = after.told; calls = after.calls }

  clocked : (outer : ℕ) (client : Client) → Is client → Is (with_clock outer client)
  clocked outer client s = record { is_known = s.is_known; key = s.key; session = s.session; salt = s.salt; temporary = s.temporary; told = s.told; calls = s.calls }

  learns-steady : (unique salt : ℕ) (client : Client) → salt < 2 ^ 64 → Is client → Is (learns unique salt client)
  learns-steady unique salt client fits s =
      let fate : Call → Option Fate = λ call. fate_learning (not (is_open client)) salt (living_name call) in
      let after = with-binding known Needed (each_becomes fate client) tt (each-becomes known fate client s) in
      record { is_known = after.is_known; key = after.key; session = after.session; salt = fits; temporary = after.temporary; told = after.told; calls = after.calls }

  learn-steady : (outer unique salt : ℕ) (client : Client) → salt < 2 ^ 64 → Is client → Is (learn outer unique salt client)
  learn-steady outer unique salt client fits s =
      let new = with_clock outer (learns unique salt client) in
      let tried = cond (leb 1024 (length client.learnt)) (ended client) new in
      let second : Is tried =
      cond_both (leb 1024 (length client.learnt)) (ended client) new Is (λ is. ended-steady client s) (λ is. clocked outer (learns unique salt client) (learns-steady unique salt client fits s)) in
      cond_both (list_any (λ learnt. learnt == unique) client.learnt) client tried Is (λ is. s) (λ is. second)

  -- ---- results and notices

  becomes-steady : (call : CallNo) (fate : Fate) (client : Client) → Is client → Is (becomes call fate client)
  becomes-steady call fate client s = with-call known call (settled fate) client (settled-keeps fate) s

  answered-asking : (result : List ℕ) → IsAsking (binding_answered result)
  answered-asking result = cond_both (begins _ result && (length result == 4)) Bound (Refused (binding_error (item_of result))) IsAsking (λ is. tt) (λ is. tt)

  answered-steady : (call : Option CallNo) (is : Bool) (result : List ℕ) (client : Client) → Is client → Is (answered_by call is result client)
  answered-steady (Some call) is result client s = becomes-steady call (fate.Done result) client s
  answered-steady None true result client s = with-binding known (binding_answered result) client (answered-asking result) s
  answered-steady None false result client s = s

  abbrev IsSalt : Option ℕ → Type 0
  IsSalt None = ⊤
  IsSalt (Some salt) = salt < 2 ^ 64

  over-steady : (outer : ℕ) (notice : Notice) (client : Client) → IsSalt notice.salt → Is client → Is (takes_over outer notice client)
  over-steady outer notice client fits s = salted notice.salt (with_notice_clock outer notice.code client) fits timed
    where
      timed : Is (with_notice_clock outer notice.code client)
      timed =
          cond_both ((notice.code == 16) || (notice.code == 17)) (with_clock outer client) client Is (λ is. clocked outer client s) (λ is. s)

      salted : (salt : Option ℕ) (client : Client) → IsSalt salt → Is client → Is (with_notice_salt salt client)
      salted None client fits s = s
      salted (Some salt) client fits s = record { is_known = s.is_known; key = s.key; session = s.session; salt = fits; temporary = s.temporary; told = s.told; calls = s.calls }

  noticed-asking : (code : ℕ) → IsAsking (binding_noticed code)
  noticed-asking code =
      let last : IsAsking (cond (code == 17) Held (Refused code)) = cond_both (code == 17) Held (Refused code) IsAsking (λ is. tt) (λ is. tt) in
      cond_both (((code == 16) || (code == 48)) || (code == 20)) Needed (cond (code == 17) Held (Refused code)) IsAsking (λ is. tt) (λ is. last)

  alone-call : (call : Option CallNo) (client : Client) → Is client → Is (alone_call call client)
  alone-call None client s = s
  alone-call (Some call) client s = with-call known call alone client (flagged-keeps (λ (call : Call). record call.flags { alone = true })) s

  alone-all : (numbers : List ℕ) (client : Client) → Is client → Is (fold alone_number client numbers)
  alone-all [] client s = s
  alone-all (number ∷ numbers) client s = alone-all numbers (alone_number client number) (alone-call (owner number (calls_of client)) client s)

  among-asking : (numbers : List ℕ) (temporary : Option Temporary) → IsTemporary temporary → IsTemporary (option_map (alone_among numbers) temporary)
  among-asking numbers None is = tt
  among-asking numbers (Some temporary) is =
      cond_both (list_any (λ number. _) numbers) (record temporary { is_alone = true }) temporary (λ (after : Temporary). IsAsking after.binding) (λ so. is) (λ so. is)

  packet-steady : (numbers : List ℕ) (client : Client) → Is client → Is (packet_noticed numbers client)
  packet-steady numbers client s =
      alone-all numbers (record client { temporary = option_map (alone_among numbers) client.temporary })
      (record { is_known = s.is_known; key = s.key; session = s.session; salt = s.salt; temporary = among-asking numbers client.temporary s.temporary; told = s.told; calls = s.calls })

  noticed-by : (call : Option CallNo) (is : Bool) (packet : Option (List ℕ)) (outer : ℕ) (notice : Notice) (client : Client) → IsSalt notice.salt → Is client
      → Is (noticed_by call is packet outer notice client)
  noticed-by (Some call) is packet outer notice client fits s = becomes-steady call (fate_noticed notice.code) (takes_over outer notice client) (over-steady outer notice client fits s)
  noticed-by None true packet outer notice client fits s =
      with-binding known (binding_noticed notice.code) (takes_over outer notice client) (noticed-asking notice.code) (over-steady outer notice client fits s)
  noticed-by None false (Some numbers) outer notice client fits s = packet-steady numbers (takes_over outer notice client) (over-steady outer notice client fits s)
  noticed-by None false None outer notice client fits s = s

  noticed-steady : (outer : ℕ) (notice : Notice) (client : Client) → IsSalt notice.salt → Is client → Is (noticed outer notice client)
  noticed-steady outer notice client fits s =
      noticed-by (owner notice.about (calls_of client)) (has_asked notice.about client.temporary) (inner_of notice.about client.table.packets) outer notice client fits s

  -- ---- states

  state-steady : (client : Client) (both : ℕ × ℕ) → Is client → Is (told_state client both)
  state-steady client (number, byte) s =
      cond_both (goes_again byte) (alone_number client number) client Is (λ is. alone-call (owner number (calls_of client)) client s) (λ is. s)

  all-told : (all : List (ℕ × ℕ)) (client : Client) → Is client → Is (fold told_state client all)
  all-told [] client s = s
  all-told (both ∷ all) client s = all-told all (told_state client both) (state-steady client both s)

  states-steady : (numbers info : List ℕ) (client : Client) → Is client → Is (told_states numbers info client)
  states-steady numbers info client s =
      cond_both (length info == length numbers) (fold told_state client (zip numbers info)) client Is (λ is. all-told (zip numbers info) client s) (λ is. s)

  told-of : (asked : Option StateRequest) (request : ℕ) (info : List ℕ) (client : Client) → Is client → Is (told_of asked request info client)
  told-of None request info client s = s
  told-of (Some asked) request info client s =
      cond_both (asked.number == request) (told_states asked.numbers info client) client Is (λ is. states-steady asked.numbers info client s) (λ is. s)

  -- ---- what the server asks for

  asked-steady : (request : ℕ) (numbers : List ℕ) (client : Client) → Is client → Is (asked_states request numbers client)
  asked-steady request numbers client s =
      record { is_known = s.is_known; key = s.key; session = s.session; salt = s.salt; temporary = s.temporary; told = copies-bytes (length numbers) 1 (omega arith); calls = s.calls }

  answer-steady : (number : ℕ) (client : Client) → Is client → Is (asks_answer number client)
  answer-steady number client s =
      cond_both (ltb (length client.waiting.resent) 8192) (record client { waiting = record client.waiting { resent = client.waiting.resent ++ number ∷ [] } }) client Is
      (λ is. record { is_known = s.is_known; key = s.key; session = s.session; salt = s.salt; temporary = s.temporary; told = s.told; calls = s.calls }) (λ is. s)

  -- ---- the rows

  row-steady : (outer number : ℕ) (item : Item) (client : Client) → IsHeard item → Is client → Is (row outer number item client)
  row-steady outer number (NewSessionCreated first unique salt) client heard s = learn-steady outer unique salt client heard s
  row-steady outer number (RpcResult about result) client heard s = answered-steady (owner about (calls_of client)) (has_asked about client.temporary) result client s
  row-steady outer number (BadMsgNotification about seq code) client heard s = noticed-steady outer (record { about = about; code = code; salt = None }) client tt s
  row-steady outer number (BadServerSalt about seq code salt) client heard s = noticed-steady outer (record { about = about; code = 48; salt = Some salt }) client heard s
  row-steady outer number (MsgsStateInfo request info) client heard s = told-of client.asked request info client s
  row-steady outer number (MsgsAllInfo numbers info) client heard s = states-steady numbers info client s
  row-steady outer number (MsgResendReq numbers) client heard s = alone-all numbers client s
  row-steady outer number (MsgsStateReq numbers) client heard s = asked-steady number numbers client s
  row-steady outer number (MsgDetailedInfo about answer bytes status) client heard s = answer-steady answer client s
  row-steady outer number (MsgNewDetailedInfo answer bytes status) client heard s = answer-steady answer client s
  row-steady outer number _ client heard s = s

  acknowledges-steady : (message : Message) (client : Client) → Is client → Is (acknowledges message client)
  acknowledges-steady message client s =
      cond_both (is_odd message.seq) _ client Is
      (λ is. record { is_known = s.is_known; key = s.key; session = s.session; salt = s.salt; temporary = s.temporary; told = s.told; calls = s.calls }) (λ is. s)

  module _ (read : AreRead) (lawful : AreLawful) where
    message-steady : (outer : ℕ) (client : Client) (message : Message) → IsBytes message.body → Is client → Is (takes_message outer client message)
    message-steady outer client message bytes s =
        cond_both client.has_ended client (row outer message.number (item_of message.body) (acknowledges message client)) Is (λ is. s)
        (λ is.
        row-steady outer message.number (item_of message.body) (acknowledges message client) (fits-heard (item_of message.body) (read message.body bytes)) (acknowledges-steady message client s))

    all-taken : (outer : ℕ) (messages : List Message) (client : Client) → AllByRecursion IsSaidInBytes messages → Is client → Is (fold (takes_message outer) client messages)
    all-taken outer [] client all s = s
    all-taken outer (message ∷ messages) client all s = all-taken outer messages (takes_message outer client message) all.1 (message-steady outer client message all.0 s)

    pub take-steady : (now : ℕ) (envelope : Envelope) (client : Client) → IsBytes envelope.body → Is client → Is (take now envelope client)
    take-steady now envelope client bytes s =
        let ready = at_moment now client in
        let is_ready : Is ready = record { is_known = s.is_known; key = s.key; session = s.session; salt = s.salt; temporary = s.temporary; told = s.told; calls = s.calls } in
        let done = fold (takes_message envelope.number) ready (messages_of (message_in envelope)) in
        cond_both (is_for client envelope) (without_idle_wish done) ready Is
        (λ is.
        let after = all-taken envelope.number (messages_of (message_in envelope)) ready (all-bodies lawful (message_in envelope) bytes) is_ready in
        record { is_known = after.is_known; key = after.key; session = after.session; salt = after.salt; temporary = after.temporary; told = after.told; calls = after.calls })
        (λ is. is_ready)
