-- A packet that a client hears.
use Rattle.std.proofs.Common.{◌≡◌, ℕ, ◌==◌, ◌&&◌, ◌||◌, not, Bool, true, false, List, [], ◌∷◌, ◌++◌, length, length-append, reverse, fold, Option, None, Some, if◌then◌else◌, inl, inr, refl, sym, ap, subst, ◌∙◌, arith, eq-eqb}
use Rattle.std.specs.Prelude.{◌⊎◌, slice_get, option_map, IfSome, nat_lt, nat_le}
use Rattle.std.specs.List.{list_any, zip}
use Rattle.std.proofs.lemmas.Bool.{cases_Bool, ltb-true}
use Rattle.std.proofs.lemmas.Bool.Decides.{nat_tests}
use Rattle.std.proofs.lemmas.List.{length-reverse}
use Rattle.tl_codec.specs.Standard.{bool_true}
use Rattle.service_tl.specs.declared.item.Item.{Item}
use Rattle.service_tl.specs.declared.item.Item.TheVariants.{AuthBindTempAuthKey, BadMsgNotification, BadServerSalt, Broken, DestroySession, DestroySessionNone, DestroySessionOk, FutureSalts, GetFutureSalts, InvokeAfterMsg, InvokeAfterMsgs, MsgContainer, MsgDetailedInfo, MsgNewDetailedInfo, MsgResendReq, MsgsAck, MsgsAllInfo, MsgsStateInfo, MsgsStateReq, NewSessionCreated, Packed, Ping, PingDelayDisconnect, Pong, RpcAnswerDropped, RpcAnswerDroppedRunning, RpcAnswerUnknown, RpcDropAnswer, RpcError, RpcResult}
use Rattle.service_tl.specs.declared.item.Item.TheVariants as item
use Rattle.service_tl.specs.ItemOf.{item_of}
use Rattle.law_moves.specs.Table as moves
use Rattle.law_moves.specs.World.{World}
use Rattle.law_moves.specs.Move.Move.{Own}
use Rattle.law_moves.specs.Move.OwnAct.{End}
use Rattle.law_moves.specs.After.{LEARNT_MAX, after, after_item, after_learnt, after_salt, after_settled, end_client, learn as learn_there, state_noticed}
use Rattle.call_table.specs.declared.call.CallNo.{CallNo}
use Rattle.call_table.specs.declared.call.Fate.{Fate}
use Rattle.call_table.specs.declared.call.Fate.TheVariants as fate
use Rattle.call_table.specs.Table.{Call, call_no, first_from, is_number_of, living_name, owner, inner_of, state_after, changed, settled}
use Rattle.client_rules.specs.Client.{Client, Binding, Needed, Held, Bound, Refused, StateRequest, Temporary, bound_so, calls_of, with_binding}
use Rattle.client_rules.specs.Asking.{alone, begins}
use Rattle.client_rules.specs.Learning.{ended, learn, learnt_max, learns, with_clock}
use Rattle.client_rules.specs.Taking.{alone_among, alone_call, alone_number, answered_by, asked_states, asks_answer, becomes, binding_answered, binding_error, binding_noticed, fate_noticed, goes_again, has_asked, is_asked_by, noticed_by, packet_noticed, row, told_of, told_state, told_states, with_notice_clock}
use Rattle.client_rules.specs.Filling.{numbers_max}
use Rattle.law_client.specs.Clients.{StandsAs, IsAskedThere, state_there}
use Rattle.law_client.specs.Packets.{item_there}
use Rattle.law_client.proofs.Basics.{Alike, all_given_alike}
use Rattle.law_client.proofs.Own.{ends}
use Rattle.law_client.proofs.Quiet.{OnlyFlags, binding_alike, same_there}
use Rattle.law_client.proofs.Flushing.{SameParts, calm}
use Rattle.law_client.proofs.Filling.{flags_stand}
use Rattle.law_client.proofs.Settling.{OneName, becomes_if, settled_by}
use Rattle.law_client.proofs.Learning.{any_reverse, teaches}

-- ---- what the law doesn't see

stands_if : (v : World) (number : ℕ) (is : Bool) (one other : Client) → StandsAs v number one → StandsAs v number other → StandsAs v number (if is then one else other)
stands_if v number true one other at_one at_other = at_one
stands_if v number false one other at_one at_other = at_other

asked_bound : (ups : List moves.Message) (client other : Client) → other.session ≡ client.session → (binding : Binding) → IsAskedThere ups client binding
    → (temporary : Option Temporary) → IfSome (option_map (bound_so binding) temporary) (λ (t : Temporary). IsAskedThere ups other t.binding)
asked_bound ups client other session binding h None = tt
asked_bound ups client other session binding h (Some temporary) = binding_alike client other session ups binding h

asked_still : (ups : List moves.Message) (client other : Client) → other.session ≡ client.session → (temporary : Option Temporary)
    → IfSome temporary (λ (t : Temporary). IsAskedThere ups client t.binding) → IfSome temporary (λ (t : Temporary). IsAskedThere ups other t.binding)
asked_still ups client other session None h = tt
asked_still ups client other session (Some temporary) h = binding_alike client other session ups temporary.binding h

clock_by : (is : Bool) (outer : ℕ) (client : Client) → SameParts client (if is then with_clock outer client else client)
clock_by true outer client = record { session = refl; former = refl; salt = refl; learnt = refl; ended = refl; counters = refl; calls = refl; temporary = refl; short = λ h. record { acks = h.acks; resent = h.resent } }
clock_by false outer client = record { session = refl; former = refl; salt = refl; learnt = refl; ended = refl; counters = refl; calls = refl; temporary = refl; short = λ h. record { acks = h.acks; resent = h.resent } }

-- another binding, which wasn't asked for
unasked : (v : World) (number : ℕ) (client : Client) (binding : Binding) → IsAskedThere v.ups client binding → StandsAs v number client
    → StandsAs v number (with_binding binding client)
unasked v number client binding not_asked s =
    let other : Client = with_binding binding client in
    let alike : Alike client other = record { session = refl; last = omega arith } in
    record {
      made = s.made;
      parts = s.parts;
      submitted = s.submitted;
      calls = λ place. same_there client other alike v.ups (slice_get (calls_of client) place) (v.calls (moves.call_at number place)) (s.calls place);
      given = all_given_alike client other alike v.ups s.given;
      short = record { acks = s.short.acks; resent = s.short.resent };
      asked = asked_bound v.ups client other refl binding not_asked client.temporary;
    }

clock_same : (outer code : ℕ) (client : Client) → SameParts client (with_notice_clock outer code client)
clock_same outer code client = clock_by (code == 16 || code == 17) outer client

alone_only : OnlyFlags alone
alone_only call = (record call.flags { alone = true }, refl)

alone_stands : (v : World) (number : ℕ) (found : Option CallNo) (client : Client) → StandsAs v number client → StandsAs v number (alone_call found client)
alone_stands v number None client s = s
alone_stands v number (Some k) client s = flags_stand v number client k alone alone_only s

all_alone : (v : World) (number : ℕ) (numbers : List ℕ) (client : Client) → StandsAs v number client → StandsAs v number (fold alone_number client numbers)
all_alone v number [] client s = s
all_alone v number (n ∷ numbers) client s = all_alone v number numbers (alone_number client n) (alone_stands v number (owner n (calls_of client)) client s)

told_stands : (v : World) (number : ℕ) (told : List (ℕ × ℕ)) (client : Client) → StandsAs v number client → StandsAs v number (fold told_state client told)
told_stands v number [] client s = s
told_stands v number ((n, byte) ∷ told) client s =
    told_stands v number told (told_state client (n, byte))
    (stands_if v number (goes_again byte) (alone_number client n) client (alone_stands v number (owner n (calls_of client)) client s) s)

states_stand : (v : World) (number : ℕ) (numbers info : List ℕ) (client : Client) → StandsAs v number client → StandsAs v number (told_states numbers info client)
states_stand v number numbers info client s =
    stands_if v number (length info == length numbers) (fold told_state client (zip numbers info)) client (told_stands v number (zip numbers info) client s) s

told_of_stands : (v : World) (number : ℕ) (asked : Option StateRequest) (request : ℕ) (info : List ℕ) (client : Client) → StandsAs v number client
    → StandsAs v number (told_of asked request info client)
told_of_stands v number None request info client s = s
told_of_stands v number (Some asked) request info client s =
    stands_if v number (asked.number == request) (told_states asked.numbers info client) client (states_stand v number asked.numbers info client s) s

-- what a refused packet had in it goes again
among_binding : (numbers : List ℕ) (temporary : Temporary) → temporary.binding ≡ (alone_among numbers temporary).binding
among_binding numbers temporary =
    elim (cases_Bool (list_any (λ (number : ℕ). is_asked_by number temporary.binding) numbers)) [ inl is ↦ rw is refl | inr isnt ↦ rw isnt refl ]

asked_among : (ups : List moves.Message) (client other : Client) → other.session ≡ client.session → (numbers : List ℕ) (temporary : Option Temporary)
    → IfSome temporary (λ (t : Temporary). IsAskedThere ups client t.binding)
    → IfSome (option_map (alone_among numbers) temporary) (λ (t : Temporary). IsAskedThere ups other t.binding)
asked_among ups client other session numbers None h = tt
asked_among ups client other session numbers (Some temporary) h =
    subst (λ (b : Binding). IsAskedThere ups other b) (among_binding numbers temporary) (binding_alike client other session ups temporary.binding h)

packet_stands : (v : World) (number : ℕ) (numbers : List ℕ) (client : Client) → StandsAs v number client → StandsAs v number (packet_noticed numbers client)
packet_stands v number numbers client s =
    let other : Client = record client { temporary = option_map (alone_among numbers) client.temporary } in
    let alike : Alike client other = record { session = refl; last = omega arith } in
    all_alone v number numbers other (record {
      made = s.made;
      parts = s.parts;
      submitted = s.submitted;
      calls = λ place. same_there client other alike v.ups (slice_get (calls_of client) place) (v.calls (moves.call_at number place)) (s.calls place);
      given = all_given_alike client other alike v.ups s.given;
      short = record { acks = s.short.acks; resent = s.short.resent };
      asked = asked_among v.ups client other refl numbers client.temporary s.asked;
    })

-- ---- salts

salt_taken : (v : World) (number salt : ℕ) (client : Client) → StandsAs v number client → StandsAs (after_salt v number salt true) number (record client { salt = salt })
salt_taken v number salt client s =
    let other : Client = record client { salt = salt } in
    let alike : Alike client other = record { session = refl; last = omega arith } in
    record {
      made = s.made;
      parts = rw (eq-eqb number number refl, s.parts) refl;
      submitted = s.submitted;
      calls = λ place. same_there client other alike v.ups (slice_get (calls_of client) place) (v.calls (moves.call_at number place)) (s.calls place);
      given = all_given_alike client other alike v.ups s.given;
      short = record { acks = s.short.acks; resent = s.short.resent };
      asked = asked_still v.ups client other refl client.temporary s.asked;
    }

salt_left : (v : World) (number salt : ℕ) (client : Client) → StandsAs v number client → StandsAs (after_salt v number salt false) number client
salt_left v number salt client s =
    record {
      made = s.made;
      parts = rw (eq-eqb number number refl) s.parts;
      submitted = s.submitted;
      calls = s.calls;
      given = s.given;
      short = record { acks = s.short.acks; resent = s.short.resent };
      asked = s.asked;
    }

-- ---- results

abbrev begins_true : List ℕ → Bool
begins_true result = begins bool_true result && (length result == 4)

unasked_answer : (ups : List moves.Message) (client : Client) (ok : Bool) (code : ℕ) → IsAskedThere ups client (if ok then Bound else Refused code)
unasked_answer ups client true code = tt
unasked_answer ups client false code = tt

answered_so : (v : World) (number : ℕ) (found : Option CallNo) (is_binding : Bool) (result : List ℕ) (client : Client)
    → StandsAs v number (becomes_if found (fate.Done result) client) → StandsAs v number (answered_by found is_binding result client)
answered_so v number (Some k) is_binding result client s = s
answered_so v number None true result client s =
    unasked v number client (binding_answered result) (unasked_answer v.ups client (begins_true result) (binding_error (item_of result))) s
answered_so v number None false result client s = s

-- ---- notices

fates_agree : (code : ℕ) → state_there (state_after (fate_noticed code)) ≡ state_noticed code
fates_agree code =
    elim (cases_Bool (code == 16)) [
      | inl a ↦ rw a refl
      | inr a ↦
          elim (cases_Bool (code == 48)) [
            | inl b ↦ rw (a, b) refl
            | inr b ↦
                elim (cases_Bool (code == 17)) [
                  | inl c ↦ rw (a, b, c) refl
                  | inr c ↦ elim (cases_Bool (code == 20)) [ inl d ↦ rw (a, b, c, d) refl | inr d ↦ rw (a, b, c, d) refl ]
                ]
          ]
    ]

unasked_notice : (ups : List moves.Message) (client : Client) (needed held : Bool) (code : ℕ)
    → IsAskedThere ups client (if needed then Needed else if held then Held else Refused code)
unasked_notice ups client true held code = tt
unasked_notice ups client false true code = tt
unasked_notice ups client false false code = tt

becomes_same : (k : CallNo) (fate : Fate) (one other : Client) → SameParts one other → SameParts (becomes k fate one) (becomes k fate other)
becomes_same k fate one other same = record {
  session = same.session;
  former = same.former;
  salt = same.salt;
  learnt = same.learnt;
  ended = same.ended;
  counters = same.counters;
  calls = ap (λ (calls : List Call). changed k (settled fate) calls) same.calls;
  temporary = same.temporary;
  short = λ h. (let k = same.short (record { acks = h.acks; resent = h.resent }) in record { acks = k.acks; resent = k.resent });
}

noticed_so : (v : World) (number : ℕ) (found : Option CallNo) (is_binding : Bool) (packet : Option (List ℕ)) (outer about code : ℕ) (client : Client)
    → StandsAs v number (becomes_if found (fate_noticed code) client)
    → StandsAs v number (noticed_by found is_binding packet outer (record { about = about; code = code; salt = None }) client)
noticed_so v number (Some k) is_binding packet outer about code client s =
    calm v number (becomes k (fate_noticed code) client) (becomes k (fate_noticed code) (with_notice_clock outer code client))
    (becomes_same k (fate_noticed code) client (with_notice_clock outer code client) (clock_same outer code client)) s
noticed_so v number None true packet outer about code client s =
    let other : Client = with_notice_clock outer code client in
    unasked v number other (binding_noticed code) (unasked_notice v.ups other (code == 16 || code == 48 || code == 20) (code == 17) code)
    (calm v number client other (clock_same outer code client) s)
noticed_so v number None false (Some numbers) outer about code client s =
    let other : Client = with_notice_clock outer code client in
    packet_stands v number numbers other (calm v number client other (clock_same outer code client) s)
noticed_so v number None false None outer about code client s = s

-- a notice with the right salt: it is taken over where the notice is about something that is known
abbrev is_known : Option CallNo → Bool → Option (List ℕ) → Bool
is_known (Some k) is_binding packet = true
is_known None true packet = true
is_known None false (Some numbers) = true
is_known None false None = false

salted_so : (v : World) (number : ℕ) (found : Option CallNo) (is_binding : Bool) (packet : Option (List ℕ)) (outer about salt : ℕ) (client : Client)
    → StandsAs v number (becomes_if found (fate_noticed 48) client)
    → StandsAs (after_salt v number salt (is_known found is_binding packet)) number
    (noticed_by found is_binding packet outer (record { about = about; code = 48; salt = Some salt }) client)
salted_so v number (Some k) is_binding packet outer about salt client s = salt_taken v number salt (becomes k (fate_noticed 48) client) s
salted_so v number None true packet outer about salt client s =
    let other : Client = record client { salt = salt } in
    unasked (after_salt v number salt true) number other (binding_noticed 48) tt (salt_taken v number salt client s)
salted_so v number None false (Some numbers) outer about salt client s =
    packet_stands (after_salt v number salt true) number numbers (record client { salt = salt }) (salt_taken v number salt client s)
salted_so v number None false None outer about salt client s = salt_left v number salt client s

-- ---- a unique number

untimed : (v : World) (number : ℕ) (client : Client) → StandsAs (after v (Own (End number))) number client → StandsAs (end_client v number) number client
untimed v number client s = record { made = s.made; parts = s.parts; submitted = s.submitted; calls = s.calls; given = s.given; asked = s.asked; short = s.short }

-- the client stands so, and names are of one call
pub record StandsSo (v : World) (number : ℕ) (client : Client) : Type 0 where
  pub stands : StandsAs v number client
  pub one : OneName v

three_ways : (v a b c : World) (number : ℕ) (x y z : Client) (known known' few full : Bool) → known ≡ known' → few ≡ not full
    → StandsSo a number x → StandsSo b number y → StandsSo c number z
    → StandsSo (if known then a else if few then b else c) number (if known' then x else if full then z else y)
three_ways v a b c number x y z true known' few full is other at_a at_b at_c = subst (λ (k : Bool). StandsSo a number (if k then x else if full then z else y)) is at_a
three_ways v a b c number x y z false known' few true is other at_a at_b at_c =
    subst (λ (k : Bool). StandsSo (if few then b else c) number (if k then x else z)) is (subst (λ (f : Bool). StandsSo (if f then b else c) number z) (sym other) at_c)
three_ways v a b c number x y z false known' few false is other at_a at_b at_c =
    subst (λ (k : Bool). StandsSo (if few then b else c) number (if k then x else y)) is (subst (λ (f : Bool). StandsSo (if f then b else c) number y) (sym other) at_b)

few_or_full : (n : ℕ) → nat_lt n 1024 ≡ not (nat_le 1024 n)
few_or_full n = grind (arith, nat_tests)

learns_so : (v : World) (number outer unique salt : ℕ) (client : Client) → StandsSo v number client → StandsSo (learn_there v number unique salt) number (learn outer unique salt client)
learns_so v number outer unique salt client s =
    let learnt : (v.clients number).learnt ≡ reverse client.learnt = ap (λ (c : moves.Client). c.learnt) s.stands.parts in
    let size : length (v.clients number).learnt ≡ length client.learnt = ap (λ (l : List ℕ). length l) learnt ∙ length-reverse client.learnt in
    three_ways v v (after_learnt v number unique salt) (end_client v number) number client (with_clock outer (learns unique salt client)) (ended client)
    (list_any (λ (known : ℕ). known == unique) (v.clients number).learnt) (list_any (λ (known : ℕ). known == unique) client.learnt)
    (nat_lt (length (v.clients number).learnt) LEARNT_MAX) (nat_le learnt_max (length client.learnt))
    (ap (λ (l : List ℕ). list_any (λ (known : ℕ). known == unique) l) learnt ∙ any_reverse (λ (known : ℕ). known == unique) client.learnt)
    (ap (λ (n : ℕ). nat_lt n 1024) size ∙ few_or_full (length client.learnt))
    s (record { stands = teaches v number outer unique salt client s.stands; one = s.one })
    (record { stands = untimed v number (ended client) (ends v number client s.stands); one = s.one })

-- ---- an item

pub record OneItem (v : World) (number : ℕ) (item : Item) (client : Client) : Type 0 where
  pub there : moves.Item
  pub takes : Bool
  pub is : item_there item ≡ there ∷ []
  pub so : StandsSo (after_item v number there takes) number client

pub record NoItem (v : World) (number : ℕ) (item : Item) (client : Client) : Type 0 where
  pub is : item_there item ≡ []
  pub so : StandsAs v number client

module _ (v : World) (number outer from : ℕ) (client : Client) (s : StandsSo v number client) where
  abbrev RowSo : Item → Type 0
  RowSo item = NoItem v number item (row outer from item client) ⊎ OneItem v number item (row outer from item client)

  abbrev testing : ℕ → Call → Bool
  testing about call = is_number_of about (living_name call)

  wait_so : (other : Client) → SameParts client other → StandsAs v number other
  wait_so other same = calm v number client other same s.stands

  asks_so : (answer : ℕ) → StandsAs v number (asks_answer answer client)
  asks_so answer =
      let more : Client = record client { waiting = record client.waiting { resent = client.waiting.resent ++ answer ∷ [] } } in
      let Goal : Bool → Type 0 = λ b. StandsAs v number (if b then more else client) in
      elim (cases_Bool (nat_lt (length client.waiting.resent) numbers_max)) [
        | inl is ↦
            let few = ltb-true (length client.waiting.resent) numbers_max is in
            let counted = length-append client.waiting.resent (answer ∷ []) in
            subst Goal (sym is)
            (wait_so more
            (record {
              session = refl;
              former = refl;
              salt = refl;
              learnt = refl;
              ended = refl;
              counters = refl;
              calls = refl;
              temporary = refl;
              short = λ h. record { acks = h.acks; resent = omega (arith, few, counted) };
            }))
        | inr fails ↦ subst Goal (sym fails) s.stands
      ]

  result_so : (about : ℕ) (result : List ℕ) → RowSo (RpcResult about result)
  result_so about result =
      let found = first_from (testing about) 0 (calls_of client) in
      inr (record {
        there = moves.Item.Result about result;
        takes = false;
        is = refl;
        so = record {
          stands = answered_so (after_settled v number about (moves.State.Done result)) number (option_map call_no found) (has_asked about client.temporary) result client
              (settled_by v number about client s.stands s.one (fate.Done result) (moves.State.Done result) refl found refl);
          one = s.one;
        };
      })

  notice_so : (about seq code : ℕ) → RowSo (BadMsgNotification about seq code)
  notice_so about seq code =
      let found = first_from (testing about) 0 (calls_of client) in
      inr (record {
        there = moves.Item.Notice about code;
        takes = false;
        is = refl;
        so = record {
          stands = noticed_so (after_settled v number about (state_noticed code)) number (option_map call_no found) (has_asked about client.temporary)
              (inner_of about client.table.packets) outer about code client
              (settled_by v number about client s.stands s.one (fate_noticed code) (state_noticed code) (fates_agree code) found refl);
          one = s.one;
        };
      })

  salt_so : (about seq code salt : ℕ) → RowSo (BadServerSalt about seq code salt)
  salt_so about seq code salt =
      let found = first_from (testing about) 0 (calls_of client) in
      inr (record {
        there = moves.Item.WrongSalt about salt;
        takes = is_known (option_map call_no found) (has_asked about client.temporary) (inner_of about client.table.packets);
        is = refl;
        so = record {
          stands = salted_so (after_settled v number about (state_noticed 48)) number (option_map call_no found) (has_asked about client.temporary)
              (inner_of about client.table.packets) outer about salt client
              (settled_by v number about client s.stands s.one (fate_noticed 48) (state_noticed 48) refl found refl);
          one = s.one;
        };
      })

  pub row_so : (item : Item) → RowSo item
  row_so (NewSessionCreated first unique salt) =
      inr (record { there = moves.Item.NewSession unique salt; takes = false; is = refl; so = learns_so v number outer unique salt client s })
  row_so (RpcResult about result) = result_so about result
  row_so (BadMsgNotification about seq code) = notice_so about seq code
  row_so (BadServerSalt about seq code salt) = salt_so about seq code salt
  row_so (MsgsStateInfo request info) = inl (record { is = refl; so = told_of_stands v number client.asked request info client s.stands })
  row_so (MsgsAllInfo numbers info) = inl (record { is = refl; so = states_stand v number numbers info client s.stands })
  row_so (MsgResendReq numbers) = inl (record { is = refl; so = all_alone v number numbers client s.stands })
  row_so (MsgsStateReq numbers) =
      inl (record {
        is = refl;
        so = wait_so (asked_states from numbers client)
            (record { session = refl; former = refl; salt = refl; learnt = refl; ended = refl; counters = refl; calls = refl; temporary = refl; short = λ h. record { acks = h.acks; resent = h.resent } });
      })
  row_so (MsgDetailedInfo about answer bytes status) = inl (record { is = refl; so = asks_so answer })
  row_so (MsgNewDetailedInfo answer bytes status) = inl (record { is = refl; so = asks_so answer })
  row_so (RpcError code text) = inl (record { is = refl; so = s.stands })
  row_so (RpcDropAnswer a) = inl (record { is = refl; so = s.stands })
  row_so RpcAnswerUnknown = inl (record { is = refl; so = s.stands })
  row_so RpcAnswerDroppedRunning = inl (record { is = refl; so = s.stands })
  row_so (RpcAnswerDropped a b c) = inl (record { is = refl; so = s.stands })
  row_so (GetFutureSalts a) = inl (record { is = refl; so = s.stands })
  row_so (FutureSalts a b c) = inl (record { is = refl; so = s.stands })
  row_so (Ping a) = inl (record { is = refl; so = s.stands })
  row_so (PingDelayDisconnect a b) = inl (record { is = refl; so = s.stands })
  row_so (Pong a b) = inl (record { is = refl; so = s.stands })
  row_so (DestroySession a) = inl (record { is = refl; so = s.stands })
  row_so (DestroySessionOk a) = inl (record { is = refl; so = s.stands })
  row_so (DestroySessionNone a) = inl (record { is = refl; so = s.stands })
  row_so (MsgContainer a) = inl (record { is = refl; so = s.stands })
  row_so (MsgsAck a) = inl (record { is = refl; so = s.stands })
  row_so (InvokeAfterMsg a b) = inl (record { is = refl; so = s.stands })
  row_so (InvokeAfterMsgs a b) = inl (record { is = refl; so = s.stands })
  row_so (AuthBindTempAuthKey a b c d) = inl (record { is = refl; so = s.stands })
  row_so Packed = inl (record { is = refl; so = s.stands })
  row_so item.Call = inl (record { is = refl; so = s.stands })
  row_so (Broken a) = inl (record { is = refl; so = s.stands })
