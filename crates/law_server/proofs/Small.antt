-- A few short messages go into one packet.
use Rattle.std.proofs.Common.{◌≡◌, ◌∙◌, ℕ, ◌+◌, ◌≤◌, true, List, [], ◌∷◌, length, ap, refl, arith}
use Rattle.std.specs.List.{All}
use Rattle.std.proofs.lemmas.Bool.{cond-true, le-leb, and_from}
use Rattle.std.proofs.lemmas.List.Elements.{All-head, All-tail}
use Rattle.msg_ids.specs.Counters.{Counters}
use Rattle.tl_codec.specs.Spelling.{spelling}
use Rattle.service_tl.specs.declared.item.Item.TheVariants.{NewSessionCreated, BadServerSalt, BadMsgNotification, MsgsAck}
use Rattle.service_tl.specs.declared.lists.Message.{Message}
use Rattle.service_tl.specs.Items.{spelling_of}
use Rattle.containers.specs.Container.{container_head, message_head, messages_max, bytes_max, size_of}
use Rattle.packing.specs.Packing.{is_within, grouped, groups, outer_of, outers_of, packed, packets_of}
use Rattle.law_server.specs.Start.{BeginsWith}

-- ---- lengths

pub new-length : (first unique salt : ℕ) → length (spelling_of (NewSessionCreated first unique salt)) ≡ 28
unfolding spelling
new-length first unique salt = refl

pub salt-length : (number seq salt : ℕ) → length (spelling_of (BadServerSalt number seq 48 salt)) ≡ 28
unfolding spelling
salt-length number seq salt = refl

pub notice-length : (number seq code : ℕ) → length (spelling_of (BadMsgNotification number seq code)) ≡ 20
unfolding spelling
notice-length number seq code = refl

pub ack-length : (number : ℕ) → length (spelling_of (MsgsAck (number ∷ []))) ≡ 20
unfolding spelling
ack-length number = refl

-- ---- one packet

abbrev pub IsShort : Message → Type 0
IsShort message = length message.body ≤ 28

two-within : (one other : Message) → IsShort one → IsShort other → is_within (one ∷ (other ∷ [])) ≡ true
two-within one other short_one short_other =
    let group : List Message = one ∷ (other ∷ []) in
    let size : size_of group ≡ container_head + (0 + (message_head + length one.body) + (message_head + length other.body)) = refl in
    let few : length group ≤ messages_max = omega arith in
    let small : size_of group ≤ bytes_max = omega arith in
    and_from _ _ (le-leb (length group) messages_max few) (le-leb (size_of group) bytes_max small)

three-within : (one other third : Message) → IsShort one → IsShort other → IsShort third → is_within (one ∷ (other ∷ (third ∷ []))) ≡ true
three-within one other third short_one short_other short_third =
    let group : List Message = one ∷ (other ∷ (third ∷ [])) in
    let size : size_of group ≡ container_head + (0 + (message_head + length one.body) + (message_head + length other.body) + (message_head + length third.body)) = refl in
    let few : length group ≤ messages_max = omega arith in
    let small : size_of group ≤ bytes_max = omega arith in
    and_from _ _ (le-leb (length group) messages_max few) (le-leb (size_of group) bytes_max small)

-- one of at most three short messages and those behind it
pub one-group : (first : Message) (rest : List Message) → IsShort first → length rest ≤ 2 → All IsShort rest → groups (first ∷ rest) ≡ (first ∷ rest) ∷ []
one-group first [] short few all = refl
one-group first (other ∷ []) short few all =
    cond-true (is_within (first ∷ (other ∷ []))) (grouped (first ∷ (other ∷ [])) []) ((first ∷ []) ∷ grouped (other ∷ []) [])
    (two-within first other short (All-head IsShort other [] all))
one-group first (other ∷ (third ∷ [])) short few all =
    let short_other = All-head IsShort other (third ∷ []) all in
    let short_third = All-head IsShort third [] (All-tail IsShort other (third ∷ []) all) in
    cond-true (is_within (first ∷ (other ∷ []))) (grouped (first ∷ (other ∷ [])) (third ∷ [])) ((first ∷ []) ∷ grouped (other ∷ []) (third ∷ []))
    (two-within first other short short_other)
    ∙ cond-true (is_within (first ∷ (other ∷ (third ∷ [])))) (grouped (first ∷ (other ∷ (third ∷ []))) []) ((first ∷ (other ∷ [])) ∷ grouped (third ∷ []) [])
    (three-within first other third short short_other short_third)
one-group first (other ∷ (third ∷ (fourth ∷ rest))) short few all = absurd (omega arith)

outer-body : (now : ℕ) (counters : Counters) (group : List Message) → (outer_of now counters group).body ≡ packed group
outer-body now counters [] = refl
outer-body now counters (message ∷ []) = refl
outer-body now counters (message ∷ (next ∷ messages)) = refl

pub one-packet : (now : ℕ) (counters : Counters) (first : Message) (rest : List Message) → IsShort first → length rest ≤ 2 → All IsShort rest
    → (packet : Message) × (packets_of now counters (first ∷ rest) ≡ packet ∷ []) × BeginsWith first packet.body
one-packet now counters first rest short few all =
    let group = first ∷ rest in (
      outer_of now counters group,
      ap (outers_of now counters) (one-group first rest short few all),
      (rest, outer-body now counters group),
    )
