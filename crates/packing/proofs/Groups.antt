-- Messages that are taken into a packet one after the other.
use Rattle.std.proofs.Common.{◌≡◌, ◌∙◌, ℕ, ◌+◌, ◌<◌, ◌≤◌, true, false, List, [], ◌∷◌, ◌++◌, length, take, drop, get_or, ap, sym, refl, append_assoc, length-append, arith, inl, inr}
use Rattle.std.specs.List.{AllByRecursion, flat_map}
use Rattle.std.proofs.lemmas.Bool.{le-leb, leb-true, and_from, and_parts, cases_Bool}
use Rattle.std.proofs.lemmas.List.{take_more, drop_more}
use Rattle.msg_ids.specs.Counters.{Counters, room, most_content_messages}
use Rattle.service_tl.specs.declared.lists.Message.{Message}
use Rattle.containers.specs.Container.{AreWithin}
use Rattle.packing.specs.Packing.{is_within, grouped, groups, outer_of, after_outer, outers_of, after_outers, IsPacket}

pub within-is_within : (messages : List Message) → AreWithin messages → is_within messages ≡ true
within-is_within messages within = and_from _ _ (le-leb _ _ within.few) (le-leb _ _ within.short)

pub is_within-within : (messages : List Message) → is_within messages ≡ true → AreWithin messages
is_within-within messages is =
    let parts = and_parts _ _ is in
    record { few = leb-true _ _ parts.0; short = leb-true _ _ parts.1 }

pub beyond-is_within : (messages : List Message) → (AreWithin messages → ⊥) → is_within messages ≡ false
beyond-is_within messages beyond = elim (cases_Bool (is_within messages)) [ inl is ↦ absurd (beyond (is_within-within messages is)) | inr is ↦ is ]

module _ (messages : List Message) (i : ℕ) (message : Message) (lt : i < length messages) (is : message ≡ get_or messages i message) where
  pub front_more : take (i + 1) messages ≡ take i messages ++ message ∷ []
  front_more = take_more messages i message lt ∙ ap (λ (m : Message). take i messages ++ m ∷ []) (sym is)

  rest_more : drop i messages ≡ message ∷ drop (i + 1) messages
  rest_more = drop_more messages i message lt ∙ ap (λ (m : Message). m ∷ drop (i + 1) messages) (sym is)

  -- one that finds room is taken
  pub grouped-taken : AreWithin (take i messages ++ message ∷ []) → grouped (take i messages) (drop i messages) ≡ grouped (take (i + 1) messages) (drop (i + 1) messages)
  grouped-taken within = rw (rest_more, within-is_within (take i messages ++ message ∷ []) within, front_more) refl

  -- one that finds none begins the next packet
  pub grouped-cut : (AreWithin (take i messages ++ message ∷ []) → ⊥) → grouped (take i messages) (drop i messages) ≡ take i messages ∷ groups (drop i messages)
  grouped-cut beyond = rw (rest_more, beyond-is_within (take i messages ++ message ∷ []) beyond) refl

pub packet-within : (messages : List Message) → 0 < length messages → AreWithin messages → IsPacket messages
packet-within [] some within = absurd (omega arith)
packet-within (message ∷ []) some within = tt
packet-within (message ∷ (next ∷ messages)) some within = within

-- ---- one packet after the other

-- a packet more is made of the next group
pub packets-more : (now : ℕ) (next after : Counters) (packets pushed : List Message) (packet : Message) (group : List Message) (rest others : List (List Message))
    → rest ≡ group ∷ others → packet ≡ outer_of now next group → after ≡ after_outer now next group → pushed ≡ packets ++ packet ∷ []
    → pushed ++ outers_of now after others ≡ packets ++ outers_of now next rest
packets-more now next after packets pushed packet group rest others rest_is packet_is after_is pushed_is =
    rw (pushed_is, packet_is, after_is, rest_is) (append_assoc packets (outer_of now next group ∷ []) (outers_of now (after_outer now next group) others))

pub counters-more : (now : ℕ) (next after : Counters) (group : List Message) (rest others : List (List Message))
    → rest ≡ group ∷ others → after ≡ after_outer now next group → after_outers now after others ≡ after_outers now next rest
counters-more now next after group rest others rest_is after_is = rw (after_is, rest_is) refl

-- there is never room for more than 2^30 numbers
pub room_max : (counters : Counters) → room counters ≤ most_content_messages
unfolding room
room_max counters = omega arith

-- ---- all groups

grouped-all : (begun messages : List Message) → flat_map (λ group. group) (grouped begun messages) ≡ begun ++ messages
grouped-all begun [] = refl
grouped-all begun (message ∷ messages) =
    elim (cases_Bool (is_within (begun ++ message ∷ []))) [
      | inl is ↦ rw is (grouped-all (begun ++ message ∷ []) messages ∙ append_assoc begun (message ∷ []) messages)
      | inr is ↦ rw is (ap (λ (rest : List Message). begun ++ rest) (grouped-all (message ∷ []) messages))
    ]

pub groups-all : (messages : List Message) → flat_map (λ group. group) (groups messages) ≡ messages
groups-all [] = refl
groups-all (message ∷ messages) = grouped-all (message ∷ []) messages

grouped-few : (begun messages : List Message) → length (grouped begun messages) ≤ 1 + length messages
grouped-few begun [] = omega arith
grouped-few begun (message ∷ messages) =
    elim (cases_Bool (is_within (begun ++ message ∷ []))) [
      | inl is ↦ rw is (omega (arith, grouped-few (begun ++ message ∷ []) messages))
      | inr is ↦ rw is (omega (arith, grouped-few (message ∷ []) messages))
    ]

pub groups-few : (messages : List Message) → length (groups messages) ≤ length messages
groups-few [] = omega arith
groups-few (message ∷ messages) = omega (arith, grouped-few (message ∷ []) messages)

grouped-packets : (begun messages : List Message) → IsPacket begun → AllByRecursion IsPacket (grouped begun messages)
grouped-packets begun [] packet = (packet, tt)
grouped-packets begun (message ∷ messages) packet =
    elim (cases_Bool (is_within (begun ++ message ∷ []))) [
      | inl is ↦
          let further : IsPacket (begun ++ message ∷ []) =
          packet-within (begun ++ message ∷ []) (omega (arith, length-append begun (message ∷ []))) (is_within-within (begun ++ message ∷ []) is) in
          rw is (grouped-packets (begun ++ message ∷ []) messages further)
      | inr is ↦ rw is (packet, grouped-packets (message ∷ []) messages tt)
    ]

pub groups-packets : (messages : List Message) → AllByRecursion IsPacket (groups messages)
groups-packets [] = tt
groups-packets (message ∷ messages) = grouped-packets (message ∷ []) messages tt
