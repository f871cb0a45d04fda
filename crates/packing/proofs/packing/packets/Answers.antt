use Rattle.std.proofs.Common.{◌≡◌, ◌∙◌, ◌+◌, ◌-◌, ◌∷◌, ℕ, List, length, map, take, drop, ap, sym, refl, arith}
use Rattle.std.proofs.lemmas.List.{take_all, take-map, drop-map, drop-drop, length-drop, length_push}
use Rattle.service_tl.specs.declared.lists.Message.{Message}
use Rattle.containers.specs.declared.part.Part.{Part}
use Rattle.containers.specs.Lent.{message_of}
use Rattle.packing.specs.Packing.{groups}
use Rattle.packing.proofs.Groups.{packets-more, counters-more, room_max}
use Rattle.packing.proofs.packing.packets.Goals as goal

-- the parts from a place on, as they are lent
abbrev lent_of : List Part → ℕ → List Part
lent_of parts start = take (length parts - start) (drop start parts)

lent-messages : (parts : List Part) (start : ℕ) → map message_of (lent_of parts start) ≡ drop start (map message_of parts)
lent-messages parts start =
    ap (λ (rest : List Part). map message_of rest) (take_all (length parts - start) (drop start parts) (omega (arith, length-drop start parts)))
    ∙ sym (drop-map message_of start parts)

-- the first group of those, and the others
first_group : (parts : List Part) (start count : ℕ)
    → groups (map message_of (lent_of parts start)) ≡ take count (map message_of (lent_of parts start)) ∷ groups (drop count (map message_of (lent_of parts start)))
    → groups (drop start (map message_of parts)) ≡ map message_of (take count (lent_of parts start)) ∷ groups (drop (start + count) (map message_of parts))
first_group parts start count first =
    let e = lent-messages parts start in
    let group = take-map message_of count (lent_of parts start) in
    let others : drop count (map message_of (lent_of parts start)) ≡ drop (start + count) (map message_of parts) =
    ap (λ (rest : List Message). drop count rest) e ∙ drop-drop count start (map message_of parts) in
    ap groups (sym e) ∙ (first ∙ rw (group, others) refl)

pub packet-requires-clause-packet : goal.packet-requires-clause-packet
packet-requires-clause-packet c =
    rw (← take-map message_of c.front-count.result (lent_of c.args.messages.now c.loop-start.start)) c.front-count.ensures.packet

pub push-requires-clause-few : goal.push-requires-clause-few
push-requires-clause-few c = omega (arith, room_max c.args.numbers.now, c.requires, c.loop-start.invariant.few)

pub loop-start-preserved : goal.loop-start-preserved
loop-start-preserved c =
    let parts = c.args.messages.now in
    let start = c.loop-start.start in
    let count = c.front-count.result in
    let group = map message_of (take count (lent_of parts start)) in
    let rest = groups (drop start (map message_of parts)) in
    let others = groups (drop (start + count) (map message_of parts)) in
    let first = first_group parts start count c.front-count.ensures.first in
    record {
      within = omega (arith, length-drop start parts);
      room = omega (arith, c.in_ok-packet.ensures.room_lasts, c.loop-start.invariant.room);
      few = omega (arith, ap (λ (list : List Message). length list) c.in_ok-push.ensures.pushed, length_push c.loop-start.packets c.in_ok-packet.field-0);
      so_far =
          packets-more c.args.now c.loop-start.next c.packet.new.numbers c.loop-start.packets c.push.new.self c.in_ok-packet.field-0 group rest others
          first c.in_ok-packet.ensures.packet c.in_ok-packet.ensures.counted c.in_ok-push.ensures.pushed
          ∙ c.loop-start.invariant.so_far;
      counted =
          counters-more c.args.now c.loop-start.next c.packet.new.numbers group rest others first c.in_ok-packet.ensures.counted
          ∙ c.loop-start.invariant.counted;
    }
