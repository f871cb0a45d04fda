use Rattle.std.proofs.Common.{◌≡◌, ◌∙◌, ◌≤◌, ◌+◌, ◌-◌, ◌∷◌, ◌++◌, [], List, length, map, take, drop, vec_len, ap, sym, subst, refl, arith}
use Rattle.std.specs.List.{AllByRecursion}
use Rattle.service_tl.specs.declared.lists.Message.{Message}
use Rattle.containers.specs.Lent.{message_of}
use Rattle.packing.specs.Packing.{groups, outer_of, outers_of, packets_of}
use Rattle.server_output.specs.Batch.{Batch, IsPlace, packed_most, packets_most}
use Rattle.server_output.specs.Outs.{GoesOn, one_sent, sent_of}
use Rattle.server_output.specs.Course.{Course}
use Rattle.server_rules.specs.Event.{Sent}
use Rattle.octets.specs.Draft.{Draft}
use Rattle.containers.specs.declared.part.Part.{Part}
use Rattle.std.proofs.lemmas.List.{length-map, length-take, length-drop, drop-drop}
use Rattle.std.proofs.Math.ListN.{drop_of_length-le}
use Rattle.server_output.proofs.Counts.{packets-few}
use Rattle.server_output.proofs.Left.{IsLeft, left-drop}
use Rattle.server_output.proofs.Lent.{lent_of, first-group, group-packet, group-fits, place-taken, places-left}
use Rattle.server_output.proofs.Sending.{course-begun, course-more, course-ended, goes-on, first-sent, first-drawn, first-counted}
use Rattle.server_output.proofs.packets.Delivery.send.Goals as goal

pub loop-start-init : goal.loop-start-init
loop-start-init g c =
    let messages = map message_of c.lent-parts.result.items in
    let P : List Message → Type 0 = IsLeft c.args.self.packets.messages c.args.self.packets.bytes in
    let left : IsLeft c.args.self.packets.messages c.args.self.packets.bytes messages =
    subst P (sym c.lent-parts.ensures.lent) (record { few = omega (arith, c.lent-parts.ensures.few, c.requires.few); short = omega (arith, c.lent-parts.ensures.short, c.requires.short); go = c.lent-parts.ensures.can_go }) in
    let few = packets-few messages c.args.self.packets.messages c.args.self.packets.bytes left.few left.short in
    let Q : Batch → Type 0 = λ batch. packets_most batch.messages batch.bytes ≤ vec_len c.packets.inside.places in
    let enough : packets_most c.args.self.packets.messages c.args.self.packets.bytes ≤ vec_len c.packets.inside.places = subst Q c.packets.view_is c.packets.invariant.3 in
    let R : Batch → Type 0 = λ batch. AllByRecursion (IsPlace (packed_most batch.messages batch.bytes)) c.packets.inside.places.items in
    record {
      within = omega arith;
      left = left;
      numbers_are = omega (arith, few, c.requires.numbers);
      outs_are = omega (arith, few, c.requires.outs);
      places_are = omega (arith, few, enough);
      places = subst R c.packets.view_is c.packets.invariant.4;
      course = course-begun g.S.Seal.lock (g.S.Seal.keys c.args.seal.now) c.args.outs.now.outs
          (sent_of g.D.Draw.step c.args.header (packets_of c.args.now c.args.numbers.now messages) c.args.draw.now);
      drawn = refl;
      counted = refl;
      room_lasts = omega arith;
      numbers_last = omega arith;
    }

pub unwrap-place-requires : goal.unwrap-place-requires
unwrap-place-requires g c =
    let first = first-group c.lent-parts.result.items c.deref.result.now c.loop-start.start c.front-count.result c.deref.ensures.value c.front-count.ensures.first in
    let count = ap (λ (all : List (List Message)). length all) first in
    c.pop.ensures.variant.1 (omega (arith, count, c.loop-start.invariant.places_are))

pub sealed-out-requires-clause-packet : goal.sealed-out-requires-clause-packet
sealed-out-requires-clause-packet g c =
    group-packet c.lent-parts.result.items c.deref.result.now c.loop-start.start c.front-count.result c.deref.ensures.value c.front-count.ensures.packet

pub sealed-out-requires-clause-words : goal.sealed-out-requires-clause-words
sealed-out-requires-clause-words g c =
    (group-fits c.lent-parts.result.items c.deref.result.now c.loop-start.start c.front-count.result c.deref.ensures.value c.container_sizes.ensures.whole
    c.args.self.packets.messages c.args.self.packets.bytes c.loop-start.invariant.left c.front-count.ensures.packet).words

pub sealed-out-requires-clause-short : goal.sealed-out-requires-clause-short
sealed-out-requires-clause-short g c =
    (group-fits c.lent-parts.result.items c.deref.result.now c.loop-start.start c.front-count.result c.deref.ensures.value c.container_sizes.ensures.whole
    c.args.self.packets.messages c.args.self.packets.bytes c.loop-start.invariant.left c.front-count.ensures.packet).short

pub sealed-out-requires-clause-numbers : goal.sealed-out-requires-clause-numbers
sealed-out-requires-clause-numbers g c =
    let first = first-group c.lent-parts.result.items c.deref.result.now c.loop-start.start c.front-count.result c.deref.ensures.value c.front-count.ensures.first in
    let count = ap (λ (all : List (List Message)). length all) first in
    omega (arith, count, c.loop-start.invariant.numbers_are)

pub sealed-out-requires-clause-room : goal.sealed-out-requires-clause-room
sealed-out-requires-clause-room g c =
    let fits = group-fits c.lent-parts.result.items c.deref.result.now c.loop-start.start c.front-count.result c.deref.ensures.value c.container_sizes.ensures.whole
    c.args.self.packets.messages c.args.self.packets.bytes c.loop-start.invariant.left c.front-count.ensures.packet in
    let are : c.loop-start.places.items ≡ c.pop.new.self.items ++ c.unwrap-place.result ∷ [] = rw c.unwrap-place.ensures at c.pop.ensures.items in
    let is = place-taken (packed_most c.args.self.packets.messages c.args.self.packets.bytes) c.loop-start.places.items c.pop.new.self.items c.unwrap-place.result are c.loop-start.invariant.places in
    (ap (λ (draft : Draft). draft.bytes) is, omega (arith, fits.most, ap (λ (draft : Draft). draft.room) is))

pub push-requires : goal.push-requires
push-requires g c =
    let first = first-group c.lent-parts.result.items c.deref.result.now c.loop-start.start c.front-count.result c.deref.ensures.value c.front-count.ensures.first in
    let count = ap (λ (all : List (List Message)). length all) first in
    omega (arith, count, c.loop-start.invariant.outs_are)

pub loop-start-preserved : goal.loop-start-preserved
loop-start-preserved g c =
    let parts = c.lent-parts.result.items in
    let slice = c.deref.result.now in
    let messages = map message_of parts in
    let start = c.loop-start.start in
    let count = c.front-count.result in
    let most = c.args.self.packets.messages in
    let bytes = c.args.self.packets.bytes in
    let group = map message_of (take count (lent_of slice start)) in
    let rest = groups (drop start messages) in
    let others = groups (drop (start + count) messages) in
    let lock = g.S.Seal.lock in
    let ring = g.S.Seal.keys c.args.seal.now in
    let step = g.D.Draw.step in
    let before = c.loop-start.invariant in
    let next = c.sealed-out.new.numbers in
    let drawn = c.sealed-out.new.draw in
    let first : rest ≡ group ∷ others = first-group parts slice start count c.deref.ensures.value c.front-count.ensures.first in
    let counted : length rest ≡ length (group ∷ others) = ap (λ (all : List (List Message)). length all) first in
    let are : c.loop-start.places.items ≡ c.pop.new.self.items ++ c.unwrap-place.result ∷ [] = rw c.unwrap-place.ensures at c.pop.ensures.items in
    let fewer : vec_len c.pop.new.self + length (c.unwrap-place.result ∷ []) ≡ vec_len c.loop-start.places = rw c.unwrap-place.ensures at c.pop.ensures.len in
    let P : List Message → Type 0 = IsLeft most bytes in
    let C : List Sent → Type 0 = λ left. Course lock ring c.args.outs.now.outs c.loop-start.outs.outs left (sent_of step c.args.header (packets_of c.args.now c.args.numbers.now messages) c.args.draw.now) in
    let going = subst C (first-sent step c.args.header c.args.now c.loop-start.numbers next c.loop-start.draw drawn group rest others first c.sealed-out.ensures.counted c.sealed-out.ensures.drawn) before.course in
    record {
      within = omega (arith, c.front-count.ensures.few, length-take (length slice - start) (drop start slice), length-drop start slice, ap (λ (all : List Part). length all) c.deref.ensures.value);
      left = subst P (drop-drop count start messages) (left-drop most bytes count (drop start messages) before.left);
      numbers_are = omega (arith, counted, c.sealed-out.ensures.room_lasts, before.numbers_are);
      outs_are = omega (arith, counted, c.push.ensures.left, before.outs_are);
      places_are = omega (arith, counted, fewer, before.places_are);
      places = places-left (packed_most most bytes) c.loop-start.places.items c.pop.new.self.items c.unwrap-place.result are before.places;
      course = course-more lock ring c.args.outs.now.outs c.loop-start.outs.outs c.push.new.self.outs
          (sent_of step c.args.header (outers_of c.args.now next others) drawn) (sent_of step c.args.header (packets_of c.args.now c.args.numbers.now messages) c.args.draw.now)
          (one_sent step c.args.header (outer_of c.args.now c.loop-start.numbers group) c.loop-start.draw) c.sealed-out.result going c.push.ensures.pushed c.sealed-out.ensures.sent;
      drawn = first-drawn step c.args.header c.args.now c.loop-start.numbers next c.loop-start.draw drawn group rest others first c.sealed-out.ensures.counted c.sealed-out.ensures.drawn ∙ before.drawn;
      counted = first-counted step c.args.header c.args.now c.loop-start.numbers next c.loop-start.draw drawn group rest others first c.sealed-out.ensures.counted c.sealed-out.ensures.drawn ∙ before.counted;
      room_lasts = omega (arith, counted, c.push.ensures.left, before.room_lasts);
      numbers_last = omega (arith, counted, c.sealed-out.ensures.room_lasts, before.numbers_last);
    }

pub returns-clause-so_far : goal.returns-clause-so_far
returns-clause-so_far g c =
    let parts = c.lent-parts.result.items in
    let messages = map message_of parts in
    let lock = g.S.Seal.lock in
    let ring = g.S.Seal.keys c.args.seal.now in
    let step = g.D.Draw.step in
    let all : List Message → List Sent = λ (messages : List Message). sent_of step c.args.header (packets_of c.args.now c.args.numbers.now messages) c.args.draw.now in
    let long : length messages ≤ c.loop-start.start = omega (arith, length-map parts message_of, c.len.ensures, c.loop-start-test.false) in
    let none : drop c.loop-start.start messages ≡ [] = drop_of_length-le messages long in
    let C : List Message → Type 0 = λ rest. Course lock ring c.args.outs.now.outs c.loop-start.outs.outs
    (sent_of step c.args.header (outers_of c.args.now c.loop-start.numbers (groups rest)) c.loop-start.draw) (all messages) in
    let goes = course-ended lock ring c.args.outs.now.outs c.loop-start.outs.outs (all messages) (subst C none c.loop-start.invariant.course) in
    let G : List Message → Type 0 = λ messages. GoesOn lock ring (all messages) c.args.outs.now.outs c.loop-start.outs.outs in
    goes-on lock ring (all c.args.self.owing.now.messages) c.args.outs.now.outs c.loop-start.outs.outs (subst G c.lent-parts.ensures.lent goes)

pub returns-clause-room_lasts : goal.returns-clause-room_lasts
returns-clause-room_lasts g c =
    let messages = map message_of c.lent-parts.result.items in
    let P : List Message → Type 0 = IsLeft c.args.self.packets.messages c.args.self.packets.bytes in
    let left : IsLeft c.args.self.packets.messages c.args.self.packets.bytes messages =
    subst P (sym c.lent-parts.ensures.lent) (record { few = omega (arith, c.lent-parts.ensures.few, c.requires.few); short = omega (arith, c.lent-parts.ensures.short, c.requires.short); go = c.lent-parts.ensures.can_go }) in
    let few = packets-few messages c.args.self.packets.messages c.args.self.packets.bytes left.few left.short in
    omega (arith, few, c.loop-start.invariant.room_lasts)

pub returns-clause-numbers_last : goal.returns-clause-numbers_last
returns-clause-numbers_last g c =
    let messages = map message_of c.lent-parts.result.items in
    let P : List Message → Type 0 = IsLeft c.args.self.packets.messages c.args.self.packets.bytes in
    let left : IsLeft c.args.self.packets.messages c.args.self.packets.bytes messages =
    subst P (sym c.lent-parts.ensures.lent) (record { few = omega (arith, c.lent-parts.ensures.few, c.requires.few); short = omega (arith, c.lent-parts.ensures.short, c.requires.short); go = c.lent-parts.ensures.can_go }) in
    let few = packets-few messages c.args.self.packets.messages c.args.self.packets.bytes left.few left.short in
    omega (arith, few, c.loop-start.invariant.numbers_last)

pub returns-clause-left : goal.returns-clause-left
returns-clause-left g c =
    let parts = c.lent-parts.result.items in
    let messages = map message_of parts in
    let long : length messages ≤ c.loop-start.start = omega (arith, length-map parts message_of, c.len.ensures, c.loop-start-test.false) in
    let none : drop c.loop-start.start messages ≡ [] = drop_of_length-le messages long in
    let ended : length (groups (drop c.loop-start.start messages)) ≡ 0 = ap (λ (rest : List Message). length (groups rest)) none in
    rw (← c.lent-parts.ensures.lent) (omega (arith, ended, c.loop-start.invariant.room_lasts))
