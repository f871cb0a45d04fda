use Rattle.std.proofs.Common.{◌≡◌, ◌∙◌, ◌<◌, ◌+◌, ◌++◌, ◌∷◌, [], ℕ, List, length, map, take, get_or, ap, sym, subst, arith}
use Rattle.std.proofs.lemmas.Bool.{both_ways}
use Rattle.std.proofs.lemmas.List.{length-map, length-take, get_or-map}
use Rattle.service_tl.specs.declared.lists.Message.{Message}
use Rattle.containers.specs.declared.part.Part.{Part}
use Rattle.containers.specs.Container.{AreWithin}
use Rattle.containers.specs.Lent.{message_of}
use Rattle.packing.proofs.Groups.{front_more, grouped-taken, grouped-cut, packet-within}
use Rattle.packing.proofs.packing.front.Goals as goal

-- the message of a part is that of its place
placed : (parts : List Part) (i : ℕ) (part : Part) → i < length parts → part ≡ get_or parts i part → message_of part ≡ get_or (map message_of parts) i (message_of part)
placed parts i part lt is = ap message_of is ∙ sym (get_or-map message_of parts i part (message_of part) lt)

pub returns-then-not-fits-clause-first : goal.returns-then-not-fits-clause-first
returns-then-not-fits-clause-first c =
    let parts = c.args.messages.now in
    let messages = map message_of parts in
    let i = c.loop-place.place in
    let part = c.index-messages-place.result in
    let lt : i < length messages = omega (arith, length-map parts message_of) in
    let is = placed parts i part c.loop-place-test.true c.index-messages-place.is in
    let room = c.fits.ensures.as_packed (take i messages) (message_of part) (omega (arith, length-take i messages)) c.loop-place.invariant.size (sym (ap (λ (p : Part). length p.body.now) c.index-messages-place.is)) in
    let beyond : AreWithin (take i messages ++ message_of part ∷ []) → ⊥ = λ within. both_ways c.fits.result c.if-not-fits.true (room.1 within) in
    c.loop-place.invariant.taken ∙ grouped-cut messages i (message_of part) lt is beyond

pub loop-place-preserved : goal.loop-place-preserved
loop-place-preserved c =
    let parts = c.args.messages.now in
    let messages = map message_of parts in
    let i = c.loop-place.place in
    let part = c.index-messages-place.result in
    let lt : i < length messages = omega (arith, length-map parts message_of) in
    let is = placed parts i part c.loop-place-test.true c.index-messages-place.is in
    let room = c.fits.ensures.as_packed (take i messages) (message_of part) (omega (arith, length-take i messages)) c.loop-place.invariant.size (sym (ap (λ (p : Part). length p.body.now) c.index-messages-place.is)) in
    let within : AreWithin (take i messages ++ message_of part ∷ []) = room.0 c.if-not-fits.false in
    let more = front_more messages i (message_of part) lt is in
    let grown = c.container_sizes.ensures.grown (take i messages) (message_of part) in
    let P : List Message → Type 0 = AreWithin in
    record {
      some = omega arith;
      size = rw (more, grown, ← c.index-messages-place.is) (omega (arith, c.loop-place.invariant.size));
      packet = packet-within (take (i + 1) messages) (omega (arith, length-take (i + 1) messages)) (subst P (sym more) within);
      taken = c.loop-place.invariant.taken ∙ grouped-taken messages i (message_of part) lt is within;
    }
