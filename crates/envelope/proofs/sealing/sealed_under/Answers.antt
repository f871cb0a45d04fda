use Rattle.std.proofs.Common.{◌≡◌, ◌∙◌, ◌≤◌, ◌+◌, ◌-◌, ◌++◌, rules, length, drop, sym, ap, refl, arith, length-append, length-drop}
use Rattle.std.proofs.lemmas.List.{take_at}
use Rattle.draws.specs.Draws.{next_bytes}
use Rattle.envelope.specs.Packet.{envelope_with, least_padding, packet_of, to_seal}
use Rattle.envelope.proofs.sealing.sealed_under.Goals as goal

pub returns-clause-spelled : goal.returns-clause-spelled
returns-clause-spelled g c =
    let text = c.args.text.bytes in
    let padding = next_bytes g.D.Draw.step (least_padding (length (to_seal text))) c.args.draw.now in
    let whole : c.deref_mut.result.now ≡ text ++ padding = search (rules) in
    let count : c.body_bytes-body.result ≡ length (to_seal text) = c.body_bytes-body.ensures.value in
    let is : c.seal_behind.new.packet ≡ packet_of g.C.Cipher.lock c.args.key.now c.args.dir (envelope_with c.args.head.now (to_seal text)) padding =
    c.seal_behind.ensures.spelled text padding whole c.requires.front count in
    let long : length c.seal_behind.new.packet ≡ c.into_vec-packet.result.len = omega (arith, c.seal_behind.ensures.count, c.deref_mut.ensures.len) in
    c.from.ensures ∙ (take_at c.seal_behind.new.packet (drop (length c.seal_behind.new.packet) c.into_vec-packet.result.items) c.into_vec-packet.result.len long ∙ is)

pub returns-clause-lawful : goal.returns-clause-lawful
returns-clause-lawful g c = c.lawful.ensures (to_seal c.args.text.bytes) c.body_bytes-body.ensures.bytes c.requires.words
