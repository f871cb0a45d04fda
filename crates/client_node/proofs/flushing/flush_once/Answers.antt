use Rattle.std.proofs.Common.{ℕ, List, true, false, sym, subst, ◌∙◌}
use Rattle.client_core.specs.Flushed.{setting_of}
use Rattle.client_core.specs.declared.flush.Flush.TheVariants as answers
use Rattle.frame_len.specs.Lengths.{IsWritten}
use Rattle.transport.specs.Forms.{is_padded}
use Rattle.client_node.specs.Flow.{OneFlush}
use Rattle.client_node.specs.Standing.{DecidedBy, FlushedAs}
use Rattle.client_node.specs.Writes.{seen}
use Rattle.transport.specs.Spelt.{framed}
use Rattle.client_node.proofs.Flowing.{ended_decided, flow_packet, flush_nothing, flush_spent}
use Rattle.client_node.proofs.Sendable.{told_sendable}
use Rattle.client_node.proofs.flushing.flush_once.Goals as goal

pub returns-in-Packet-clause-flow : goal.returns-in-Packet-clause-flow
returns-in-Packet-clause-flow g c =
    let setting = setting_of g.D.Draw.step (g.S.Seal.keys c.args.seal.now) in
    subst (λ result. OneFlush setting g.S.Seal.lock (g.S.Seal.keys c.args.seal.now) c.args.now c.args.client.now c.args.draw.now c.args.wire.now (seen (g.L.Link.told c.args.link.now) (g.L.Link.faults c.args.link.now)) result c.flush.new.client c.flush.new.draw c.send_packet.new.wire (seen (g.L.Link.told c.send_packet.new.link) (g.L.Link.faults c.send_packet.new.link)))
    (sym c.end_of.ensures)
    (flow_packet setting g.S.Seal.lock (g.S.Seal.keys c.args.seal.now) c.args.now c.args.client.now c.args.draw.now c.args.wire.now (seen (g.L.Link.told c.args.link.now) (g.L.Link.faults c.args.link.now))
    c.as_slice.result.now (framed c.args.wire.now c.as_slice.result.now) c.is_decided-is_decided.result c.send_packet.result
    c.flush.new.client c.flush.new.draw c.send_packet.new.wire (seen (g.L.Link.told c.send_packet.new.link) (g.L.Link.faults c.send_packet.new.link))
    (λ course stands. subst (λ (bytes : List ℕ). FlushedAs setting g.S.Seal.lock (g.S.Seal.keys c.args.seal.now) c.args.now course (answers.Packet bytes) c.flush.new.client c.flush.new.draw)
    (sym c.as_slice.ensures.value) (c.in-Packet.ensures.flushes course stands))
    c.is_decided-is_decided.ensures.stands c.send_packet.ensures.told c.send_packet.ensures.counted c.send_packet.ensures.tells c.send_packet.ensures.unchanged_on_memory c.send_packet.ensures.same_in.0)

pub returns-then-is_decided-clause-flow : goal.returns-then-is_decided-clause-flow
returns-then-is_decided-clause-flow g c =
    flush_nothing (setting_of g.D.Draw.step (g.S.Seal.keys c.args.seal.now)) g.S.Seal.lock (g.S.Seal.keys c.args.seal.now) c.args.now c.args.client.now c.args.draw.now c.args.wire.now (seen (g.L.Link.told c.args.link.now) (g.L.Link.faults c.args.link.now))
    true c.flush.new.client c.flush.new.draw c.in-Nothing.ensures.flushes (λ whole stands. sym c.if-is_decided.true ∙ c.is_decided.ensures.stands whole stands)

pub returns-else-is_decided-clause-flow : goal.returns-else-is_decided-clause-flow
returns-else-is_decided-clause-flow g c =
    flush_nothing (setting_of g.D.Draw.step (g.S.Seal.keys c.args.seal.now)) g.S.Seal.lock (g.S.Seal.keys c.args.seal.now) c.args.now c.args.client.now c.args.draw.now c.args.wire.now (seen (g.L.Link.told c.args.link.now) (g.L.Link.faults c.args.link.now))
    false c.flush.new.client c.flush.new.draw c.in-Nothing.ensures.flushes (λ whole stands. sym c.if-is_decided.false ∙ c.is_decided.ensures.stands whole stands)

pub returns-in-Spent-clause-flow : goal.returns-in-Spent-clause-flow
returns-in-Spent-clause-flow g c =
    flush_spent (setting_of g.D.Draw.step (g.S.Seal.keys c.args.seal.now)) g.S.Seal.lock (g.S.Seal.keys c.args.seal.now) c.args.now c.args.client.now c.args.draw.now c.args.wire.now (seen (g.L.Link.told c.args.link.now) (g.L.Link.faults c.args.link.now))
    c.flush.new.client c.flush.new.draw c.in-Spent.ensures.flushes

pub returns-in-Packet-clause-decided : goal.returns-in-Packet-clause-decided
returns-in-Packet-clause-decided g c =
    subst (λ result. DecidedBy result c.flush.new.client) (sym c.end_of.ensures)
    (ended_decided c.is_decided-is_decided.result c.send_packet.result (g.L.Link.faults c.args.link.now) (g.L.Link.faults c.send_packet.new.link) c.flush.new.client
    c.send_packet.ensures.counted c.is_decided-is_decided.ensures.told)

pub send_packet-requires : goal.send_packet-requires
send_packet-requires g c =
    record {
      sent = subst (λ (bytes : List ℕ). IsWritten (is_padded c.args.wire.now.form) bytes) (sym c.as_slice.ensures.value)
          (told_sendable g.S.Seal.lock (g.S.Seal.keys c.args.seal.now) c.in-Packet.packet (is_padded c.args.wire.now.form) c.opens_what_it_sealed.ensures c.in-Packet.ensures.sealed);
    }
