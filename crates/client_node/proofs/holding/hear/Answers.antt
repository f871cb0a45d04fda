use Rattle.std.proofs.Common.{None}
use Rattle.client_node.proofs.HolderLemmas.{heard_by}
use Rattle.client_node.proofs.holding.hear.Goals as goal

pub returns-in-Ok-clause-hears : goal.returns-in-Ok-clause-hears
returns-in-Ok-clause-hears g c = λ whole opened stands opens.
    rw c.in-Ok.is at (heard_by g.S.Seal.lock (g.S.Seal.keys c.args.seal.now) c.args.now c.args.packet.now c.args.client c.on_packet-client.result.0 c.on_packet-client.result.1 None whole opened
    c.has_ended-state.ensures.state stands c.on_packet-client.ensures.opened c.on_packet-client.ensures.other c.on_packet-client.ensures.ended opens)

pub returns-in-Err-clause-hears : goal.returns-in-Err-clause-hears
returns-in-Err-clause-hears g c = λ whole opened stands opens.
    rw c.in-Err.is at (heard_by g.S.Seal.lock (g.S.Seal.keys c.args.seal.now) c.args.now c.args.packet.now c.args.client c.on_packet-client.result.0 c.on_packet-client.result.1 None whole opened
    c.has_ended-state.ensures.state stands c.on_packet-client.ensures.opened c.on_packet-client.ensures.other c.on_packet-client.ensures.ended opens)
