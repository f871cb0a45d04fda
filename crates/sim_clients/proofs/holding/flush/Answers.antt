use Rattle.std.proofs.Common.{sym, ◌∙◌}
use Rattle.client_core.specs.Flushed.{setting_of}
use Rattle.client_core.specs.Holding.{kept_of}
use Rattle.sim_clients.proofs.FlushLemmas.{sent_so}
use Rattle.sim_clients.proofs.holding.flush.Goals as goal

pub returns-in-Packet-clause-sent : goal.returns-in-Packet-clause-sent
returns-in-Packet-clause-sent g c client stands =
    sent_so (setting_of g.D.Draw.step (g.S.Seal.keys c.args.seal.now)) g.S.Seal.lock (g.S.Seal.keys c.args.seal.now) c.args.now c.session-session.result c.in-Packet.bytes
    (kept_of c.args.holder.now) (kept_of c.flush.new.self) client c.args.draw.now c.flush.new.draw
    stands (c.in-Packet.ensures.flushes client stands (sym c.has_ended.ensures.kept ∙ c.if-has_ended.false)) c.in-Packet.ensures.session (c.session-session.ensures client stands)
