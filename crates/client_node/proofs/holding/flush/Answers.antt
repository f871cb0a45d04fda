use Rattle.client_core.specs.Flushed.{setting_of}
use Rattle.client_node.proofs.HolderLemmas.{flushed_so, holders_keep}
use Rattle.client_node.proofs.holding.flush.Goals as goal

pub returns-clause-flushes : goal.returns-clause-flushes
returns-clause-flushes g c = λ course stands.
    flushed_so (setting_of g.D.Draw.step (g.S.Seal.keys c.args.seal.now)) g.S.Seal.lock (g.S.Seal.keys c.args.seal.now) c.args.now course
    c.args.client.now c.flush.new.self c.args.draw.now c.flush.new.draw c.flush.result
    c.has_ended-state.ensures.state stands c.flush.ensures.phase c.flush.ensures.flushes c.flush.ensures.ended

pub returns-clause-keys : goal.returns-clause-keys
returns-clause-keys g c =
    holders_keep c.args.client.now c.flush.new.self c.has_ended-state.ensures.state c.flush.ensures.keys (λ ended. (c.flush.ensures.ended ended).1) (g.S.Seal.keys c.args.seal.now) c.requires.keys
