use Rattle.std.proofs.Common.{◌∙◌, ap}
use Rattle.client_core.specs.Flushed.{setting_of}
use Rattle.client_core.specs.Own.{Own, own_in}
use Rattle.client_core.proofs.KeyLemmas.{flush_own, flush_stands}
use Rattle.client_core.proofs.OwnLemmas.{perm_known}
use Rattle.client_core.proofs.SealLemmas.{told_sealed}
use Rattle.client_core.proofs.open.OpenClient.flush.Goals as goal

pub flush-requires-clause-key : goal.flush-requires-clause-key
flush-requires-clause-key g c = rw (c.deref_mut.ensures.value, c.self.view_is) c.requires.keys.key

pub flush-requires-clause-perm : goal.flush-requires-clause-perm
flush-requires-clause-perm g c = rw (c.deref_mut.ensures.value, c.self.view_is) (perm_known (g.S.Seal.keys c.args.seal.now) c.args.self.now.rest.temporary c.requires.keys.perm)

pub invariant_of-self : goal.invariant_of-self
invariant_of-self g c =
    (rw (c.flush.ensures.learnt, c.deref_mut.ensures.value) c.self.invariant.0, flush_stands _ _ _ _ _ _ ((rw c.deref_mut.ensures.value at c.flush.ensures.flushes) c.self.invariant.1.client c.self.invariant.1.stands).leaves)

pub returns-clause-sealed : goal.returns-clause-sealed
returns-clause-sealed g c = told_sealed _ _ _ _ ((rw c.deref_mut.ensures.value at c.flush.ensures.flushes) c.self.invariant.1.client c.self.invariant.1.stands).told

pub returns-clause-keys : goal.returns-clause-keys
returns-clause-keys g c =
    ap (λ (own : Own). own.keys) (flush_own (setting_of g.D.Draw.step (g.S.Seal.keys c.args.seal.now)) c.args.now _ _ _ _ _ c.args.draw.now c.self.invariant.1.stands ((rw c.deref_mut.ensures.value at c.flush.ensures.flushes) c.self.invariant.1.client c.self.invariant.1.stands).leaves ∙ ap own_in c.self.view_is)

pub returns-clause-session : goal.returns-clause-session
returns-clause-session g c =
    ap (λ (own : Own). own.session) (flush_own (setting_of g.D.Draw.step (g.S.Seal.keys c.args.seal.now)) c.args.now _ _ _ _ _ c.args.draw.now c.self.invariant.1.stands ((rw c.deref_mut.ensures.value at c.flush.ensures.flushes) c.self.invariant.1.client c.self.invariant.1.stands).leaves ∙ ap own_in c.self.view_is)

pub returns-clause-count : goal.returns-clause-count
returns-clause-count g c =
    ap (λ (own : Own). own.count) (flush_own (setting_of g.D.Draw.step (g.S.Seal.keys c.args.seal.now)) c.args.now _ _ _ _ _ c.args.draw.now c.self.invariant.1.stands ((rw c.deref_mut.ensures.value at c.flush.ensures.flushes) c.self.invariant.1.client c.self.invariant.1.stands).leaves ∙ ap own_in c.self.view_is)
