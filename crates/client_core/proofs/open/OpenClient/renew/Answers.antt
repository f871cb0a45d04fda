use Rattle.std.proofs.Common.{◌∙◌, ap, length}
use Rattle.client_rules.specs.Events.{renewed}
use Rattle.client_core.specs.Keys.{keys_in}
use Rattle.client_core.specs.Kept.{Contents}
use Rattle.client_core.specs.Own.{Own}
use Rattle.client_core.proofs.OwnLemmas.{keeps_one, renews_own}
use Rattle.client_core.proofs.open.OpenClient.renew.Goals as goal

pub invariant_of-result : goal.invariant_of-result
invariant_of-result g c = (c.renew.ensures.learnt, keeps_one _ _ (renewed _) c.self.invariant.1 (rw c.deref_mut.ensures.value at c.renew.ensures.stands))

pub returns-clause-keys : goal.returns-clause-keys
returns-clause-keys g c = ap (λ (own : Own). own.keys) (renews_own _ _ _ c.self.invariant.1 (rw c.deref_mut.ensures.value at c.renew.ensures.stands)) ∙ ap keys_in c.self.view_is

pub returns-clause-session : goal.returns-clause-session
returns-clause-session g c = ap (λ (own : Own). own.session) (renews_own _ _ _ c.self.invariant.1 (rw c.deref_mut.ensures.value at c.renew.ensures.stands))

pub returns-clause-count : goal.returns-clause-count
returns-clause-count g c =
    ap (λ (own : Own). own.count) (renews_own _ _ _ c.self.invariant.1 (rw c.deref_mut.ensures.value at c.renew.ensures.stands)) ∙ ap (λ (contents : Contents). length contents.calls.rows) c.self.view_is
