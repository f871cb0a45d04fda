use Rattle.std.proofs.Common.{◌∙◌, ap, length}
use Rattle.client_core.specs.Keys.{keys_in}
use Rattle.client_core.specs.Kept.{Contents}
use Rattle.client_core.specs.Own.{Own}
use Rattle.client_core.proofs.OwnLemmas.{ends_own}
use Rattle.client_core.proofs.open.OpenClient.end.Goals as goal

pub returns-clause-keys : goal.returns-clause-keys
returns-clause-keys c = ap (λ (own : Own). own.keys) (ends_own _ _ c.self.invariant.1 (rw c.deref_mut.ensures.value at c.finish.ensures.stands)) ∙ ap keys_in c.self.view_is

pub returns-clause-session : goal.returns-clause-session
returns-clause-session c = ap (λ (own : Own). own.session) (ends_own _ _ c.self.invariant.1 (rw c.deref_mut.ensures.value at c.finish.ensures.stands)) ∙ ap (λ (contents : Contents). contents.rest.session) c.self.view_is

pub returns-clause-count : goal.returns-clause-count
returns-clause-count c =
    ap (λ (own : Own). own.count) (ends_own _ _ c.self.invariant.1 (rw c.deref_mut.ensures.value at c.finish.ensures.stands)) ∙ ap (λ (contents : Contents). length contents.calls.rows) c.self.view_is
