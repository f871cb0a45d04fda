use Rattle.std.proofs.Common.{◌∙◌, ap}
use Rattle.client_rules.specs.Asking.{dropped}
use Rattle.client_core.specs.Own.{Own, own_in}
use Rattle.client_core.proofs.OwnLemmas.{dropped_own, keeps_one, keeps_own}
use Rattle.client_core.proofs.open.OpenClient.drop_answer.Goals as goal

pub invariant_of-self : goal.invariant_of-self
invariant_of-self c = (rw (c.drop_answer.ensures.rest, c.deref_mut.ensures.value) c.self.invariant.0, keeps_one _ _ (dropped c.args.call) c.self.invariant.1 (rw c.deref_mut.ensures.value at c.drop_answer.ensures.stands))

pub returns-clause-keys : goal.returns-clause-keys
returns-clause-keys c =
    ap (λ (own : Own). own.keys) (keeps_own _ _ (dropped c.args.call) c.self.invariant.1 (rw c.deref_mut.ensures.value at c.drop_answer.ensures.stands) (dropped_own c.args.call) ∙ ap own_in c.self.view_is)

pub returns-clause-session : goal.returns-clause-session
returns-clause-session c =
    ap (λ (own : Own). own.session) (keeps_own _ _ (dropped c.args.call) c.self.invariant.1 (rw c.deref_mut.ensures.value at c.drop_answer.ensures.stands) (dropped_own c.args.call) ∙ ap own_in c.self.view_is)

pub returns-clause-count : goal.returns-clause-count
returns-clause-count c =
    ap (λ (own : Own). own.count) (keeps_own _ _ (dropped c.args.call) c.self.invariant.1 (rw c.deref_mut.ensures.value at c.drop_answer.ensures.stands) (dropped_own c.args.call) ∙ ap own_in c.self.view_is)
