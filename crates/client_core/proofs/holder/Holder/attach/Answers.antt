use Rattle.std.proofs.Common.{sym, subst, ◌∙◌}
use Rattle.std.proofs.lemmas.Bool.{true≢false}
use Rattle.client_rules.specs.Asking.{attached}
use Rattle.client_core.specs.Holding.{kept_of, unless_ended}
use Rattle.client_core.specs.Kept.{Stands}
use Rattle.client_core.specs.declared.holder.Holder.{Holder}
use Rattle.client_core.proofs.HolderLemmas.{ended_does, living_does}
use Rattle.client_core.proofs.holder.Holder.attach.Goals as goal

pub returns-in-Opening-clause-stands : goal.returns-in-Opening-clause-stands
returns-in-Opening-clause-stands c = λ client stands.
    let mine = subst (λ (held : Holder). Stands (kept_of held) client) c.in-Opening.is stands in
    living_does attached c.in-Opening.client c.attach.new.self client mine (rw c.in-Opening.is at c.has_ended-state.ensures.state).1 (c.attach.ensures.stands client mine)

pub returns-in-Opening-clause-ended : goal.returns-in-Opening-clause-ended
returns-in-Opening-clause-ended c = λ ended. absurd (true≢false (sym (rw c.in-Opening.is at ended) ∙ (rw c.in-Opening.is at c.has_ended-state.ensures.state).1))

pub returns-in-Open-clause-stands : goal.returns-in-Open-clause-stands
returns-in-Open-clause-stands c = λ client stands.
    let mine = subst (λ (held : Holder). Stands (kept_of held) client) c.in-Open.is stands in
    living_does attached c.in-Open.client c.attach-in-Open.new.self client mine (rw c.in-Open.is at c.has_ended-state.ensures.state).1 (c.attach-in-Open.ensures.stands client mine)

pub returns-in-Open-clause-ended : goal.returns-in-Open-clause-ended
returns-in-Open-clause-ended c = λ ended. absurd (true≢false (sym (rw c.in-Open.is at ended) ∙ (rw c.in-Open.is at c.has_ended-state.ensures.state).1))

pub returns-in-Ended-clause-stands : goal.returns-in-Ended-clause-stands
returns-in-Ended-clause-stands c = λ client stands.
    let mine = subst (λ (held : Holder). Stands (kept_of held) client) c.in-Ended.is stands in
    subst (λ (held : Holder). Stands (kept_of held) (unless_ended attached client)) (sym c.in-Ended.is) (ended_does attached _ client mine (rw c.in-Ended.is at c.has_ended-state.ensures.state))
