use Rattle.std.proofs.Common.{sym, subst}
use Rattle.client_rules.specs.Client.{at_moment}
use Rattle.client_rules.specs.Taking.{take}
use Rattle.client_core.specs.Holding.{Became, kept_of}
use Rattle.client_core.specs.Kept.{Stands}
use Rattle.client_core.specs.declared.holder.Holder.{Holder}
use Rattle.client_core.proofs.holder.Holder.on_packet.Goals as goal

pub returns-in-Opening-clause-opened : goal.returns-in-Opening-clause-opened
returns-in-Opening-clause-opened g c = λ client envelope stands living opens.
    subst (λ (held : Holder). Became held client (take c.args.now envelope client) c.opening_takes.result.0 c.opening_takes.result.1) (sym c.in-Opening.is)
    (c.opening_takes.ensures.opened client envelope (subst (λ (held : Holder). Stands (kept_of held) client) c.in-Opening.is stands) opens)

pub returns-in-Opening-clause-other : goal.returns-in-Opening-clause-other
returns-in-Opening-clause-other g c = λ client stands living none.
    subst (λ (held : Holder). Became held client (at_moment c.args.now client) c.opening_takes.result.0 c.opening_takes.result.1) (sym c.in-Opening.is)
    (c.opening_takes.ensures.other client (subst (λ (held : Holder). Stands (kept_of held) client) c.in-Opening.is stands) none)

pub returns-in-Open-clause-opened : goal.returns-in-Open-clause-opened
returns-in-Open-clause-opened g c = λ client envelope stands living opens.
    subst (λ (held : Holder). Became held client (take c.args.now envelope client) c.open_takes.result.0 c.open_takes.result.1) (sym c.in-Open.is)
    (c.open_takes.ensures.opened client envelope (subst (λ (held : Holder). Stands (kept_of held) client) c.in-Open.is stands) opens)

pub returns-in-Open-clause-other : goal.returns-in-Open-clause-other
returns-in-Open-clause-other g c = λ client stands living none.
    subst (λ (held : Holder). Became held client (at_moment c.args.now client) c.open_takes.result.0 c.open_takes.result.1) (sym c.in-Open.is)
    (c.open_takes.ensures.other client (subst (λ (held : Holder). Stands (kept_of held) client) c.in-Open.is stands) none)

pub returns-in-Opening-clause-keys : goal.returns-in-Opening-clause-keys
returns-in-Opening-clause-keys g c = rw c.in-Opening.is c.opening_takes.ensures.keys

pub returns-in-Opening-clause-count : goal.returns-in-Opening-clause-count
returns-in-Opening-clause-count g c = rw c.in-Opening.is c.opening_takes.ensures.count

pub returns-in-Open-clause-keys : goal.returns-in-Open-clause-keys
returns-in-Open-clause-keys g c = rw c.in-Open.is c.open_takes.ensures.keys

pub returns-in-Open-clause-count : goal.returns-in-Open-clause-count
returns-in-Open-clause-count g c = rw c.in-Open.is c.open_takes.ensures.count
