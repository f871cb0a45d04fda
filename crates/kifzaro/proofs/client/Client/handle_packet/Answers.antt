use Rattle.std.proofs.Common.{◌≡◌, ◌∙◌, Option, max, List, ap, sym, subst}
use Rattle.std.specs.Prelude.{IfErr}
use Rattle.auth_keys.specs.declared.ring.RingKey.{RingKey}
use Rattle.client_core.specs.Holding.{kept_of}
use Rattle.client_core.specs.Kept.{Stands}
use Rattle.client_core.specs.declared.holder.Holder.{Holder}
use Rattle.client_rules.specs.Client.{at_moment}
use Rattle.client_rules.specs.Taking.{take}
use Rattle.envelope.specs.Lock.{mt_lock}
use Rattle.envelope.specs.Opening.{Opens}
use Rattle.envelope.specs.declared.parts.Dir.TheVariants.{Down}
use Rattle.kifzaro.specs.Clients.{Comes, Kept, TellsHeard, held}
use Rattle.kifzaro.specs.declared.error.Error.TheVariants as errors
use Rattle.kifzaro.proofs.ClientLemmas.{held_now}
use Rattle.kifzaro.proofs.client.Client.handle_packet.Goals as goal

pub returns-clause-told : goal.returns-clause-told
returns-clause-told c = λ client is living.
    let was : c.in-Some.holder ≡ c.args.self.now.holder =
    held_now c.args.self.now c.self.inside.holder c.self.inside.seal c.self.inside.draw c.self.inside.waiting c.in-Some.holder c.self.view_is (sym c.take.ensures.value ∙ c.in-Some.is) in
    let stands = subst (λ (holder : Holder). Stands (kept_of holder) client) (sym was) is in
    subst (λ (ring : List RingKey). TellsHeard mt_lock ring (max client.now c.args.now) c.args.packet.now c.hear-holder.result.1) (ap (λ (kept : Kept). kept.ring) c.self.view_is)
    (c.hear-holder.ensures.told client stands living)

pub returns-clause-opened : goal.returns-clause-opened
returns-clause-opened c = λ client envelope is living opens.
    let was : c.in-Some.holder ≡ c.args.self.now.holder =
    held_now c.args.self.now c.self.inside.holder c.self.inside.seal c.self.inside.draw c.self.inside.waiting c.in-Some.holder c.self.view_is (sym c.take.ensures.value ∙ c.in-Some.is) in
    let stands = subst (λ (holder : Holder). Stands (kept_of holder) client) (sym was) is in
    let opened = subst (λ (ring : List RingKey). Opens mt_lock ring (max client.now c.args.now) Down c.args.packet.now envelope) (sym (ap (λ (kept : Kept). kept.ring) c.self.view_is)) opens in
    subst (λ (place : Option Holder). Comes client (take c.args.now envelope client) (held place) c.hear-holder.result.1) (sym c.put.ensures)
    (c.hear-holder.ensures.opened client envelope stands living opened)

pub returns-clause-other : goal.returns-clause-other
returns-clause-other c = λ client is living none.
    let was : c.in-Some.holder ≡ c.args.self.now.holder =
    held_now c.args.self.now c.self.inside.holder c.self.inside.seal c.self.inside.draw c.self.inside.waiting c.in-Some.holder c.self.view_is (sym c.take.ensures.value ∙ c.in-Some.is) in
    let stands = subst (λ (holder : Holder). Stands (kept_of holder) client) (sym was) is in
    subst (λ (place : Option Holder). Comes client (at_moment c.args.now client) (held place) c.hear-holder.result.1) (sym c.put.ensures)
    (c.hear-holder.ensures.other client stands living
    (λ envelope opens. none envelope
    (subst (λ (ring : List RingKey). Opens mt_lock ring (max client.now c.args.now) Down c.args.packet.now envelope) (ap (λ (kept : Kept). kept.ring) c.self.view_is) opens)))

pub returns-clause-stays : goal.returns-clause-stays
returns-clause-stays c = λ client is.
    let was : c.in-Some.holder ≡ c.args.self.now.holder =
    held_now c.args.self.now c.self.inside.holder c.self.inside.seal c.self.inside.draw c.self.inside.waiting c.in-Some.holder c.self.view_is (sym c.take.ensures.value ∙ c.in-Some.is) in
    let stands = subst (λ (holder : Holder). Stands (kept_of holder) client) (sym was) is in
    subst (λ (place : Option Holder). IfErr c.hear-holder.result.1 (λ error. error ≡ errors.Memory → Stands (kept_of (held place)) client)) (sym c.put.ensures)
    (c.hear-holder.ensures.stays client stands)
