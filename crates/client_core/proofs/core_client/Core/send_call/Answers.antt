use Rattle.std.proofs.Common.{◌≡◌, sym, ℕ, subst, ap}
use Rattle.client_rules.specs.Client.{Client, at_moment, with_call}
use Rattle.client_rules.specs.Flush.{gone_again, remembers_lone}
use Rattle.client_core.specs.Kept.{Stands}
use Rattle.client_core.proofs.core_client.Core.send_call.Goals as goal

pub returns-clause-stands : goal.returns-clause-stands
returns-clause-stands g c client stands =
    let now = at_moment c.args.now client in
    let inside : Stands (Rattle.client_core.specs.contracts.core_client.Core.the_view c.self.inside) now = rw c.self.view_is (c.at.ensures.stands client stands) in
    let salt : c.self.inside.salt ≡ client.salt = ap (λ (rest : Client). rest.salt) inside.rest in
    let number = c.args.lone.message.number in
    rw (sym c.requires.inner) (subst (λ (under : ℕ). Stands c.remember_lone.new.self (remembers_lone number c.args.lone.inner (with_call c.args.call (gone_again under) now))) salt
    (c.remember_lone.ensures.stands (with_call c.args.call (gone_again c.self.inside.salt) now) (record {
      rest = inside.rest;
      calls = c.go_again.ensures.stands now.table inside.calls;
    })))

pub invariant_of-self : goal.invariant_of-self
invariant_of-self g c = (c.go_again.ensures.sound _ c.self.invariant.0, c.self.invariant.1, c.self.invariant.2)
