use Rattle.std.proofs.Common.{◌≡◌, ◌∙◌, false, ap, length, sym}
use Rattle.std.specs.Prelude.{◌==◌, nat_le}
use Rattle.std.specs.List.{list_any}
use Rattle.client_rules.specs.Client.{Client}
use Rattle.client_rules.specs.Learning.{learnt_max}
use Rattle.client_core.specs.Kept.{Stands}
use Rattle.client_core.proofs.TakingLemmas.{learns_new}
use Rattle.client_core.proofs.core_client.Core.learn.Goals as goal

pub returns-clause-stands : goal.returns-clause-stands
returns-clause-stands c client stands =
    let inside : Stands (Rattle.client_core.specs.contracts.core_client.Core.the_view c.self.inside) client = rw c.self.view_is stands in
    let other : list_any (λ learnt. learnt == c.args.unique) client.learnt ≡ false =
    sym (ap (λ (one : Client). list_any (λ learnt. learnt == c.args.unique) one.learnt) inside.rest) ∙ (sym c.has.ensures ∙ c.if-has.false) in
    let few : nat_le learnt_max (length client.learnt) ≡ false =
    sym (ap (λ (one : Client). nat_le learnt_max (length one.learnt)) inside.rest) ∙ (sym c.has_at_least.ensures ∙ c.if-has_at_least.false) in
    rw (sym (learns_new c.args.outer c.args.unique c.args.salt client other few)) (c.take_clock.ensures.stands _ (c.put_learnt.ensures.stands client stands))
