use Rattle.std.proofs.Common.{ap, sym}
use Rattle.client_core.specs.Kept.{Stands}
use Rattle.client_core.proofs.MarkingLemmas.{told_of_lifted}
use Rattle.client_core.proofs.core_client.Core.hear_states.Goals as goal

pub invariant_of-self : goal.invariant_of-self
invariant_of-self c = (c.mark_asked_states.ensures.sound _ c.self.invariant.0, c.self.invariant.1, c.self.invariant.2)

pub returns-clause-stands : goal.returns-clause-stands
returns-clause-stands c client stands =
    let inside : Stands (Rattle.client_core.specs.contracts.core_client.Core.the_view c.self.inside) client = rw c.self.view_is stands in
    rw (told_of_lifted client.asked c.args.request c.args.info.now client) (record {
      rest = inside.rest;
      calls = rw (sym (ap (λ rest. rest.asked) inside.rest)) (rw (c.as_slice.ensures.value) at (c.mark_asked_states.ensures.stands client.table inside.calls));
    })
