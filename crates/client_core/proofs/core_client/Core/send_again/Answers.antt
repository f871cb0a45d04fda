use Rattle.client_core.specs.Kept.{Stands}
use Rattle.client_core.proofs.MarkingLemmas.{numbers_lifted}
use Rattle.client_core.proofs.core_client.Core.send_again.Goals as goal

pub invariant_of-self : goal.invariant_of-self
invariant_of-self c = (c.mark_numbers.ensures.sound _ c.self.invariant.0, c.self.invariant.1, c.self.invariant.2)

pub returns-clause-stands : goal.returns-clause-stands
returns-clause-stands c client stands =
    let inside : Stands (Rattle.client_core.specs.contracts.core_client.Core.the_view c.self.inside) client = rw c.self.view_is stands in
    rw (numbers_lifted c.args.numbers.now client) (record { rest = inside.rest; calls = rw (c.ids.ensures.value) at (c.mark_numbers.ensures.stands client.table inside.calls) })
