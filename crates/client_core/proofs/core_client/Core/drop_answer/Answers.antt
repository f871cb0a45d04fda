use Rattle.std.proofs.Common.{◌∙◌, refl}
use Rattle.client_core.specs.Kept.{Stands}
use Rattle.client_core.proofs.CallLemmas.{dropped_stands}
use Rattle.client_core.proofs.core_client.Core.drop_answer.Goals as goal

pub returns-clause-stands : goal.returns-clause-stands
returns-clause-stands c client stands =
    let inside : Stands (Rattle.client_core.specs.contracts.core_client.Core.the_view c.self.inside) client = rw c.self.view_is stands in
    dropped_stands _ _ client c.args.call c.flags-flags.result inside refl
    (c.set_flags.ensures.stands client.table inside.calls)
    (c.can_drop.ensures.told client.table inside.calls ∙ c.if-not-can_drop.false)
    (c.flags-flags.ensures.flags client.table inside.calls)

pub invariant_of-self : goal.invariant_of-self
invariant_of-self c =
    (rw (c.set_flags.ensures.kept) (c.calls_stay_sound.ensures.flagged _ c.args.call _ _ c.self.invariant.0), c.self.invariant.1, c.self.invariant.2)
