use Rattle.std.proofs.Common.{◌≡◌, ◌∙◌, ap, refl, sym, Some}
use Rattle.std.specs.Prelude.{option_map}
use Rattle.client_calls.specs.Marks.{table_inner}
use Rattle.client_core.specs.Kept.{Stands}
use Rattle.client_core.proofs.CallLemmas.{value}
use Rattle.client_core.proofs.NoticeLemmas.{packet_stands}
use Rattle.client_core.proofs.core_client.Core.notice_packet.Goals as goal

pub invariant_of-self : goal.invariant_of-self
invariant_of-self c = (c.mark_inner.ensures.sound _ c.self.invariant.0, c.mark_binding.ensures.can_bind c.self.invariant.1, c.self.invariant.2)

pub returns-clause-packet : goal.returns-clause-packet
returns-clause-packet c client stands numbers told =
    let inside : Stands (Rattle.client_core.specs.contracts.core_client.Core.the_view c.self.inside) client = rw c.self.view_is stands in
    let here : Some c.in-Some.inner.now ≡ Some numbers = sym (ap (option_map (λ inner. inner.now)) c.in-Some.is) ∙ (c.inner.ensures.inner client.table inside.calls ∙ told) in
    let same : c.ids.result.now ≡ numbers = c.ids.ensures.value ∙ ap (value numbers) here in (
      refl,
      packet_stands _ _ client numbers inside (rw (c.mark_binding.ensures.marked, same) refl)
          (rw (sym (ap (λ packet. table_inner packet client.table) told)) (c.mark_inner.ensures.stands client.table inside.calls)),
    )
