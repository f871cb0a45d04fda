use Rattle.std.proofs.Common.{◌≡◌, ◌∙◌, ◌++◌, ◌∷◌, [], None, ap, sym}
use Rattle.std.specs.Prelude.{option_map}
use Rattle.client_rules.specs.Client.{Client, Needed, bound_so, is_open}
use Rattle.client_core.specs.Kept.{Stands}
use Rattle.client_core.proofs.core_client.Core.put_learnt.Goals as goal

pub invariant_of-self : goal.invariant_of-self
invariant_of-self c = (
  rw (c.forget_packets.ensures.kept) (c.settle_all.ensures.sound _ c.self.invariant.0),
  c.set_binding.ensures.can_bind tt,
  (c.self.invariant.2.0, λ is. rw (sym c.self.view_is) at c.requires.sessions),
)

pub returns-clause-stands : goal.returns-clause-stands
returns-clause-stands c client stands =
    let inside : Stands (Rattle.client_core.specs.contracts.core_client.Core.the_view c.self.inside) client = rw c.self.view_is stands in
    let first : is_open client ≡ c.is_open-is_first.result = sym (c.is_open-is_first.ensures.open ∙ ap is_open stands.rest) in
    record {
      rest = rw (c.push.ensures, c.set_binding.ensures.bound) (ap (λ (own : Client). record own { temporary = option_map (bound_so Needed) own.temporary; learnt = own.learnt ++ c.args.unique ∷ []; salt = c.args.salt; asked = None }) inside.rest);
      calls = rw first (c.forget_packets.ensures.stands _ (c.settle_all.ensures.stands client.table inside.calls));
    }
