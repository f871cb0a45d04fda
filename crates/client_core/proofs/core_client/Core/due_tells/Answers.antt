use Rattle.std.proofs.Common.{subst}
use Rattle.std.specs.Prelude.{IfSome, IsSome}
use Rattle.auth_keys.specs.Rings.{entry_of}
use Rattle.client_rules.specs.Client.{Client, at_moment}
use Rattle.client_core.specs.Flushed.{setting_of}
use Rattle.client_core.proofs.BoundLemmas.{asked_short}
use Rattle.client_core.proofs.DueLemmas.{can_at, due_is, quiet_is}
use Rattle.client_core.proofs.core_client.Core.due_tells.Goals as goal

pub returns-clause-due : goal.returns-clause-due
returns-clause-due g c client now draw stands =
    let keys = g.S.Seal.keys c.args.seal.now in
    let perm : IfSome client.temporary (λ temporary. IsSome (entry_of temporary.perm keys)) =
    subst (λ (rest : Client). IfSome rest.temporary (λ temporary. IsSome (entry_of temporary.perm keys))) stands.rest c.requires.perm in
    due_is c.sizes_of_spellings.ensures (setting_of g.D.Draw.step keys) (at_moment now client) draw (can_at now client (c.can_say.ensures client stands))
    (asked_short g.D.Draw.step keys (at_moment now client) draw c.sizes_of_bindings.ensures client.temporary perm)

pub returns-clause-quiet : goal.returns-clause-quiet
returns-clause-quiet g c client now draw stands quiet =
    let keys = g.S.Seal.keys c.args.seal.now in
    let perm : IfSome client.temporary (λ temporary. IsSome (entry_of temporary.perm keys)) =
    subst (λ (rest : Client). IfSome rest.temporary (λ temporary. IsSome (entry_of temporary.perm keys))) stands.rest c.requires.perm in
    quiet_is c.sizes_of_spellings.ensures (setting_of g.D.Draw.step keys) (at_moment now client) draw (can_at now client (c.can_say.ensures client stands))
    (asked_short g.D.Draw.step keys (at_moment now client) draw c.sizes_of_bindings.ensures client.temporary perm) quiet
