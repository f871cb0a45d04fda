use Rattle.std.proofs.Common.{◌≡◌, ◌∙◌, ap, sym}
use Rattle.std.specs.Prelude.{not, true}
use Rattle.std.specs.List.{list_any}
use Rattle.client_rules.specs.Client.{Client}
use Rattle.client_core.proofs.GoesLemmas.{told}
use Rattle.client_core.proofs.TakingLemmas.{open_by_length}
use Rattle.client_core.proofs.core_client.Core.is_open.Goals as goal

pub returns-clause-open : goal.returns-clause-open
returns-clause-open c =
    let open_is : not c.is_empty.result ≡ list_any (λ unique. true) c.self.inside.learnt.numbers = rw (sym c.ids.ensures.value) (open_by_length _ _ c.is_empty.ensures) in
    rw (sym c.self.view_is) open_is

pub returns-clause-client : goal.returns-clause-client
returns-clause-client c client stands =
    let open_is : not c.is_empty.result ≡ list_any (λ unique. true) c.self.inside.learnt.numbers = rw (sym c.ids.ensures.value) (open_by_length _ _ c.is_empty.ensures) in
    open_is ∙ ap (list_any (λ unique. true)) (told _ _ client (λ (rest : Client). rest.learnt) c.self.view_is stands)
