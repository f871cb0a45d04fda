use Rattle.std.proofs.Common.{◌≡◌, ◌∙◌, false, sym, subst}
use Rattle.std.specs.Prelude.{Result}
use Rattle.client_core.specs.Holding.{kept_of}
use Rattle.client_rules.specs.Taking.{take}
use Rattle.kifzaro.specs.Clients.{Comes}
use Rattle.kifzaro.specs.declared.error.Error.{Error}
use Rattle.kifzaro.proofs.HearingLemmas.{comes_told}
use Rattle.kifzaro.proofs.holding.hear.Goals as goal

pub returns-clause-opened : goal.returns-clause-opened
returns-clause-opened g c = λ client envelope stands living opens.
    let after = take c.args.now envelope client in
    let lives : (kept_of c.args.holder).rest.has_ended ≡ false = sym c.has_ended-state.ensures.kept ∙ (c.has_ended-state.ensures.ended client stands ∙ living) in
    subst (λ (one : Result Unit Error). Comes client after c.on_packet-holder.result.0 one) (sym c.told.ensures)
    (comes_told client after c.args.holder c.on_packet-holder.result.0 c.on_packet-holder.result.1 (c.on_packet-holder.ensures.opened client envelope stands lives opens))
