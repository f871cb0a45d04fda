use Rattle.std.proofs.Common.{◌≡◌, if◌then◌else◌, max, false, sym, subst, ◌∙◌}
use Rattle.envelope.specs.declared.parts.Dir.TheVariants.{Down}
use Rattle.client_rules.specs.Client.{Client}
use Rattle.client_rules.specs.Events.{takes}
use Rattle.client_core.specs.Holding.{Became, kept_of}
use Rattle.client_core.specs.Kept.{Stands}
use Rattle.sim_clients.proofs.ReadingLemmas.{by_reading}
use Rattle.sim_clients.proofs.holding.take.Goals as goal

pub returns-in-Ok-clause-taken : goal.returns-in-Ok-clause-taken
returns-in-Ok-clause-taken g c opens client reading stands =
    let living : client.has_ended ≡ false = sym (c.has_ended.ensures.ended client stands) ∙ c.if-has_ended.false in
    let kept = sym c.has_ended.ensures.kept ∙ c.if-has_ended.false in
    let became = by_reading (λ (after : Client). Became c.args.holder client after c.on_packet-holder.result.0 c.on_packet-holder.result.1) g.S.Seal.lock (g.S.Seal.keys c.args.seal.now) opens (max client.now c.args.now) c.args.now c.args.bytes.now client reading
    (λ envelope opening. c.on_packet-holder.ensures.opened client envelope stands kept opening) (λ none. c.on_packet-holder.ensures.other client stands kept none) in
    subst (λ b. Stands (kept_of c.on_packet-holder.result.0) (if b then client else takes c.args.now (opens (max client.now c.args.now) Down c.args.bytes.now) client)) (sym living) (rw c.in-Ok.is at became).1

pub returns-in-Err-clause-taken : goal.returns-in-Err-clause-taken
returns-in-Err-clause-taken g c opens client reading stands =
    let kept = sym c.has_ended.ensures.kept ∙ c.if-has_ended.false in
    let became = by_reading (λ (after : Client). Became c.args.holder client after c.on_packet-holder.result.0 c.on_packet-holder.result.1) g.S.Seal.lock (g.S.Seal.keys c.args.seal.now) opens (max client.now c.args.now) c.args.now c.args.bytes.now client reading
    (λ envelope opening. c.on_packet-holder.ensures.opened client envelope stands kept opening) (λ none. c.on_packet-holder.ensures.other client stands kept none) in
    (rw c.in-Err.is at became).1
