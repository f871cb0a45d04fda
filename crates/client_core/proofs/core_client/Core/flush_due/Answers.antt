use Rattle.std.proofs.Common.{◌∙◌, ap}
use Rattle.client_rules.specs.Client.{at_moment}
use Rattle.client_rules.specs.Filling.{Filling, fills}
use Rattle.client_rules.specs.Flush.{has_any}
use Rattle.client_core.specs.Flushed.{setting_of}
use Rattle.client_core.proofs.FlushLemmas.{memory_left, rest_goes, rest_sent}
use Rattle.client_core.proofs.core_client.Core.flush_due.Goals as goal

pub returns-in-Err-clause-flushes : goal.returns-in-Err-clause-flushes
returns-in-Err-clause-flushes g c client stands alone call any few =
    memory_left _ _ _ c.args.now client c.args.draw.now _ (c.reserve_calls.ensures.stands client stands)

pub returns-in-Err-packet_room-clause-flushes : goal.returns-in-Err-packet_room-clause-flushes
returns-in-Err-packet_room-clause-flushes g c client stands alone call any few =
    memory_left _ _ _ c.args.now client c.args.draw.now _ (c.reserve_calls.ensures.stands client stands)

pub returns-in-Ok-packet_room-clause-flushes : goal.returns-in-Ok-packet_room-clause-flushes
returns-in-Ok-packet_room-clause-flushes g c client stands alone call any few =
    let setting = setting_of g.D.Draw.step (g.S.Seal.keys c.args.seal.now) in
    let is = rest_goes setting c.args.now client c.args.draw.now alone call in
    rest_sent setting _ _ c.args.now client c.args.draw.now (fills setting (at_moment c.args.now client) c.args.draw.now) _ _ _ is
    (ap (λ (own : Filling _). has_any own.messages) is ∙ any) few
    (c.send_fresh.ensures.sent client (c.reserve_calls.ensures.stands client stands) any)
