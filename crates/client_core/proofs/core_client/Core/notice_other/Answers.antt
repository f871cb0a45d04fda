use Rattle.std.proofs.Common.{◌≡◌, ◌∙◌, false, ap, sym}
use Rattle.call_table.specs.Table.{inner_of}
use Rattle.client_rules.specs.Client.{Client}
use Rattle.client_rules.specs.Taking.{has_asked}
use Rattle.client_core.specs.Kept.{Stands}
use Rattle.client_core.proofs.NoticeLemmas.{noticed_packet, was_packet}
use Rattle.client_core.proofs.core_client.Core.notice_other.Goals as goal

pub returns-then-notice_packet-clause-stands : goal.returns-then-notice_packet-clause-stands
returns-then-notice_packet-clause-stands c client stands own =
    let inside : Stands (Rattle.client_core.specs.contracts.core_client.Core.the_view c.self.inside) client = rw c.self.view_is stands in
    let asked : has_asked c.args.about client.temporary ≡ false = sym (ap (λ (one : Client). has_asked c.args.about one.temporary) inside.rest) ∙ (sym c.has_asked.ensures ∙ c.if-has_asked.false) in
    let packet = was_packet _ client (inner_of c.args.about client.table.packets) c.notice_packet.result c.if-notice_packet.true (c.notice_packet.ensures.packet client stands) (c.notice_packet.ensures.none client stands) in
    rw (sym (noticed_packet c.args.outer c.args.about c.args.code c.args.salt client packet.0 own asked packet.1.0)) (c.take_over-then-notice_packet.ensures.stands _ packet.1.1)
