use Rattle.std.proofs.Common.{◌∙◌, Some, ap, sym}
use Rattle.sim_server.specs.Made.{packet_told}
use Rattle.sim_server.specs.declared.bag.Packet.{Packet}
use Rattle.sim_report.proofs.Counting.{bytes_at, never_none}
use Rattle.sim_report.proofs.bag.PacketsWire.packet_at.Goals as goal

pub returns-in-Some-Up : goal.returns-in-Some-Up
returns-in-Some-Up c =
    bytes_at c.args.self.now.bag.now.made c.args.place _ (ap (λ (one : Packet). Some (packet_told one)) (sym c.in-Some-Up.field-0-is) ∙ c.in-Some-Up.ensures)

pub returns-in-Some-Down : goal.returns-in-Some-Down
returns-in-Some-Down c =
    bytes_at c.args.self.now.bag.now.made c.args.place _ (ap (λ (one : Packet). Some (packet_told one)) (sym c.in-Some-Down.field-0-is) ∙ c.in-Some-Down.ensures)

pub returns-in-None : goal.returns-in-None
returns-in-None c = never_none c.args.self.now.bag.now.made c.args.place _ c.in-None.ensures c.requires
