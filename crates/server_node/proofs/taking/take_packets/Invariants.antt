use Rattle.std.proofs.Common.{◌≡◌, ◌≢◌, Some, None}
use Rattle.server_node.specs.Coming.{TookSome}
use Rattle.server_node.specs.Record.{IsFewer}
use Rattle.server_node.specs.Writes.{Goes}
use Rattle.server_node.specs.declared.line.Line.TheVariants.{Framed}
use Rattle.server_node.proofs.taking.take_packets.Given as goal

-- so many packets came, and one more may be answered
abbrev pub invariant-packets : goal.invariant-packets
invariant-packets g l = record {
  took : TookSome {V = g.row.V.Denot} g.K.D.Draw.step g.V.Service.step g.K.S.Seal.lock (g.K.Desk.keys l.fn.desk)
      (λ service. record { desk = g.K.Desk.StandsFor l.fn.desk; behind = g.K.Desk.Behind l.fn.desk; drawn = g.K.Desk.drawn l.fn.desk; service = service; heard = l.fn.heard; line = Framed l.fn.wire; told = g.L.Link.told l.fn.link })
      l.now l._count l.fn.wire l.wire l.fn.left l.left
      (λ service. record { desk = g.K.Desk.StandsFor l.desk; behind = g.K.Desk.Behind l.desk; drawn = g.K.Desk.drawn l.desk; service = service; heard = l.heard; line = Framed l.wire; told = g.L.Link.told l.link });
  goes : Goes None (g.L.Link.standing l.fn.link) (g.L.Link.faults l.fn.link) (g.L.Link.told l.fn.link) (g.L.Link.standing l.link) (g.L.Link.faults l.link) (g.L.Link.told l.link);
  fewer : IsFewer l.fn.left l.left;
  some : l.left ≢ Some 0;
  same_keys : g.K.Desk.keys l.desk ≡ g.K.Desk.keys l.fn.desk;
  same_binding : g.K.Desk.bound_to l.desk ≡ g.K.Desk.bound_to l.fn.desk;
  desk_counted : g.K.Desk.fault_count l.desk ≡ g.K.Desk.fault_count l.fn.desk;
}
