use Rattle.std.proofs.Common.{◌≡◌, ◌≢◌, IsSome, Some, length}
use Rattle.server_node.specs.Record.{IsFewer}
use Rattle.server_node.specs.Served.{Begins}
use Rattle.server_node.specs.Trace.{IsOutside, Outside, Talk, rules_of}
use Rattle.server_node.specs.Turns.{TurnsSoFar}
use Rattle.server_node.proofs.Turning.{AreRead}
use Rattle.server_node.proofs.serve.take_turns.Given as goal

-- so many turns came, no call of the link failed, and a packet may still be answered
abbrev pub invariant-turns : goal.invariant-turns
invariant-turns g l = record {
  so_far : (outside : Outside) (talk : Talk _ _) → IsOutside g.K.S.Seal.lock (g.K.Desk.keys l.fn.desk) outside
      → Begins (g.K.Desk.StandsFor l.fn.desk) (g.K.Desk.drawn l.fn.desk) l.fn.service talk
      → TurnsSoFar (rules_of g.K.D.Draw.step g.V.Service.step outside) talk (record { told = g.L.Link.told l.fn.link; given = g.C.Clock.given l.fn.clock; left = l.fn.left }) l._count
      (record { desk = g.K.Desk.StandsFor l.desk; behind = g.K.Desk.Behind l.desk; drawn = g.K.Desk.drawn l.desk; service = l.service; heard = l.heard; line = l.line; told = g.L.Link.told l.link })
      (record { told = g.L.Link.told l.link; given = g.C.Clock.given l.clock; left = l.left });
  room : length l.into ≡ 65536;
  read : AreRead l._count (g.L.Link.told l.fn.link) (g.L.Link.told l.link);
  place : g.L.Link.standing l.link ≡ g.L.Link.standing l.fn.link;
  faults : g.L.Link.faults l.link ≡ g.L.Link.faults l.fn.link;
  tells : IsSome (g.L.Link.told l.fn.link) → g.L.Link.faults l.fn.link ≡ 0 → IsSome (g.L.Link.told l.link);
  fewer : IsFewer l.fn.left l.left;
  some : l.left ≢ Some 0;
  same_keys : g.K.Desk.keys l.desk ≡ g.K.Desk.keys l.fn.desk;
  same_binding : g.K.Desk.bound_to l.desk ≡ g.K.Desk.bound_to l.fn.desk;
  desk_counted : g.K.Desk.fault_count l.desk ≡ g.K.Desk.fault_count l.fn.desk;
}
