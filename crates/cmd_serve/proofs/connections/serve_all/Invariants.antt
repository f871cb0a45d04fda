use Rattle.std.proofs.Common.{◌≡◌, ◌≢◌, IsSome, Some}
use Rattle.server_node.specs.Trace.{IsOutside, Outside, rules_of}
use Rattle.cmd_serve.specs.Connections.{Between}
use Rattle.cmd_serve.specs.Inner.{ServedSoFar, StandsAt}
use Rattle.cmd_serve.proofs.connections.serve_all.Given as goal

-- so many connections were served, each was followed by the next, and no attempt to take one failed
abbrev pub invariant-connections : goal.invariant-connections
invariant-connections g l = record {
  so_far : (outside : Outside) (first : Between _ _) → IsOutside g.K.S.Seal.lock (g.K.Desk.keys l.fn.desk) outside
      → StandsAt (g.K.Desk.StandsFor l.fn.desk) (g.K.Desk.drawn l.fn.desk) l.fn.service (g.C.Clock.given l.fn.clock) l.fn.left first
      → ServedSoFar (rules_of g.K.D.Draw.step g.V.Service.step outside) first l._served (g.N.Net.calls l.fn.net)
      (record { desk = g.K.Desk.StandsFor l.desk; behind = g.K.Desk.Behind l.desk; drawn = g.K.Desk.drawn l.desk; service = l.service; given = g.C.Clock.given l.clock; left = l.left; calls = g.N.Net.calls l.net });
  faults : g.N.Net.faults l.net ≡ g.N.Net.faults l.fn.net;
  tells : IsSome (g.N.Net.calls l.fn.net) → g.N.Net.faults l.fn.net ≡ 0 → IsSome (g.N.Net.calls l.net);
  some : l.left ≢ Some 0;
  desk_count : g.K.Desk.fault_count l.desk ≡ g.K.Desk.fault_count l.fn.desk;
  same_keys : g.K.Desk.keys l.desk ≡ g.K.Desk.keys l.fn.desk;
  same_binding : g.K.Desk.bound_to l.desk ≡ g.K.Desk.bound_to l.fn.desk;
}
