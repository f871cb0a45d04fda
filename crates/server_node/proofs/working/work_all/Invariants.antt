use Rattle.std.proofs.Common.{◌≡◌, ◌+◌, ◌≤◌, None, length}
use Rattle.server_node.specs.Doing.{Did, Stands}
use Rattle.server_node.specs.Steps.{HearsAlike}
use Rattle.server_node.specs.Trace.{IsOutside, Outside, Talk, after_acts, rules_of, work_acts}
use Rattle.server_node.specs.Writes.{Goes}
use Rattle.server_node.proofs.working.work_all.Given as goal

-- a tick came, and so many runs
abbrev pub invariant-runs : goal.invariant-runs
invariant-runs g l = record {
  few : (outside : Outside) (talk : Talk _ _) → IsOutside g.K.S.Seal.lock (g.K.Desk.keys l.fn.desk) outside
      → Stands (record { desk = g.K.Desk.StandsFor l.fn.desk; behind = g.K.Desk.Behind l.fn.desk; drawn = g.K.Desk.drawn l.fn.desk; service = l.fn.service; heard = l.heard; line = l.fn.line; told = g.L.Link.told l.fn.link }) talk
      → length (after_acts (rules_of g.K.D.Draw.step g.V.Service.step outside) talk (work_acts l.now l._count)).server.jobs + l._count ≤ l.most;
  did : Did g.K.D.Draw.step g.V.Service.step g.K.S.Seal.lock (g.K.Desk.keys l.fn.desk)
      (record { desk = g.K.Desk.StandsFor l.fn.desk; behind = g.K.Desk.Behind l.fn.desk; drawn = g.K.Desk.drawn l.fn.desk; service = l.fn.service; heard = l.heard; line = l.fn.line; told = g.L.Link.told l.fn.link })
      (λ rules talk. work_acts l.now l._count) None
      (record { desk = g.K.Desk.StandsFor l.desk; behind = g.K.Desk.Behind l.desk; drawn = g.K.Desk.drawn l.desk; service = l.service; heard = l.heard; line = l.line; told = g.L.Link.told l.link });
  goes : Goes None (g.L.Link.standing l.fn.link) (g.L.Link.faults l.fn.link) (g.L.Link.told l.fn.link) (g.L.Link.standing l.link) (g.L.Link.faults l.link) (g.L.Link.told l.link);
  same_in : HearsAlike l.fn.line l.line;
  same_keys : g.K.Desk.keys l.desk ≡ g.K.Desk.keys l.fn.desk;
  same_binding : g.K.Desk.bound_to l.desk ≡ g.K.Desk.bound_to l.fn.desk;
  desk_counted : g.K.Desk.fault_count l.desk ≡ g.K.Desk.fault_count l.fn.desk;
}
