use Rattle.std.proofs.Common.{◌≡◌, ◌-◌, ◌*◌, ◌≤◌}
use Rattle.client_rules.specs.Filling.{Filling}
use Rattle.client_core.specs.Draft.{DropsSoFar, Goes, HasNumbers, HasRoomFor, TakesUp}
use Rattle.client_core.specs.Owed.{SameQueue, one_bytes}
use Rattle.client_core.proofs.core_client.Core.says_drops.Given as goal

abbrev pub invariant-loop-k : goal.invariant-loop-k
invariant-loop-k g l = record {
  so_far : (filling : Filling (Rattle.client_core.specs.contracts.core_client.Core.says_drops.D-type g.row.D)) → Goes l.fn.self l.fn.draft filling → DropsSoFar filling l.self l.draft l.k l.count;
  numbers : HasNumbers l.self l.draft;
  rest : record l.self.rest { counters = l.fn.self.rest.counters } ≡ l.fn.self.rest;
  room : l.self.calls.room ≡ l.fn.self.calls.room;
  upto : l.k ≤ l.count;
  bytes : HasRoomFor (one_bytes * (l.count - l.k)) l.draft;
  takes : TakesUp (one_bytes * l.k) 0 l.fn.draft l.draft;
  queued : SameQueue l.fn.self.calls.rows l.self.calls.rows;
}
