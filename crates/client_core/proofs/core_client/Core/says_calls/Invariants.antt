use Rattle.std.proofs.Common.{◌≡◌, ◌+◌, ◌≤◌, length}
use Rattle.client_rules.specs.Filling.{Filling}
use Rattle.client_core.specs.Draft.{Goes, HasNumbers, SoFar}
use Rattle.client_core.specs.Owed.{HasRoomFrom}
use Rattle.client_core.proofs.core_client.Core.says_calls.Given as goal

abbrev pub invariant-loop-k : goal.invariant-loop-k
invariant-loop-k g l = record {
  so_far : (filling : Filling (Rattle.client_core.specs.contracts.core_client.Core.says_calls.D-type g.row.D)) → Goes l.fn.self l.fn.draft filling → SoFar filling l.self l.draft l.place l.k l.count;
  few : l.place ≤ l.k;
  numbers : HasNumbers l.self l.draft;
  bytes : HasRoomFrom l.self l.place l.draft;
  same_room : length l.draft.rows + l.draft.room ≡ length l.fn.draft.rows + l.fn.draft.room;
  rest : record l.self.rest { counters = l.fn.self.rest.counters } ≡ l.fn.self.rest;
}
