use Rattle.std.proofs.Common.{◌≡◌, ◌≤◌, false}
use Rattle.std.specs.List.{list_any}
use Rattle.client_rules.specs.Filling.{Filling}
use Rattle.client_core.specs.Draft.{Goes, nothing_yet, queue}
use Rattle.client_core.specs.Due.{Quiet, goes_at}
use Rattle.client_core.proofs.core_client.Core.gives_up.Given as goal

abbrev pub invariant-loop-k : goal.invariant-loop-k
invariant-loop-k g l = record {
  quiet : (filling : Filling (Rattle.client_core.specs.contracts.core_client.Core.gives_up.D-type g.row.D)) → Goes l.fn.self nothing_yet filling → list_any (goes_at filling.client) (queue filling) ≡ false
      → Quiet filling l.self l.place l.k l.count;
  few : l.place ≤ l.k;
  rest : l.self.rest ≡ l.fn.self.rest;
}
