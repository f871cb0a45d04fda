use Rattle.std.proofs.Common.{◌<◌}
use Rattle.containers.specs.Container.{bytes_max}
use Rattle.client_core.proofs.FrontLemmas.{IsCounted}
use Rattle.client_core.proofs.core_client.Core.front_bytes.Given as goal

-- those that are passed are counted
abbrev pub invariant-loop-k : goal.invariant-loop-k
invariant-loop-k l = record {
  counted : IsCounted l.fn.self.calls.rows l.k l.left l.bytes;
  few : l.bytes < bytes_max;
  some : 0 < l.left;
}
