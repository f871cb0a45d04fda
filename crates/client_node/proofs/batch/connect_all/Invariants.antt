use Rattle.std.proofs.Common.{◌≡◌, ◌<◌, ◌≤◌, ◌+◌, IsSome, false, length}
use Rattle.client_node.specs.Course.{Course, Reading, is_decided}
use Rattle.client_node.specs.Runs.{LostSoFar}
use Rattle.client_node.specs.Standing.{HasKeys, IsReading, StandsAs, count_of}
use Rattle.client_node.specs.Talks.{piece_bytes, rules_of}
use Rattle.client_node.proofs.Connecting.{SomeLost}
use Rattle.client_node.proofs.Counting.{SomeCounted}
use Rattle.client_node.proofs.batch.connect_all.Given as goal

-- so many connections were lost
abbrev pub invariant-lost : goal.invariant-lost
invariant-lost g l = record {
  keys : HasKeys (g.S.Seal.keys l.seal) l.client;
  calls : count_of l.client ≡ count_of l.fn.client;
  room : length l.into ≡ piece_bytes;
  lost : SomeLost l.plan.port l._count (g.N.Net.calls l.fn.net) (g.N.Net.calls l.net);
  tells : IsSome (g.N.Net.calls l.fn.net) → g.N.Net.faults l.fn.net ≡ 0 → g.N.Net.faults l.net ≤ 1 → IsSome (g.N.Net.calls l.net);
  still : IsSome (g.N.Net.calls l.fn.net) → l.plan.retries < g.N.Net.room l.fn.net → IsSome (g.N.Net.calls l.net);
  left : g.N.Net.room l.fn.net ≤ g.N.Net.room l.net + l._count;
  counted : SomeCounted (g.N.Net.calls l.fn.net) (g.N.Net.calls l.net) (g.N.Net.faults l.fn.net) (g.N.Net.faults l.net);
  so_far : (course : Course g.row.D.Denot) (reading : Reading) → IsReading g.S.Seal.lock (g.S.Seal.keys l.seal) reading → StandsAs l.fn.client l.fn.draw course → is_decided course.client ≡ false
      → LostSoFar (rules_of g.D.Draw.step g.S.Seal.lock (g.S.Seal.keys l.seal) reading) l.plan course l._count (g.N.Net.calls l.fn.net) (g.C.Clock.given l.fn.clock) l.client l.draw (g.N.Net.calls l.net) (g.C.Clock.given l.clock);
}
