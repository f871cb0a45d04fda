use Rattle.std.proofs.Common.{◌≡◌, IsSome}
use Rattle.client_core.specs.Flushed.{setting_of}
use Rattle.client_node.specs.Flow.{SoFar}
use Rattle.client_node.specs.Standing.{HasKeys, count_of}
use Rattle.client_node.specs.Writes.{seen}
use Rattle.client_node.proofs.flushing.flush_all.Given as goal

-- so many packets were sent, and a flush may find more
abbrev pub invariant-flushes : goal.invariant-flushes
invariant-flushes g l = record {
  so_far : SoFar (setting_of g.D.Draw.step (g.S.Seal.keys l.seal)) g.S.Seal.lock (g.S.Seal.keys l.seal) l.now l.fn.client l.fn.draw l.fn.wire (seen (g.L.Link.told l.fn.link) (g.L.Link.faults l.fn.link)) l._count l.client l.draw l.wire (seen (g.L.Link.told l.link) (g.L.Link.faults l.link));
  keys : HasKeys (g.S.Seal.keys l.seal) l.client;
  calls : count_of l.client ≡ count_of l.fn.client;
  goes_on : IsSome (g.L.Link.told l.fn.link) → IsSome (g.L.Link.told l.link);
  faults : g.L.Link.faults l.link ≡ g.L.Link.faults l.fn.link;
  place : g.L.Link.standing l.link ≡ g.L.Link.standing l.fn.link;
  same_in : (l.wire.form ≡ l.fn.wire.form) × (l.wire.held ≡ l.fn.wire.held) × (l.wire.reading ≡ l.fn.wire.reading);
}
