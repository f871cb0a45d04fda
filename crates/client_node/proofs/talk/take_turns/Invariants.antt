use Rattle.std.proofs.Common.{◌≡◌, IsSome, false, length}
use Rattle.transport.specs.Starts.{Opening}
use Rattle.client_node.specs.Course.{Course, Reading, is_decided}
use Rattle.client_node.specs.Runs.{HasOpened, TurnsSoFar}
use Rattle.client_node.specs.Standing.{HasKeys, IsReading, StandsAs, count_of}
use Rattle.client_node.specs.Talks.{began, piece_bytes, rules_of}
use Rattle.client_node.specs.Writes.{seen}
use Rattle.client_node.proofs.talk.take_turns.Given as goal

-- no call of the link failed so far, and what was said and heard is so many turns
abbrev pub invariant-turns : goal.invariant-turns
invariant-turns g l = record {
  keys : HasKeys (g.S.Seal.keys l.seal) l.client;
  calls : count_of l.client ≡ count_of l.fn.client;
  room : length l.into ≡ piece_bytes;
  goes_on : IsSome (g.L.Link.told l.fn.link) → IsSome (g.L.Link.told l.link);
  faults : g.L.Link.faults l.link ≡ g.L.Link.faults l.fn.link;
  place : g.L.Link.standing l.link ≡ g.L.Link.standing l.fn.link;
  so_far : (course : Course g.row.D.Denot) (reading : Reading) (opening : Opening) → IsReading g.S.Seal.lock (g.S.Seal.keys l.seal) reading
      → StandsAs l.fn.client l.fn.draw course → is_decided course.client ≡ false → HasOpened l.fn.wire opening
      → TurnsSoFar (rules_of g.D.Draw.step g.S.Seal.lock (g.S.Seal.keys l.seal) reading) opening (began l.fn.first course) l._count l.now l.client l.draw l.wire
      (seen (g.L.Link.told l.link) (g.L.Link.faults l.link)) (g.C.Clock.given l.clock) (seen (g.L.Link.told l.fn.link) (g.L.Link.faults l.fn.link)) (g.C.Clock.given l.fn.clock);
}
