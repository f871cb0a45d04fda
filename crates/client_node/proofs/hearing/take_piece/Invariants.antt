use Rattle.std.proofs.Common.{◌≡◌, ℕ, List, ◌++◌, length, Option, All}
use Rattle.cipher_modes.specs.CounterMode.{CtrState}
use Rattle.transport.specs.Wires.{Hears}
use Rattle.client_node.specs.Course.{Course, Reading}
use Rattle.client_node.specs.Standing.{IsReading, KeepsKeys, StandsAs, count_of}
use Rattle.client_node.specs.Took.{IsNoError, NoneDecides, takes_all}
use Rattle.client_node.proofs.hearing.take_piece.Given as goal

-- so many packets were heard, and none decided each call
abbrev pub invariant-packets : goal.invariant-packets
invariant-packets g l = record {
  heard : (heard : List (List ℕ)) × (length heard ≡ l._count) × All IsNoError heard
      × ((reading : Reading) (course : Course g.row.D.Denot) → IsReading g.S.Seal.lock (g.S.Seal.keys l.seal) reading → StandsAs l.fn.client l.fn.draw course
      → NoneDecides g.D.Draw.step reading l.now course heard × StandsAs l.client l.draw (takes_all g.D.Draw.step reading l.now course heard))
      × ((from : Option CtrState) (packets : List (List ℕ)) (bytes : List ℕ) → Hears l.initial.wire from packets bytes → Hears l.wire from (packets ++ heard) bytes);
  keys : KeepsKeys l.fn.client l.client;
  calls : count_of l.client ≡ count_of l.fn.client;
  same_out : (l.wire.form ≡ l.fn.wire.form) × (l.wire.writing ≡ l.fn.wire.writing) × (l.wire.number ≡ l.fn.wire.number);
}
