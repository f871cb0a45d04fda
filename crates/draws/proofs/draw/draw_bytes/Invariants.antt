use Rattle.std.proofs.Common.{◌≡◌, ◌*◌, ◌++◌, length, take, drop}
use Rattle.std.specs.Int.{w64, to_le_bytes}
use Rattle.std.specs.List.{flat_map}
use Rattle.draws.specs.Draws.{draw_after, next_words}
use Rattle.draws.proofs.draw.draw_bytes.Given as goal

-- the front has the bytes of the words so far, and what follows is as it was
abbrev pub invariant-loop-k : goal.invariant-loop-k
invariant-loop-k g l = record {
  drawn : l.draw ≡ draw_after g.D.Draw.step l.k l.initial.draw;
  front : l.into
      ≡ take (length l.into) (flat_map (to_le_bytes w64) (next_words g.D.Draw.step l.k l.initial.draw))
      ++ drop (8 * l.k) l.initial.into;
}
