use Rattle.std.proofs.Common.{take}
use Rattle.cmd_relay.proofs.Pieces.{SoFar}
use Rattle.cmd_relay.proofs.passing.pass.Given as goal

-- the pieces so far are taken, and their lines written
abbrev pub invariant-loop-piece : goal.invariant-loop-piece
invariant-loop-piece l = SoFar l.fn.form l.secret (take l.piece-index l.pieces) l.relay l.text
