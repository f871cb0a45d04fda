use Rattle.std.proofs.Common.{◌≤◌, drop, length, ◌-◌}
use Rattle.secret_relay.specs.Going.{HasRoom}
use Rattle.secret_relay.proofs.Looks.{SoFar}
use Rattle.secret_relay.proofs.passing.pass_on.Given as goal

-- what was taken is frames of packets that were written, and there is room for those that may stand behind it
abbrev pub invariant-frames : goal.invariant-frames
invariant-frames l = record {
  within : l.taken ≤ length l.text;
  room : HasRoom l.from (drop l.taken l.text) l.into.room;
  so_far : SoFar l.from l.to l.text (drop l.taken l.text) l.fn.into.bytes l.into.bytes;
}

abbrev pub decreases-frames : goal.decreases-frames
decreases-frames l = length l.text - l.taken
