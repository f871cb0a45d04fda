use Rattle.std.proofs.Common.{◌≡◌, ◌≤◌, ◌*◌, take}
use Rattle.std.specs.Prelude.{sum_by}
use Rattle.server_core.specs.SettlingAll.{due_most}
use Rattle.server_core.proofs.room.most_bytes.Given as goal

-- those that are passed take so much
abbrev pub invariant-loop-due : goal.invariant-loop-due
invariant-loop-due l = (l.bytes ≡ sum_by due_most (take l.due-index l.dues)) × (l.bytes ≤ 8208 * l.due-index)
