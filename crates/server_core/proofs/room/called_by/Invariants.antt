use Rattle.std.proofs.Common.{take}
use Rattle.server_session.specs.Unsaid.{IsCalled}
use Rattle.server_core.specs.SettlingAll.{calls_by}
use Rattle.server_core.proofs.room.called_by.Given as goal

-- what those that are passed may call for is counted
abbrev pub invariant-loop-due : goal.invariant-loop-due
invariant-loop-due l = IsCalled (calls_by (take l.due-index l.dues)) l.standing l.called
