use Rattle.std.proofs.Common.{◌≡◌, map, take}
use Rattle.id_window.specs.Marks.{Marks}
use Rattle.id_window.specs.History.{History}
use Rattle.inbox.specs.Inbox.{Stands}
use Rattle.inbox.specs.States.{state_byte}
use Rattle.inbox.proofs.inbox.Inbox.states.Given as goal

abbrev pub invariant-loop-id : goal.invariant-loop-id
invariant-loop-id l = (history : History) (marks : Marks) → Stands l.self history marks → l.states.items ≡ map (state_byte history marks) (take l.id-index l.id-items)
