-- The count of the faults of what a desk keeps its events on, after one part and then another.
use Rattle.std.proofs.Common.{◌≡◌, ℕ, zero, suc, Option, Some, None, Err, refl, subst, sym}
use Rattle.server_core.specs.Desks.{CountsFault}
use Rattle.server_core.specs.declared.desk.DeskFault.{DeskFault}
use Rattle.server_core.specs.declared.desk.DeskFault.TheVariants as faults
use Rattle.server_node.specs.Doing.{IsFeedEnd, end_by, stop_by}
use Rattle.server_node.specs.Steps.{IsSendEnd}
use Rattle.server_node.specs.Writes.{CountsDesk}
use Rattle.server_node.specs.declared.conn.ConnEnd.{ConnEnd}
use Rattle.server_node.specs.declared.conn.ConnEnd.TheVariants as ends

-- a part that goes on leaves it as it is
pub desk_after : (end : Option ConnEnd) (first before after : ℕ) → before ≡ first → CountsDesk end before after → CountsDesk end first after
desk_after end first before after same counted = subst (λ (count : ℕ). CountsDesk end count after) same counted

-- what is sent leaves it too
pub desk_sends : (end : Option ConnEnd) (before after : ℕ) → after ≡ before → IsSendEnd end → CountsDesk end before after
desk_sends None before after same can = same
desk_sends (Some ends.LinkFault) before after same can = same
desk_sends (Some ends.Memory) before after same can = same
desk_sends (Some ends.Ended) before after same can = absurd can
desk_sends (Some (ends.Frame fault)) before after same can = absurd can
desk_sends (Some ends.Start) before after same can = absurd can
desk_sends (Some ends.TurnsSpent) before after same can = absurd can
desk_sends (Some ends.Stopped) before after same can = absurd can
desk_sends (Some (ends.Journal fault)) before after same can = absurd can

-- and so does a line that is fed
pub desk_feeds : (end : Option ConnEnd) (count : ℕ) → IsFeedEnd end → CountsDesk end count count
desk_feeds None count can = refl
desk_feeds (Some ends.Memory) count can = refl
desk_feeds (Some ends.Start) count can = refl
desk_feeds (Some ends.LinkFault) count can = absurd can
desk_feeds (Some (ends.Journal fault)) count can = absurd can
desk_feeds (Some (ends.Frame fault)) count can = absurd can
desk_feeds (Some ends.Stopped) count can = absurd can
desk_feeds (Some ends.Ended) count can = absurd can
desk_feeds (Some ends.TurnsSpent) count can = absurd can

fault_counts : (fault : DeskFault) (before after : ℕ) → CountsFault fault before after → CountsDesk (Some (end_by fault)) before after
fault_counts faults.Memory before after counted = counted
fault_counts faults.Closed before after counted = counted
fault_counts (faults.Full len) before after counted = counted
fault_counts faults.Disk before after counted = counted

-- a fault of the desk ends the connection
pub desk_fails : (fault : DeskFault) (end : ConnEnd) (before after : ℕ) → end ≡ end_by fault → CountsFault fault before after → CountsDesk (Some end) before after
desk_fails fault end before after is counted = subst (λ (end : ConnEnd). CountsDesk (Some end) before after) (sym is) (fault_counts fault before after counted)

-- the last packet that may be answered was
pub desk_stops : (left : Option ℕ) (end : ConnEnd) (before after : ℕ) → stop_by left ≡ Err end → after ≡ before → CountsDesk (Some end) before after
desk_stops None end before after is same = absurd cc
desk_stops (Some zero) end before after is same =
    let stopped : ends.Stopped ≡ end = cc in subst (λ (end : ConnEnd). CountsDesk (Some end) before after) stopped same
desk_stops (Some (suc left)) end before after is same = absurd cc
