-- What a link is after one part and then another, and how many packets are left.
use Rattle.std.proofs.Common.{◌≡◌, ◌≢◌, ℕ, zero, suc, List, ◌++◌, Option, Some, None, IfSome, IsSomeAnd, Ok, Err, refl, sym, ap, subst, ◌∙◌, append_assoc, arith}
use Rattle.mt_edge.specs.Links.{Standing, Told}
use Rattle.server_core.specs.declared.desk.DeskFault.{DeskFault}
use Rattle.server_node.specs.Doing.{IsEventEnd, IsFeedEnd, IsPacketEnd, IsPacketsEnd, IsPieceEnd, stop_by}
use Rattle.server_node.specs.Record.{Answered, IsFewer, Stops, counted_down}
use Rattle.server_node.specs.Writes.{CountsBy, Goes, GoesOn, OnlyWrites}
use Rattle.server_node.specs.declared.conn.ConnEnd.{ConnEnd}
use Rattle.server_node.specs.declared.conn.ConnEnd.TheVariants as ends
use Rattle.server_node.specs.Steps.{HearsAlike}
use Rattle.server_node.specs.declared.line.Line.{Line}
use Rattle.server_node.specs.declared.line.Line.TheVariants.{Raw, Framed}
use Rattle.server_node.proofs.Writing.{only_wrote, wrote_nothing}

writes_both : (first middle last : Option Told)
    → IfSome middle (λ after. IsSomeAnd first (λ before. OnlyWrites before after))
    → IfSome last (λ after. IsSomeAnd middle (λ before. OnlyWrites before after))
    → IfSome last (λ after. IsSomeAnd first (λ before. OnlyWrites before after))
writes_both first middle None before after = tt
writes_both first None (Some last) before after = absurd after
writes_both None (Some middle) (Some last) before after = absurd before
writes_both (Some first) (Some middle) (Some last) before after = record {
  bytes = before.bytes ++ after.bytes;
  wrote = record {
    written = after.wrote.written ∙ ap (λ bytes. bytes ++ after.bytes) before.wrote.written ∙ append_assoc first.written before.bytes after.bytes;
    came = after.wrote.came ∙ before.wrote.came;
    left = after.wrote.left ∙ before.wrote.left;
    reads = after.wrote.reads ∙ before.wrote.reads;
  };
}

goes_on_both : (end : Option ConnEnd) (first middle last : Option Told) → GoesOn None first middle → GoesOn end middle last → GoesOn end first last
goes_on_both None first middle last before after = λ is. after (before is)
goes_on_both (Some end) first middle last before after = tt

pub goes_both : (end : Option ConnEnd) (standing : Standing) (faults : ℕ) (told : Option Told) (standing_between : Standing) (faults_between : ℕ) (told_between : Option Told) (standing_then : Standing) (faults_then : ℕ) (told_then : Option Told)
    → Goes None standing faults told standing_between faults_between told_between
    → Goes end standing_between faults_between told_between standing_then faults_then told_then
    → Goes end standing faults told standing_then faults_then told_then
goes_both end standing faults told standing_between faults_between told_between standing_then faults_then told_then before after = record {
  same_standing = after.same_standing ∙ before.same_standing;
  counted = subst (λ (count : ℕ). CountsBy end count faults_then) before.counted after.counted;
  writes = writes_both told told_between told_then before.writes after.writes;
  first_fault = λ is none. after.first_fault (before.first_fault is none) (before.counted ∙ none);
  goes_on = goes_on_both end told told_between told_then before.goes_on after.goes_on;
}

-- nothing was written
pub goes_none : (standing : Standing) (faults : ℕ) (told : Option Told) → Goes None standing faults told standing faults told
goes_none standing faults told = record { same_standing = refl; counted = refl; writes = only_wrote _ told told (wrote_nothing told); first_fault = λ is none. is; goes_on = λ is. is }

counts : (end : ConnEnd) (faults : ℕ) → (end ≢ ends.LinkFault) → CountsBy (Some end) faults faults
counts ends.LinkFault faults other = absurd (other refl)
counts ends.Ended faults other = refl
counts (ends.Frame fault) faults other = refl
counts ends.Start faults other = refl
counts ends.TurnsSpent faults other = refl
counts ends.Stopped faults other = refl
counts (ends.Journal fault) faults other = refl
counts ends.Memory faults other = refl

-- and the connection ended by no fault of the link
pub goes_same : (end : ConnEnd) (standing : Standing) (faults : ℕ) (told : Option Told) → (end ≢ ends.LinkFault) → Goes (Some end) standing faults told standing faults told
goes_same end standing faults told other = record { same_standing = refl; counted = counts end faults other; writes = only_wrote _ told told (wrote_nothing told); first_fault = λ is none. is; goes_on = tt }

-- ---- ends

pub event_is_packet_end : (MayAnswer : DeskFault → Type 0) (end : Option ConnEnd) → IsEventEnd MayAnswer end → IsPacketEnd MayAnswer end
event_is_packet_end MayAnswer None can = tt
event_is_packet_end MayAnswer (Some ends.LinkFault) can = tt
event_is_packet_end MayAnswer (Some ends.Memory) can = tt
event_is_packet_end MayAnswer (Some (ends.Journal fault)) can = can
event_is_packet_end MayAnswer (Some (ends.Frame fault)) can = tt
event_is_packet_end MayAnswer (Some ends.Ended) can = absurd can
event_is_packet_end MayAnswer (Some ends.Start) can = absurd can
event_is_packet_end MayAnswer (Some ends.TurnsSpent) can = absurd can
event_is_packet_end MayAnswer (Some ends.Stopped) can = absurd can

pub packet_is_packets_end : (MayAnswer : DeskFault → Type 0) (end : Option ConnEnd) → IsPacketEnd MayAnswer end → IsPacketsEnd MayAnswer end
packet_is_packets_end MayAnswer None can = tt
packet_is_packets_end MayAnswer (Some ends.LinkFault) can = tt
packet_is_packets_end MayAnswer (Some ends.Memory) can = tt
packet_is_packets_end MayAnswer (Some (ends.Journal fault)) can = can
packet_is_packets_end MayAnswer (Some (ends.Frame fault)) can = tt
packet_is_packets_end MayAnswer (Some ends.Ended) can = absurd can
packet_is_packets_end MayAnswer (Some ends.Start) can = absurd can
packet_is_packets_end MayAnswer (Some ends.TurnsSpent) can = absurd can
packet_is_packets_end MayAnswer (Some ends.Stopped) can = absurd can

pub packets_is_piece_end : (MayAnswer : DeskFault → Type 0) (end : Option ConnEnd) → IsPacketsEnd MayAnswer end → IsPieceEnd MayAnswer end
packets_is_piece_end MayAnswer None can = tt
packets_is_piece_end MayAnswer (Some ends.LinkFault) can = tt
packets_is_piece_end MayAnswer (Some ends.Memory) can = tt
packets_is_piece_end MayAnswer (Some (ends.Journal fault)) can = can
packets_is_piece_end MayAnswer (Some (ends.Frame fault)) can = tt
packets_is_piece_end MayAnswer (Some ends.Stopped) can = tt
packets_is_piece_end MayAnswer (Some ends.Ended) can = absurd can
packets_is_piece_end MayAnswer (Some ends.Start) can = absurd can
packets_is_piece_end MayAnswer (Some ends.TurnsSpent) can = absurd can

-- ---- packets that are left

pub same_fewer : (left : Option ℕ) → IsFewer left left
same_fewer None = refl
same_fewer (Some left) = omega arith

pub fewer_both : (first middle last : Option ℕ) → IsFewer first middle → IsFewer middle last → IsFewer first last
fewer_both None middle last before after = subst (λ some. IsFewer some last) before after
fewer_both (Some first) None last before after = absurd before
fewer_both (Some first) (Some middle) None before after = absurd after
fewer_both (Some first) (Some middle) (Some last) before after = omega (arith, before, after)

counted_fewer : (left : Option ℕ) → IsFewer left (counted_down left)
counted_fewer None = refl
counted_fewer (Some left) = omega arith

-- one packet more was answered
pub one_fewer : (first before after : Option ℕ) → after ≡ counted_down before → IsFewer first before → IsFewer first after
one_fewer first before after counted fewer = fewer_both first before after fewer (subst (λ some. IsFewer before some) (sym counted) (counted_fewer before))

-- a packet ended the connection otherwise
pub still_left : (MayAnswer : DeskFault → Type 0) (end : Option ConnEnd) (left : Option ℕ) → IsPacketEnd MayAnswer end → left ≢ Some 0 → Stops end left
still_left MayAnswer None left can some = some
still_left MayAnswer (Some ends.LinkFault) left can some = some
still_left MayAnswer (Some ends.Memory) left can some = some
still_left MayAnswer (Some (ends.Journal fault)) left can some = some
still_left MayAnswer (Some (ends.Frame fault)) left can some = some
still_left MayAnswer (Some ends.Ended) left can some = absurd can
still_left MayAnswer (Some ends.Start) left can some = absurd can
still_left MayAnswer (Some ends.TurnsSpent) left can some = absurd can
still_left MayAnswer (Some ends.Stopped) left can some = absurd can

-- whether it was the last one
pub goes_on_left : (left : Option ℕ) → stop_by left ≡ Ok tt → left ≢ Some 0
goes_on_left None is = λ same. absurd cc
goes_on_left (Some zero) is = absurd cc
goes_on_left (Some (suc left)) is = λ same. absurd cc

pub stops_left : (left : Option ℕ) (end : ConnEnd) → stop_by left ≡ Err end → (end ≡ ends.Stopped) × (left ≡ Some 0)
stops_left None end is = absurd cc
stops_left (Some zero) end is = (cc, refl)
stops_left (Some (suc left)) end is = absurd cc

pub none_answered : (left : Option ℕ) → left ≢ Some 0 → Answered None left left
none_answered left some = record { fewer = same_fewer left; stops = some }

pub event_is_piece_end : (MayAnswer : DeskFault → Type 0) (end : Option ConnEnd) → IsEventEnd MayAnswer end → IsPieceEnd MayAnswer end
event_is_piece_end MayAnswer end can = packets_is_piece_end MayAnswer end (packet_is_packets_end MayAnswer end (event_is_packet_end MayAnswer end can))

pub feed_is_piece_end : (MayAnswer : DeskFault → Type 0) (end : Option ConnEnd) → IsFeedEnd end → IsPieceEnd MayAnswer end
feed_is_piece_end MayAnswer None can = tt
feed_is_piece_end MayAnswer (Some ends.Memory) can = tt
feed_is_piece_end MayAnswer (Some ends.Start) can = tt
feed_is_piece_end MayAnswer (Some ends.LinkFault) can = absurd can
feed_is_piece_end MayAnswer (Some (ends.Journal fault)) can = absurd can
feed_is_piece_end MayAnswer (Some (ends.Frame fault)) can = absurd can
feed_is_piece_end MayAnswer (Some ends.Stopped) can = absurd can
feed_is_piece_end MayAnswer (Some ends.Ended) can = absurd can
feed_is_piece_end MayAnswer (Some ends.TurnsSpent) can = absurd can

no_fault : (end : ConnEnd) → IsFeedEnd (Some end) → end ≢ ends.LinkFault
no_fault ends.LinkFault can same = can
no_fault ends.Memory can same = absurd cc
no_fault ends.Start can same = absurd cc
no_fault (ends.Journal fault) can same = absurd can
no_fault (ends.Frame fault) can same = absurd can
no_fault ends.Stopped can same = absurd can
no_fault ends.Ended can same = absurd can
no_fault ends.TurnsSpent can same = absurd can

-- the line ended the connection
pub feed_goes : (end : ConnEnd) (standing : Standing) (faults : ℕ) (told : Option Told) → IsFeedEnd (Some end) → Goes (Some end) standing faults told standing faults told
feed_goes end standing faults told can = goes_same end standing faults told (no_fault end can)

pub feed_answered : (end : ConnEnd) (left : Option ℕ) → left ≢ Some 0 → IsFeedEnd (Some end) → Answered (Some end) left left
feed_answered ends.Memory left some can = record { fewer = same_fewer left; stops = some }
feed_answered ends.Start left some can = record { fewer = same_fewer left; stops = some }
feed_answered ends.LinkFault left some can = absurd can
feed_answered (ends.Journal fault) left some can = absurd can
feed_answered (ends.Frame fault) left some can = absurd can
feed_answered ends.Stopped left some can = absurd can
feed_answered ends.Ended left some can = absurd can
feed_answered ends.TurnsSpent left some can = absurd can

-- packets were answered, and an event ended the connection then, if it did
pub answered_then : (MayAnswer : DeskFault → Type 0) (end : Option ConnEnd) (before after : Option ℕ) → IsEventEnd MayAnswer end → Answered None before after → Answered end before after
answered_then MayAnswer end before after can answered = record { fewer = answered.fewer; stops = still_left MayAnswer end after (event_is_packet_end MayAnswer end can) answered.stops }

-- ---- a line that hears as it did

alike_raw : (wire : List ℕ) (middle last : Line) → middle ≡ Raw wire → HearsAlike middle last → HearsAlike (Raw wire) last
alike_raw wire middle last same after = subst (λ some. HearsAlike some last) same after

pub alike_both : (first middle last : Line) → HearsAlike first middle → HearsAlike middle last → HearsAlike first last
alike_both (Raw wire) middle last before after = alike_raw wire middle last before after
alike_both (Framed wire) (Raw other) last before after = absurd before
alike_both (Framed wire) (Framed other) (Raw third) before after = absurd after
alike_both (Framed wire) (Framed other) (Framed third) before after = (after.0 ∙ before.0, after.1 ∙ before.1, after.2 ∙ before.2)
