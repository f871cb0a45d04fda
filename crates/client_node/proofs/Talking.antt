-- How a connection's count of faults and its decided calls follow from those of its parts.
use Rattle.std.proofs.Common.{◌≡◌, ℕ, Result, Ok, Err, inl, inr, subst}
use Rattle.mt_edge.specs.Faults.{one_more}
use Rattle.client_core.specs.declared.holder.Holder.{Holder}
use Rattle.client_node.specs.Ends.{CountsLink, CountsTurn}
use Rattle.client_node.specs.Flow.{CountsEnd}
use Rattle.client_node.specs.Standing.{DecidedIn}
use Rattle.client_node.specs.Writes.{CountsBy}
use Rattle.client_node.specs.declared.end.End.{End}
use Rattle.client_node.specs.declared.end.End.TheVariants as ends

-- no call of the link failed
pub same_link : (end : End) (before after : ℕ) → after ≡ before → CountsLink end before after
same_link ends.Lost before after same = inl same
same_link ends.Decided before after same = inl same
same_link ends.TurnsSpent before after same = same
same_link ends.Spent before after same = same
same_link ends.Memory before after same = same

pub same_turn : {X : Type 0} (result : Result X End) (before after : ℕ) → after ≡ before → CountsTurn result before after
same_turn (Ok done) before after same = same
same_turn (Err end) before after same = same_link end before after same

-- a read failed
pub read_failed : (before after : ℕ) → after ≡ one_more before → CountsLink ends.Lost before after
read_failed before after more = inr more

-- the flushes ended it
pub flushed_link : (end : End) (before after : ℕ) → CountsEnd {X = Unit} (Err end) before after → CountsLink end before after
flushed_link ends.Lost before after counted = inr counted
flushed_link ends.Decided before after counted = counted
flushed_link ends.TurnsSpent before after counted = absurd counted
flushed_link ends.Spent before after counted = counted
flushed_link ends.Memory before after counted = counted

pub flushed_counts : (end : End) (first before after : ℕ) → before ≡ first → CountsEnd {X = Unit} (Err end) before after → CountsLink end first after
flushed_counts end first before after same counted = subst (λ (count : ℕ). CountsLink end count after) same (flushed_link end before after counted)

pub counts_after : (end : End) (first before after : ℕ) → before ≡ first → CountsLink end before after → CountsLink end first after
counts_after end first before after same counted = subst (λ (count : ℕ). CountsLink end count after) same counted

-- the start wasn't sent
pub sent_counts : (end : End) (before after : ℕ) → CountsBy {X = Unit} (Err end) before after → CountsLink end before after
sent_counts ends.Lost before after counted = inr counted
sent_counts ends.Memory before after counted = counted
sent_counts ends.Decided before after counted = absurd counted
sent_counts ends.TurnsSpent before after counted = absurd counted
sent_counts ends.Spent before after counted = absurd counted

pub sent_decided : (end : End) (before after : ℕ) (kept : Holder) → CountsBy {X = Unit} (Err end) before after → DecidedIn end kept
sent_decided ends.Lost before after kept counted = tt
sent_decided ends.Memory before after kept counted = tt
sent_decided ends.Decided before after kept counted = absurd counted
sent_decided ends.TurnsSpent before after kept counted = absurd counted
sent_decided ends.Spent before after kept counted = absurd counted
