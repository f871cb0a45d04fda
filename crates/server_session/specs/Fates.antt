-- What becomes of kept replies.
use Rattle.std.specs.Prelude.{◌≡◌, ℕ, ◌==◌, ◌&&◌, false, if◌then◌else◌, Option, Some, None, List, [], ◌∷◌, length, map}
use Rattle.std.specs.List.{find, list_any}
use Rattle.id_window.specs.declared.mark.Mark.{Mark}
use Rattle.id_window.specs.declared.mark.Mark.TheVariants.{Replied}
use Rattle.id_window.specs.Marks.{Marks, given}
use Rattle.server_rules.specs.Server.{Fate, WasAcked, WasDropped, Reply, answered_mark, is_kept, kept_of}
use Rattle.server_rules.specs.Speaking.{dropped}
use Rattle.server_session.specs.declared.dropping.DroppedReply.{DroppedReply}
use Rattle.server_session.specs.declared.dropping.Ending.{Ending}
use Rattle.server_session.specs.declared.dropping.Ending.TheVariants.{Acked, Dropped}

-- the kept reply to a call, where there is one
abbrev pub kept_to : ℕ → List Reply → Option Reply
kept_to call replies = find (λ reply. is_kept reply && (reply.call == call)) replies

-- the replies where this one, if there is one, is dropped
abbrev pub with_dropped : Option Reply → List Reply → List Reply
with_dropped None replies = replies
with_dropped (Some reply) replies = map (λ other. if other.number == reply.number then dropped other else other) replies

-- what is told of a reply that was dropped
abbrev pub told_of : Reply → DroppedReply
told_of reply = record { number = reply.number; seq = reply.seq; length = length (kept_of reply).body }

-- Scaffolding, and no promise: what the contracts of private functions cite.

abbrev pub fate_of : Ending → Fate
fate_of Acked = WasAcked
fate_of Dropped = WasDropped

-- where a reply is kept and has this number, it has this fate now
abbrev pub refated_one : Fate → ℕ → Reply → Reply
refated_one fate number reply = if is_kept reply && (reply.number == number) then record reply { fate = fate } else reply

abbrev pub refated : Fate → ℕ → List Reply → List Reply
refated fate number replies = map (refated_one fate number) replies

-- each of these numbers stands there once
abbrev pub Apart : List ℕ → Type 0
Apart [] = Unit {0}
Apart (number ∷ numbers) = (list_any (λ other. other == number) numbers ≡ false) × Apart numbers

-- no two replies are to one call or have one number
pub record AreApart (replies : List Reply) : Type 0 where
  pub calls : Apart (map (λ reply. reply.call) replies)
  pub numbers : Apart (map (λ reply. reply.number) replies)

-- the marks where a call with this mark, if its reply is kept, is marked by that reply's fate
abbrev pub with_ended : ℕ → Fate → Option Mark → Marks → Marks
with_ended call fate (Some (Replied good)) marks = given call (answered_mark good fate) marks
with_ended call fate _ marks = marks
