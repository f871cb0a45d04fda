-- Which messages are accepted: those that no notice refuses.
use Rattle.std.specs.Prelude.{◌≡◌, ◌≢◌, ℕ, ◌+◌, ◌%◌, ◌<◌, ◌≤◌, true, false}
use Rattle.salt_line.specs.Line.{Line, IsValidSalt}
use Rattle.id_window.specs.declared.cross.Cross.TheVariants.{None as Apart}
use Rattle.id_window.specs.History.{is_kept, floor, crosses}
use Rattle.service_tl.specs.declared.lists.Message.{Message}
use Rattle.inbox.specs.declared.kind.Kind.TheVariants.{Unlawful}
use Rattle.inbox.specs.Verdicts.{Accepted, Judgement}
use Rattle.inbox.specs.Kinds.{kind_of, item_told}
use Rattle.inbox.specs.Refusals.{second_of, needs_even, needs_odd}
use Rattle.inbox.specs.Judging.{Session}

-- a message that came in an envelope at this moment and under this salt has nothing that is refused
pub record IsAcceptable (now : ℕ) (line : Line) (salt : ℕ) (session : Session) (message : Message) : Type 0 where
  -- its number is new and a client's
  pub new : is_kept message.number session.history ≡ false
  pub above_floor : floor session.history < message.number
  pub fourfold : message.number % 4 ≡ 0
  -- it is at most 300 seconds old and 30 seconds early, and its salt is valid
  pub not_old : now ≤ second_of message.number + 300
  pub not_early : second_of message.number ≤ now + 30
  pub salted : IsValidSalt line now salt
  -- its seq is even where it needs no acknowledgement, odd where it is a call, and crosses no accepted one
  pub even : needs_even (kind_of message) ≡ true → message.seq % 2 ≡ 0
  pub odd : needs_odd (kind_of message) ≡ true → message.seq % 2 ≡ 1
  pub apart : crosses message.number message.seq session.history ≡ Apart
  -- it is no container, or a lawful one
  pub lawful : kind_of message ≢ Unlawful

-- its judgement: accepted, as the item that it is
abbrev pub acceptance_of : Message → Judgement
acceptance_of message = record { number = message.number; seq = message.seq; verdict = Accepted (item_told message.body) }
