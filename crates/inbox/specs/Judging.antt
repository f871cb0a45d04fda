-- Judging of messages (core.telegram.org/mtproto/service_messages_about_messages; of containers,
-- core.telegram.org/mtproto/service_messages#containers).
use Rattle.std.specs.Prelude.{ℕ, ◌==◌, ◌&&◌, ◌||◌, Bool, true, false, if◌then◌else◌, List, [], ◌∷◌, Option, Some, None}
use Rattle.service_tl.specs.declared.item.Item.{Item}
use Rattle.service_tl.specs.declared.lists.Message.{Message}
use Rattle.id_window.specs.declared.mark.Mark.{Mark}
use Rattle.id_window.specs.declared.mark.Mark.TheVariants.{Noticed as MarkNoticed, Service, Container as MarkContainer, Waiting}
use Rattle.id_window.specs.Marks.{Marks, given}
use Rattle.id_window.specs.History.{History, Outcome, Refused, AcceptedContainer, AcceptedCall, AcceptedOther, noted, found}
use Rattle.inbox.specs.declared.kind.Kind.{Kind}
use Rattle.inbox.specs.declared.kind.Kind.TheVariants.{Container, Unlawful, Call}
use Rattle.inbox.specs.Verdicts.{Verdict, Accepted, Again, Noticed, Judgement}
use Rattle.inbox.specs.Kinds.{kind_of, inner_messages, item_told}
use Rattle.inbox.specs.Refusals.{Way, InContainer, refusal}

-- what a session remembers: its history, and the marks that were given
pub record Session : Type 0 where
  pub history : History
  pub marks : Marks

-- ---- one message

abbrev pub is_container : Kind → Bool
is_container Container = true
is_container Unlawful = true
is_container _ = false

-- the mark of an accepted message that is no container
abbrev pub is_uncontained : Mark → Bool
is_uncontained (MarkNoticed code) = false
is_uncontained MarkContainer = false
is_uncontained _ = true

-- The verdict on a message whose number is kept with this mark. 19: a container that has the number of an accepted
-- message which is none. Else it came again.
abbrev pub verdict_again : Kind → Mark → Verdict
verdict_again kind mark = if is_container kind && is_uncontained mark then Noticed 19 else Again mark

-- The verdict by the mark of the number, where it is kept, and by the code of the refusal, where there is one.
abbrev pub verdict_by : Option Mark → Option ℕ → Kind → Item → Verdict
verdict_by (Some mark) code kind item = verdict_again kind mark
verdict_by None (Some code) kind item = Noticed code
verdict_by None None kind item = Accepted item

abbrev pub judge : Way → Session → Message → Verdict
judge way session message =
    verdict_by (found message.number session.history session.marks) (refusal way session.history message) (kind_of message) (item_told message.body)

abbrev pub is_accepted : Verdict → Bool
is_accepted (Accepted item) = true
is_accepted _ = false

-- ---- what is recorded of it

-- what an accepted message was accepted as (an unlawful one is never accepted), and its first mark
abbrev pub outcome_of : Kind → Outcome
outcome_of Container = AcceptedContainer
outcome_of Unlawful = AcceptedContainer
outcome_of Call = AcceptedCall
outcome_of _ = AcceptedOther

abbrev pub first_mark : Outcome → Mark
first_mark (Refused code) = MarkNoticed code
first_mark AcceptedContainer = MarkContainer
first_mark AcceptedCall = Waiting
first_mark AcceptedOther = Service

abbrev pub is_recorded : ℕ → Bool
is_recorded code = if code == 19 || code == 20 then false else true

-- all is recorded but what came again, 19 and 20
abbrev pub recorded : Kind → Verdict → Option Outcome
recorded kind (Again mark) = None
recorded kind (Noticed code) = if is_recorded code then Some (Refused code) else None
recorded kind (Accepted item) = Some (outcome_of kind)

abbrev pub remembered : ℕ → ℕ → Option Outcome → Session → Session
remembered number seq None session = session
remembered number seq (Some outcome) session =
    record { history = noted number seq outcome session.history; marks = given number (first_mark outcome) session.marks }

-- the session after a message was judged
abbrev pub judged_session : Way → Session → Message → Session
judged_session way session message =
    remembered message.number message.seq (recorded (kind_of message) (judge way session message)) session

abbrev pub judgement_on : Way → Session → Message → Judgement
judgement_on way session message = record { number = message.number; seq = message.seq; verdict = judge way session message }

-- ---- a message with what is inside it

-- messages of a container in order, each judged by what is remembered then
abbrev pub inner_judgements : Session → List Message → List Judgement
inner_judgements session [] = []
inner_judgements session (message ∷ messages) =
    judgement_on InContainer session message ∷ inner_judgements (judged_session InContainer session message) messages

abbrev pub inner_session : Session → List Message → Session
inner_session session [] = session
inner_session session (message ∷ messages) = inner_session (judged_session InContainer session message) messages

-- the messages that are judged after a message with this verdict: those inside it, where it was accepted just now
abbrev pub unfolded : Verdict → Message → List Message
unfolded (Accepted item) message = inner_messages message
unfolded _ message = []

-- a message, and then those inside it
abbrev pub judgements : Way → Session → Message → List Judgement
judgements way session message =
    judgement_on way session message ∷ inner_judgements (judged_session way session message) (unfolded (judge way session message) message)

abbrev pub session_after : Way → Session → Message → Session
session_after way session message =
    inner_session (judged_session way session message) (unfolded (judge way session message) message)
