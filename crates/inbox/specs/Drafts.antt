-- Scaffolding for proofs, no promise: messages that are read and not judged yet, and their judging.
use Rattle.std.specs.Prelude.{ℕ, if◌then◌else◌, List, [], ◌∷◌, Option, Some, None}
use Rattle.service_tl.specs.declared.lists.Message.{Message}
use Rattle.id_window.specs.declared.mark.Mark.{Mark}
use Rattle.id_window.specs.History.{Outcome, Refused, found, floor, crosses}
use Rattle.inbox.specs.declared.draft.Draft.{Draft}
use Rattle.inbox.specs.declared.kind.Kind.{Kind}
use Rattle.inbox.specs.declared.judged.Verdict.{Verdict}
use Rattle.inbox.specs.declared.judged.Verdict.TheVariants.{Accepted, Again, Noticed}
use Rattle.inbox.specs.declared.judged.Judgement.{Judgement}
use Rattle.inbox.specs.Kinds.{kind_of}
use Rattle.inbox.specs.Refusals.{first_code}
use Rattle.inbox.specs.Verdicts.{bare}
use Rattle.inbox.specs.Judging.{Session, is_recorded, outcome_of, remembered, verdict_again}

abbrev pub draft_of : Message → Draft
draft_of message = record { number = message.number; seq = message.seq; kind = kind_of message }

abbrev pub drafted : ℕ → ℕ → Kind → Draft
drafted number seq kind = record { number = number; seq = seq; kind = kind }

-- the verdict, and what is recorded of it, without an item
abbrev pub bare_by : Option Mark → Option ℕ → Kind → Verdict
bare_by (Some mark) code kind = bare (verdict_again kind mark)
bare_by None (Some code) kind = Noticed code
bare_by None None kind = Accepted

abbrev pub bare_recorded : Kind → Verdict → Option Outcome
bare_recorded kind (Again mark) = None
bare_recorded kind (Noticed code) = if is_recorded code then Some (Refused code) else None
bare_recorded kind Accepted = Some (outcome_of kind)

-- a draft is judged, where this is the code by its envelope
abbrev pub draft_verdict : Option ℕ → Session → Draft → Verdict
draft_verdict envelope session draft =
    bare_by (found draft.number session.history session.marks)
    (first_code envelope (floor session.history) (crosses draft.number draft.seq session.history) draft.number draft.seq draft.kind)
    draft.kind

abbrev pub draft_judgement : Option ℕ → Session → Draft → Judgement
draft_judgement envelope session draft = record { number = draft.number; seq = draft.seq; verdict = draft_verdict envelope session draft }

abbrev pub draft_session : Option ℕ → Session → Draft → Session
draft_session envelope session draft =
    remembered draft.number draft.seq (bare_recorded draft.kind (draft_verdict envelope session draft)) session

-- drafts of a container's messages
abbrev pub draft_judgements : Session → List Draft → List Judgement
draft_judgements session [] = []
draft_judgements session (draft ∷ drafts) = draft_judgement None session draft ∷ draft_judgements (draft_session None session draft) drafts

abbrev pub drafts_session : Session → List Draft → Session
drafts_session session [] = session
drafts_session session (draft ∷ drafts) = drafts_session (draft_session None session draft) drafts
