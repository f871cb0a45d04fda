-- Messages and their drafts are judged alike, and what was heard stays heard.
use Rattle.std.proofs.Common.{◌≡◌, ℕ, suc, Bool, true, false, cond, ◌||◌, List, [], ◌∷◌, length, map, Option, Some, None, refl, ◌∙◌, ap}
use Rattle.std.proofs.lemmas.List.Folds.{list_any-append}
use Rattle.service_tl.specs.declared.lists.Message.{Message}
use Rattle.service_tl.specs.declared.item.Item.{Item}
use Rattle.id_window.specs.declared.mark.Mark.{Mark}
use Rattle.id_window.specs.History.{History, FirstJudgement, Outcome, Refused, found, was_accepted, noted}
use Rattle.inbox.specs.declared.draft.Draft.{Draft}
use Rattle.inbox.specs.declared.judged.Verdict.{Verdict as BareVerdict}
use Rattle.inbox.specs.declared.judged.Judgement.{Judgement as BareJudgement}
use Rattle.inbox.specs.Verdicts.{Verdict, Accepted, Again, Noticed, bare, bare_judgement, is_bare_accepted}
use Rattle.inbox.specs.declared.kind.Kind.{Kind}
use Rattle.inbox.specs.declared.kind.Kind.TheVariants.{Container, Unlawful, Acknowledgement, Call, Other}
use Rattle.inbox.specs.Kinds.{inner_messages, item_told, kind_of}
use Rattle.inbox.specs.Judging.{Session, judge, judgement_on, verdict_by, is_accepted, is_recorded, recorded, remembered, outcome_of, judged_session, inner_judgements, inner_session, unfolded}
use Rattle.inbox.specs.Refusals.{Way, InContainer, by_envelope, refusal}
use Rattle.inbox.specs.Inbox.{was_heard}
use Rattle.inbox.specs.Drafts.{bare_by, bare_recorded, draft_of, draft_judgement, draft_session, draft_judgements, drafts_session, draft_verdict}

-- ---- a verdict without its item is found alike, and so is what is recorded of it

pub bare_so : (mark : Option Mark) (code : Option ℕ) (kind : Kind) (item : Item) → bare_by mark code kind ≡ bare (verdict_by mark code kind item)
bare_so (Some mark) code kind item = refl
bare_so None (Some code) kind item = refl
bare_so None None kind item = refl

pub recorded_so : (kind : Kind) (verdict : Verdict) → bare_recorded kind (bare verdict) ≡ recorded kind verdict
recorded_so kind (Accepted item) = refl
recorded_so kind (Again mark) = refl
recorded_so kind (Noticed code) = refl

pub accepted_so : (verdict : Verdict) → is_bare_accepted (bare verdict) ≡ is_accepted verdict
accepted_so (Accepted item) = refl
accepted_so (Again mark) = refl
accepted_so (Noticed code) = refl

module _ (way : Way) (session : Session) (message : Message) where
  draft_bare : draft_verdict (by_envelope way message.number) session (draft_of message) ≡ bare (judge way session message)
  draft_bare = bare_so (found message.number session.history session.marks) (refusal way session.history message) (kind_of message) (item_told message.body)

  pub draft_judged : draft_judgement (by_envelope way message.number) session (draft_of message) ≡ bare_judgement (judgement_on way session message)
  draft_judged = ap (λ (v : BareVerdict). record { number = message.number; seq = message.seq; verdict = v }) draft_bare

  pub draft_settled : draft_session (by_envelope way message.number) session (draft_of message) ≡ judged_session way session message
  draft_settled =
      ap (λ (o : Option Outcome). remembered message.number message.seq o session)
      (ap (bare_recorded (kind_of message)) draft_bare ∙ recorded_so (kind_of message) (judge way session message))

pub inner_judged : (session : Session) (messages : List Message) → draft_judgements session (map draft_of messages) ≡ map bare_judgement (inner_judgements session messages)
inner_judged session [] = refl
inner_judged session (message ∷ messages) =
    ap (λ (j : BareJudgement). j ∷ draft_judgements (draft_session None session (draft_of message)) (map draft_of messages)) (draft_judged InContainer session message)
    ∙ ap (λ (s : Session). bare_judgement (judgement_on InContainer session message) ∷ draft_judgements s (map draft_of messages)) (draft_settled InContainer session message)
    ∙ ap (λ (rest : List BareJudgement). bare_judgement (judgement_on InContainer session message) ∷ rest)
    (inner_judged (judged_session InContainer session message) messages)

pub inner_settled : (session : Session) (messages : List Message) → drafts_session session (map draft_of messages) ≡ inner_session session messages
inner_settled session [] = refl
inner_settled session (message ∷ messages) =
    ap (λ (s : Session). drafts_session s (map draft_of messages)) (draft_settled InContainer session message)
    ∙ inner_settled (judged_session InContainer session message) messages

pub inner_lengths : (session : Session) (messages : List Message) → length (inner_judgements session messages) ≡ length messages
inner_lengths session [] = refl
inner_lengths session (message ∷ messages) = ap suc (inner_lengths (judged_session InContainer session message) messages)

pub inner_numbers : (session : Session) (messages : List Message) → map (λ judgement. judgement.number) (inner_judgements session messages) ≡ map (λ message. message.number) messages
inner_numbers session [] = refl
inner_numbers session (message ∷ messages) =
    ap (λ (rest : List ℕ). message.number ∷ rest) (inner_numbers (judged_session InContainer session message) messages)

pub inner_seqs : (session : Session) (messages : List Message) → map (λ judgement. judgement.seq) (inner_judgements session messages) ≡ map (λ message. message.seq) messages
inner_seqs session [] = refl
inner_seqs session (message ∷ messages) =
    ap (λ (rest : List ℕ). message.seq ∷ rest) (inner_seqs (judged_session InContainer session message) messages)

-- what is unfolded of an accepted message, and of another
pub accepted_unfolded : (verdict : Verdict) (message : Message) → is_accepted verdict ≡ true → unfolded verdict message ≡ inner_messages message
accepted_unfolded (Accepted item) message is = refl
accepted_unfolded (Again mark) message is = cc
accepted_unfolded (Noticed code) message is = cc

pub others_unfolded : (verdict : Verdict) (message : Message) → is_accepted verdict ≡ false → unfolded verdict message ≡ []
others_unfolded (Accepted item) message is = cc
others_unfolded (Again mark) message is = refl
others_unfolded (Noticed code) message is = refl

-- ---- what was heard

or_false : (b : Bool) → (b || false) ≡ b
or_false true = refl
or_false false = refl

or_true : (b : Bool) → (b || true) ≡ true
or_true true = refl
or_true false = refl

pub heard-noted : (number seq : ℕ) (outcome : Outcome) (history : History) → was_heard (noted number seq outcome history) ≡ (was_heard history || was_accepted outcome)
heard-noted number seq outcome history =
    list_any-append (λ (judgement : FirstJudgement). was_accepted judgement.outcome) history (record { number = number; seq = seq; outcome = outcome } ∷ [])
    ∙ ap (λ (b : Bool). was_heard history || b) (or_false (was_accepted outcome))

stays : (number seq : ℕ) (outcome : Outcome) (history : History) → was_heard history ≡ true → was_heard (noted number seq outcome history) ≡ true
stays number seq outcome history heard = heard-noted number seq outcome history ∙ ap (λ (b : Bool). b || was_accepted outcome) heard

pub heard_stays : (number seq : ℕ) (outcome : Option Outcome) (session : Session) → was_heard session.history ≡ true → was_heard (remembered number seq outcome session).history ≡ true
heard_stays number seq None session heard = heard
heard_stays number seq (Some outcome) session heard = stays number seq outcome session.history heard

pub heard_inside : (session : Session) (drafts : List Draft) → was_heard session.history ≡ true → was_heard (drafts_session session drafts).history ≡ true
heard_inside session [] heard = heard
heard_inside session (draft ∷ drafts) heard =
    heard_inside (draft_session None session draft) drafts (heard_stays draft.number draft.seq (bare_recorded draft.kind (draft_verdict None session draft)) session heard)

noticed : (number seq code : ℕ) (is : Bool) (session : Session) → was_heard (remembered number seq (cond is (Some (Refused code)) None) session).history ≡ was_heard session.history
noticed number seq code true session = heard-noted number seq (Refused code) session.history ∙ or_false (was_heard session.history)
noticed number seq code false session = refl

pub heard_refused : (number seq : ℕ) (kind : Kind) (verdict : Verdict) (session : Session) → is_accepted verdict ≡ false → was_heard (remembered number seq (recorded kind verdict) session).history ≡ was_heard session.history
heard_refused number seq kind (Accepted item) session is = cc
heard_refused number seq kind (Again mark) session is = refl
heard_refused number seq kind (Noticed code) session is = noticed number seq code (is_recorded code) session

accepted_as : (kind : Kind) → was_accepted (outcome_of kind) ≡ true
accepted_as Container = refl
accepted_as Unlawful = refl
accepted_as Acknowledgement = refl
accepted_as Call = refl
accepted_as Other = refl

pub heard_accepted : (number seq : ℕ) (kind : Kind) (verdict : Verdict) (session : Session) → is_accepted verdict ≡ true → was_heard (remembered number seq (recorded kind verdict) session).history ≡ true
heard_accepted number seq kind (Accepted item) session is =
    heard-noted number seq (outcome_of kind) session.history
    ∙ ap (λ (b : Bool). was_heard session.history || b) (accepted_as kind)
    ∙ or_true (was_heard session.history)
heard_accepted number seq kind (Again mark) session is = cc
heard_accepted number seq kind (Noticed code) session is = cc
