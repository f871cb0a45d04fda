-- A message with what is inside it, judged by its drafts.
use Rattle.std.proofs.Common.{◌≡◌, ℕ, Bool, true, false, cond, ◌&&◌, List, [], ◌∷◌, ◌++◌, map, Option, Some, None, refl, sym, ◌∙◌, ap, subst}
use Rattle.std.specs.Prelude.{slice_get}
use Rattle.service_tl.specs.declared.lists.Message.{Message}
use Rattle.salt_line.specs.Line.{Line}
use Rattle.service_tl.specs.declared.item.Item.{Item}
use Rattle.id_window.specs.declared.mark.Mark.{Mark}
use Rattle.inbox.specs.declared.kind.Kind.{Kind}
use Rattle.id_window.specs.History.{History}
use Rattle.id_window.specs.Marks.{Marks}
use Rattle.id_window.specs.Window.{Contents, Stands as WindowStands}
use Rattle.inbox.specs.declared.draft.Draft.{Draft}
use Rattle.inbox.specs.declared.judged.Judgement.{Judgement as BareJudgement}
use Rattle.inbox.specs.Verdicts.{Verdict, Again, Noticed, bare_judgement, is_bare_accepted}
use Rattle.inbox.specs.Kinds.{kind_of, inner_messages}
use Rattle.inbox.specs.Refusals.{Way, InEnvelope, by_envelope}
use Rattle.inbox.specs.Judging.{Session, judge, verdict_by, is_container, is_uncontained, is_accepted, judged_session, judgement_on, inner_judgements, inner_session, judgements, session_after}
use Rattle.inbox.specs.Inbox.{Stands, was_heard, without_room}
use Rattle.inbox.specs.Drafts.{draft_of, draft_judgement, draft_session, draft_judgements, drafts_session}
use Rattle.inbox.specs.Acceptance.{IsAcceptable, acceptance_of}
use Rattle.inbox.proofs.DraftLemmas.{accepted_so, draft_judged, draft_settled, inner_judged, inner_settled, accepted_unfolded, others_unfolded, heard_refused, heard_accepted, heard_inside}
use Rattle.inbox.proofs.AcceptanceLemmas.{acceptable_judged}

-- reserved room says nothing of what a window stands for
abbrev pub RoomCountsNothing : Type 0
RoomCountsNothing = (window : Contents) (history : History) (marks : Marks) (room : ℕ) → WindowStands window history marks → WindowStands (record window { room = room }) history marks

came_again : (taken : Bool) (mark : Mark) → is_accepted (cond taken (Noticed 19) (Again mark)) ≡ true → false ≡ true
came_again true mark is = is
came_again false mark is = is

-- a message that was accepted is new
pub accepted_new : (mark : Option Mark) (code : Option ℕ) (kind : Kind) (item : Item) → is_accepted (verdict_by mark code kind item) ≡ true → mark ≡ None
accepted_new None code kind item is = refl
accepted_new (Some mark) code kind item is = let no = came_again (is_container kind && is_uncontained mark) mark is in cc

-- the draft of an envelope's message was judged
pub record Settled (way : Way) (session : Session) (message : Message) (envelope : Option ℕ) (draft : Draft) (judgement : BareJudgement) : Type 0 where
  pub envelope_is : envelope ≡ by_envelope way message.number
  pub draft_is : draft ≡ draft_of message
  pub judgement_is : judgement ≡ draft_judgement envelope session draft

module _ (way : Way) (session : Session) (message : Message) (envelope : Option ℕ) (draft : Draft) (judgement : BareJudgement) (settled : Settled way session message envelope draft judgement) where
  pub on_message : judgement ≡ bare_judgement (judgement_on way session message)
  on_message =
      settled.judgement_is
      ∙ ap (λ (e : Option ℕ). draft_judgement e session draft) settled.envelope_is
      ∙ ap (λ (d : Draft). draft_judgement (by_envelope way message.number) session d) settled.draft_is
      ∙ draft_judged way session message

  pub session_on : draft_session envelope session draft ≡ judged_session way session message
  session_on =
      ap (λ (e : Option ℕ). draft_session e session draft) settled.envelope_is
      ∙ ap (λ (d : Draft). draft_session (by_envelope way message.number) session d) settled.draft_is
      ∙ draft_settled way session message

  accepted_as : (taken : Bool) → is_bare_accepted judgement.verdict ≡ taken → is_accepted (judge way session message) ≡ taken
  accepted_as taken is =
      sym (accepted_so (judge way session message)) ∙ ap (λ (j : BareJudgement). is_bare_accepted j.verdict) (sym on_message) ∙ is

  pub accepted_then : is_bare_accepted judgement.verdict ≡ true → is_accepted (judge way session message) ≡ true
  accepted_then = accepted_as true

  -- it wasn't accepted

  pub alone_judged : (js0 js1 : List BareJudgement) → is_bare_accepted judgement.verdict ≡ false → js0 ≡ [] → js1 ≡ js0 ++ judgement ∷ [] → js1 ≡ map bare_judgement (judgements way session message)
  alone_judged js0 js1 is empty pushed =
      pushed
      ∙ ap (λ (js : List BareJudgement). js ++ judgement ∷ []) empty
      ∙ ap (λ (j : BareJudgement). j ∷ []) on_message
      ∙ ap (λ (ms : List Message). map bare_judgement (judgement_on way session message ∷ inner_judgements (judged_session way session message) ms)) (sym (others_unfolded (judge way session message) message (accepted_as false is)))

  pub alone_stands : (w : Contents) (heard : Bool) → RoomCountsNothing → is_bare_accepted judgement.verdict ≡ false → heard ≡ was_heard session.history
      → WindowStands w (draft_session envelope session draft).history (draft_session envelope session draft).marks
      → Stands (record { window = without_room w; heard = heard }) (session_after way session message).history (session_after way session message).marks
  alone_stands w heard law is heard_is stands =
      let unaccepted = accepted_as false is in
      let after : session_after way session message ≡ judged_session way session message = ap (inner_session (judged_session way session message)) (others_unfolded (judge way session message) message unaccepted) in
      let still : was_heard (judged_session way session message).history ≡ was_heard session.history = heard_refused message.number message.seq (kind_of message) (judge way session message) session unaccepted in
      subst (λ (s : Session). Stands (record { window = without_room w; heard = heard }) s.history s.marks) (sym after) (record {
        window = law w _ _ 0 (subst (λ (s : Session). WindowStands w s.history s.marks) session_on stands);
        heard = heard_is ∙ sym still;
      })

  -- it was accepted

  pub all_judged : (drafts : List Draft) (js0 js1 js2 : List BareJudgement) → is_bare_accepted judgement.verdict ≡ true → drafts ≡ map draft_of (inner_messages message)
      → js0 ≡ [] → js1 ≡ js0 ++ judgement ∷ [] → js2 ≡ js1 ++ draft_judgements (draft_session envelope session draft) drafts → js2 ≡ map bare_judgement (judgements way session message)
  all_judged drafts js0 js1 js2 is drafts_are empty pushed settled_inside =
      let now = judged_session way session message in
      let first : BareJudgement = bare_judgement (judgement_on way session message) in
      settled_inside
      ∙ ap (λ (js : List BareJudgement). js ++ draft_judgements (draft_session envelope session draft) drafts) (pushed ∙ ap (λ (js : List BareJudgement). js ++ judgement ∷ []) empty)
      ∙ ap (λ (j : BareJudgement). j ∷ draft_judgements (draft_session envelope session draft) drafts) on_message
      ∙ ap (λ (s : Session). first ∷ draft_judgements s drafts) session_on
      ∙ ap (λ (ds : List Draft). first ∷ draft_judgements now ds) drafts_are
      ∙ ap (λ (js : List BareJudgement). first ∷ js) (inner_judged now (inner_messages message))
      ∙ ap (λ (ms : List Message). map bare_judgement (judgement_on way session message ∷ inner_judgements now ms)) (sym (accepted_unfolded (judge way session message) message (accepted_as true is)))

  pub all_stands : (w : Contents) (drafts : List Draft) → RoomCountsNothing → is_bare_accepted judgement.verdict ≡ true → drafts ≡ map draft_of (inner_messages message)
      → WindowStands w (drafts_session (draft_session envelope session draft) drafts).history (drafts_session (draft_session envelope session draft) drafts).marks
      → Stands (record { window = without_room w; heard = true }) (session_after way session message).history (session_after way session message).marks
  all_stands w drafts law is drafts_are stands =
      let taken = accepted_as true is in
      let inside : drafts_session (draft_session envelope session draft) drafts ≡ drafts_session (judged_session way session message) drafts = ap (λ (s : Session). drafts_session s drafts) session_on in
      let after : drafts_session (judged_session way session message) drafts ≡ session_after way session message =
      ap (λ (ds : List Draft). drafts_session (judged_session way session message) ds) drafts_are
      ∙ inner_settled (judged_session way session message) (inner_messages message)
      ∙ ap (λ (ms : List Message). inner_session (judged_session way session message) ms) (sym (accepted_unfolded (judge way session message) message taken)) in
      let heard : was_heard (drafts_session (judged_session way session message) drafts).history ≡ true =
      heard_inside (judged_session way session message) drafts (heard_accepted message.number message.seq (kind_of message) (judge way session message) session taken) in
      record {
        window = law w _ _ 0 (subst (λ (s : Session). WindowStands w s.history s.marks) (inside ∙ after) stands);
        heard = sym (subst (λ (s : Session). was_heard s.history ≡ true) after heard);
      }

-- what nothing refuses is the first judgement, and is an acceptance
pub first_accepted : (now : ℕ) (line : Line) (salt : ℕ) (session : Session) (message : Message) (js : List BareJudgement) → IsAcceptable now line salt session message
    → js ≡ map bare_judgement (judgements (InEnvelope now line salt) session message)
    → slice_get js 0 ≡ Some (bare_judgement (acceptance_of message))
first_accepted now line salt session message js is js_are =
    ap (λ (all : List BareJudgement). slice_get all 0) js_are
    ∙ ap (λ (v : Verdict). Some (bare_judgement (record { number = message.number; seq = message.seq; verdict = v }))) (acceptable_judged now line salt session message is)
