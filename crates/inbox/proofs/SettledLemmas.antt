-- Judging of one draft after the other.
use Rattle.std.proofs.Common.{◌≡◌, ℕ, Bool, true, false, cond, List, [], ◌∷◌, ◌++◌, length, Option, Some, None, refl, sym, ◌∙◌, ap, subst, append_assoc, arith}
use Rattle.std.proofs.lemmas.List.{append-nil}
use Rattle.id_window.specs.declared.mark.Mark.{Mark}
use Rattle.id_window.specs.declared.mark.Mark.TheVariants.{Noticed as MarkNoticed}
use Rattle.id_window.specs.Marks.{given, is_accepted}
use Rattle.id_window.specs.History.{Refused, found, floor, crosses, noted, was_accepted}
use Rattle.id_window.specs.Window.{Contents, Stands}
use Rattle.inbox.specs.declared.draft.Draft.{Draft}
use Rattle.inbox.specs.declared.kind.Kind.{Kind}
use Rattle.inbox.specs.declared.kind.Kind.TheVariants.{Container, Unlawful, Acknowledgement, Call, Other}
use Rattle.inbox.specs.declared.judged.Verdict.{Verdict}
use Rattle.inbox.specs.declared.judged.Verdict.TheVariants.{Accepted as Taken, Noticed}
use Rattle.inbox.specs.declared.judged.Judgement.{Judgement}
use Rattle.inbox.specs.Refusals.{first_code}
use Rattle.inbox.specs.Judging.{Session, remembered, is_recorded, first_mark, outcome_of}
use Rattle.inbox.specs.Drafts.{bare_by, bare_recorded, draft_judgement, draft_session, draft_judgements, drafts_session, draft_verdict, drafted}

-- the verdict by the mark and the code that the history gives
pub same_verdict : (session : Session) (envelope : Option ℕ) (number seq : ℕ) (kind : Kind) (mark : Option Mark) (code : Option ℕ)
    → mark ≡ found number session.history session.marks
    → code ≡ first_code envelope (floor session.history) (crosses number seq session.history) number seq kind
    → bare_by mark code kind ≡ draft_verdict envelope session (drafted number seq kind)
same_verdict session envelope number seq kind mark code mark_is code_is =
    ap (λ (m : Option Mark). bare_by m code kind) mark_is
    ∙ ap (λ (c : Option ℕ). bare_by (found number session.history session.marks) c kind) code_is

-- a window that stands for what is remembered by a verdict stands for it by the same one
pub settled_by : (w : Contents) (session : Session) (number seq : ℕ) (kind : Kind) (verdict verdict' : Verdict) → verdict ≡ verdict'
    → Stands w (remembered number seq (bare_recorded kind verdict) session).history (remembered number seq (bare_recorded kind verdict) session).marks
    → Stands w (remembered number seq (bare_recorded kind verdict') session).history (remembered number seq (bare_recorded kind verdict') session).marks
settled_by w session number seq kind verdict verdict' same stands =
    subst (λ (v : Verdict). Stands w (remembered number seq (bare_recorded kind v) session).history (remembered number seq (bare_recorded kind v) session).marks) same stands

-- what is noted of a refused message, and of an accepted one
pub settled_refused : (w : Contents) (session : Session) (number seq : ℕ) (kind : Kind) (code : ℕ) → is_recorded code ≡ true
    → Stands w (noted number seq (Refused code) session.history) (given number (MarkNoticed code) session.marks)
    → Stands w (remembered number seq (bare_recorded kind (Noticed code)) session).history (remembered number seq (bare_recorded kind (Noticed code)) session).marks
settled_refused w session number seq kind code is stands =
    subst (λ (b : Bool). Stands w (remembered number seq (cond b (Some (Refused code)) None) session).history (remembered number seq (cond b (Some (Refused code)) None) session).marks) (sym is) stands

pub settled_unrecorded : (w : Contents) (session : Session) (number seq : ℕ) (kind : Kind) (code : ℕ) → is_recorded code ≡ false → Stands w session.history session.marks
    → Stands w (remembered number seq (bare_recorded kind (Noticed code)) session).history (remembered number seq (bare_recorded kind (Noticed code)) session).marks
settled_unrecorded w session number seq kind code is stands =
    subst (λ (b : Bool). Stands w (remembered number seq (cond b (Some (Refused code)) None) session).history (remembered number seq (cond b (Some (Refused code)) None) session).marks) (sym is) stands

pub accepted_mark : (kind : Kind) (mark : Mark) → mark ≡ first_mark (outcome_of kind) → was_accepted (outcome_of kind) ≡ is_accepted mark
accepted_mark Container mark is = rw is refl
accepted_mark Unlawful mark is = rw is refl
accepted_mark Acknowledgement mark is = rw is refl
accepted_mark Call mark is = rw is refl
accepted_mark Other mark is = rw is refl

pub settled_accepted : (w : Contents) (session : Session) (number seq : ℕ) (kind : Kind) (mark : Mark) → mark ≡ first_mark (outcome_of kind)
    → Stands w (noted number seq (outcome_of kind) session.history) (given number mark session.marks)
    → Stands w (remembered number seq (bare_recorded kind Taken) session).history (remembered number seq (bare_recorded kind Taken) session).marks
settled_accepted w session number seq kind mark is stands =
    subst (λ (m : Mark). Stands w (noted number seq (outcome_of kind) session.history) (given number m session.marks)) is stands

-- ---- the loop: what was judged so far, and the judgements of what is left, are all

pub record Goes (session : Session) (window : Contents) (before judged : List Judgement) (drafts left : List Draft) : Type 0 where
  pub now : Session
  pub stands : Stands window now.history now.marks
  pub judgements : before ++ draft_judgements session drafts ≡ judged ++ draft_judgements now left
  pub session_is : drafts_session session drafts ≡ drafts_session now left

pub begins : (session : Session) (window : Contents) (before : List Judgement) (drafts left : List Draft) → left ≡ drafts → Stands window session.history session.marks → Goes session window before before drafts left
begins session window before drafts left same stands = record {
  now = session;
  stands = stands;
  judgements = ap (λ (d : List Draft). before ++ draft_judgements session d) (sym same);
  session_is = ap (drafts_session session) (sym same);
}

pub goes_on : (session : Session) (w w' : Contents) (before judged judged' : List Judgement) (drafts left left' : List Draft) (draft : Draft) (judgement : Judgement)
    → Goes session w before judged drafts left → left ≡ draft ∷ left' → judged' ≡ judged ++ judgement ∷ []
    → ((s : Session) → Stands w s.history s.marks → judgement ≡ draft_judgement None s draft)
    → ((s : Session) → Stands w s.history s.marks → Stands w' (draft_session None s draft).history (draft_session None s draft).marks)
    → Goes session w' before judged' drafts left'
goes_on session w w' before judged judged' drafts left left' draft judgement goes first pushed is stands =
    let next : Session = draft_session None goes.now draft in
    record {
      now = next;
      stands = stands goes.now goes.stands;
      judgements =
          goes.judgements
          ∙ ap (λ (d : List Draft). judged ++ draft_judgements goes.now d) first
          ∙ ap (λ (j : Judgement). judged ++ (j ∷ draft_judgements next left')) (sym (is goes.now goes.stands))
          ∙ sym (append_assoc judged (judgement ∷ []) (draft_judgements next left'))
          ∙ ap (λ (js : List Judgement). js ++ draft_judgements next left') (sym pushed);
      session_is = goes.session_is ∙ ap (drafts_session goes.now) first;
    }

nil_of : {X : Type 0} (xs : List X) → length xs ≡ 0 → xs ≡ []
nil_of [] none = refl
nil_of (x ∷ xs) none = absurd (omega arith)

pub ends_judged : (session : Session) (w : Contents) (before judged : List Judgement) (drafts left : List Draft) → Goes session w before judged drafts left → length left ≡ 0 → judged ≡ before ++ draft_judgements session drafts
ends_judged session w before judged drafts left goes none =
    sym (append-nil judged)
    ∙ ap (λ (d : List Draft). judged ++ draft_judgements goes.now d) (sym (nil_of left none))
    ∙ sym goes.judgements

pub ends_stands : (session : Session) (w : Contents) (before judged : List Judgement) (drafts left : List Draft) → Goes session w before judged drafts left → length left ≡ 0 → Stands w (drafts_session session drafts).history (drafts_session session drafts).marks
ends_stands session w before judged drafts left goes none =
    subst (λ (s : Session). Stands w s.history s.marks) (sym (goes.session_is ∙ ap (drafts_session goes.now) (nil_of left none))) goes.stands
