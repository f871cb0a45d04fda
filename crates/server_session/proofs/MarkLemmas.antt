-- A call whose mark says that its reply is kept.
use Rattle.std.proofs.Common.{◌≡◌, ◌∙◌, ℕ, eqb, cond, Bool, true, Option, Some, None, List, [], ◌∷◌, ◌⊎◌, ap, sym, refl, inl, inr}
use Rattle.std.proofs.lemmas.Bool.{cases_Bool, cond-true, cond-false, and_from, and_right, eqb-true}
use Rattle.std.proofs.lemmas.Option.{none-some, same_Some}
use Rattle.id_window.specs.declared.mark.Mark.{Mark}
use Rattle.id_window.specs.declared.mark.Mark.TheVariants.{Noticed, Service, Container, Waiting, Replied, Acked, Dropped}
use Rattle.id_window.specs.Marks.{mark_of}
use Rattle.id_window.specs.History.{History, Outcome, Refused, AcceptedContainer, AcceptedCall, AcceptedOther}
use Rattle.server_rules.specs.Server.{Fate, IsKept, WasAcked, WasDropped, Reply, Session, answered_mark, is_fate_kept, is_kept, mark_after, mark_by, mark_in, marks_of, reply_to}
use Rattle.service_tl.specs.Results.{is_good}
use Rattle.server_session.specs.Fates.{kept_to}
use Rattle.server_session.proofs.Turning.{found-is, from_mark}

-- a mark that is found is that of some outcome
from-marks : (number : ℕ) (replies : List Reply) (last : Option Mark) (history : History) (mark : Mark) → from_mark number last (marks_of history replies) ≡ Some mark
    → (last ≡ Some mark) ⊎ ((outcome : Outcome) × (mark_after replies number outcome ≡ mark))
from-marks number replies last [] mark is = inl is
from-marks number replies last (judgement ∷ history) mark is =
    let here = Some (mark_after replies judgement.number judgement.outcome) in
    elim (from-marks number replies (cond (eqb judgement.number number) here last) history mark is) [
      | inl now ↦ elim (cases_Bool (eqb judgement.number number)) [
        | inl same ↦
            let found : mark_after replies judgement.number judgement.outcome ≡ mark = same_Some _ mark (sym (cond-true (eqb judgement.number number) here last same) ∙ now) in
            inr (judgement.outcome, rw (← eqb-true judgement.number number same) found)
        | inr other ↦ inl (sym (cond-false (eqb judgement.number number) here last other) ∙ now)
      ]
      | inr found ↦ inr found
    ]

kept-fate : (good well : Bool) (fate : Fate) → answered_mark well fate ≡ Replied good → is_fate_kept fate ≡ true
kept-fate good well IsKept is = refl
kept-fate good well WasAcked is = let different : Acked well ≡ Replied good = is in absurd (cc)
kept-fate good well WasDropped is = let different : Dropped well ≡ Replied good = is in absurd (cc)

-- the reply is kept
abbrev pub HasKept : ℕ → List Reply → Type 0
HasKept call replies = (reply : Reply) × (reply_to call replies ≡ Some reply) × (is_kept reply ≡ true)

by-kept : (unanswered : Mark) (good : Bool) (reply : Option Reply) → (unanswered ≡ Replied good → ⊥) → mark_by unanswered reply ≡ Replied good
    → (one : Reply) × (reply ≡ Some one) × (is_kept one ≡ true)
by-kept unanswered good None other is = absurd (other is)
by-kept unanswered good (Some one) other is = (one, refl, kept-fate good (is_good one.content) one.fate is)

after-kept : (call : ℕ) (replies : List Reply) (good : Bool) (outcome : Outcome) → mark_after replies call outcome ≡ Replied good → HasKept call replies
after-kept call replies good (Refused code) is = let different : Noticed code ≡ Replied good = is in absurd (cc)
after-kept call replies good AcceptedContainer is = let different : Container ≡ Replied good = is in absurd (cc)
after-kept call replies good AcceptedCall is = by-kept Waiting good (reply_to call replies) (λ same. let different : Waiting ≡ Replied good = same in cc) is
after-kept call replies good AcceptedOther is = by-kept Service good (reply_to call replies) (λ same. let different : Service ≡ Replied good = same in cc) is

-- a call that is marked so has a reply that is kept
pub replied-kept : (session : Session) (call : ℕ) (good : Bool) → mark_in session call ≡ Some (Replied good) → HasKept call session.replies
replied-kept session call good is =
    let marked : mark_of call (marks_of session.history session.replies) ≡ Some (Replied good) =
    found-is call session.history (marks_of session.history session.replies) (Replied good) is in
    elim (from-marks call session.replies None session.history (Replied good) marked) [
      | inl none ↦ absurd (none-some (Replied good) none)
      | inr found ↦ after-kept call session.replies good found.0 found.1
    ]

-- and that is the kept reply to it
pub first-kept : (call : ℕ) (replies : List Reply) (reply : Reply) → reply_to call replies ≡ Some reply → is_kept reply ≡ true → kept_to call replies ≡ Some reply
first-kept call [] reply is kept = absurd (none-some reply is)
first-kept call (first ∷ replies) reply is kept =
    elim (cases_Bool (eqb first.call call)) [
      | inl here ↦
          let same : first ≡ reply = same_Some first reply (sym (cond-true (eqb first.call call) (Some first) (reply_to call replies) here) ∙ is) in
          let first_kept : is_kept first ≡ true = ap is_kept same ∙ kept in
          cond-true _ (Some first) (kept_to call replies) (and_from (is_kept first) (eqb first.call call) first_kept here) ∙ ap (λ (one : Reply). Some one) same
      | inr later ↦
          cond-false _ (Some first) (kept_to call replies) (and_right (is_kept first) (eqb first.call call) later)
          ∙ first-kept call replies reply (sym (cond-false (eqb first.call call) (Some first) (reply_to call replies) later) ∙ is) kept
    ]
