-- Numbers that are kept no more stay at most the floor.
use Rattle.std.proofs.Common.{◌≡◌, ◌∙◌, ℕ, zero, suc, ◌-◌, ◌≤◌, true, false, ltb, Option, Some, None, List, [], ◌∷◌, ◌++◌, length, take, ap, sym, subst, refl, arith, inl, inr, append_assoc}
use Rattle.std.specs.List.{All, Contains}
use Rattle.std.proofs.lemmas.Bool.{cases_lt, le-ltb, lt-ltb}
use Rattle.std.proofs.lemmas.Grind.{fold-append}
use Rattle.std.proofs.lemmas.List.{length-append, append-nil}
use Rattle.service_tl.specs.declared.lists.Message.{Message}
use Rattle.id_window.specs.History.{History, FirstJudgement, Outcome, inserted, ascending, greatest_among, floor, forgotten, is_kept}
use Rattle.inbox.specs.Refusals.{Way, InContainer}
use Rattle.inbox.specs.Kinds.{kind_of}
use Rattle.inbox.specs.Judging.{Session as Remembered, judge, recorded, remembered, judged_session, inner_session, unfolded, session_after}

abbrev judged_number : FirstJudgement → ℕ
judged_number judgement = judgement.number

abbrev put : History → FirstJudgement → History
put sorted judgement = inserted judged_number judgement sorted

-- one more in order: the greatest of the first ones is at most that of the first ones and one more
taken-inserted : (k : ℕ) (j : FirstJudgement) (js : History) → greatest_among (take k js) ≤ greatest_among (take (suc k) (inserted judged_number j js))
taken-inserted zero j js = omega arith
taken-inserted (suc k) j [] = omega arith
taken-inserted (suc k) j (first ∷ js) =
    elim (cases_lt first.number j.number) [
      | inl below ↦ let e : ltb first.number j.number ≡ true = lt-ltb first.number j.number below in rw e (omega (arith, taken-inserted k j js))
      | inr above ↦ let e : ltb first.number j.number ≡ false = le-ltb first.number j.number above in rw e (omega arith)
    ]

floor-more : (history : History) (j : FirstJudgement) → floor history ≤ floor (history ++ j ∷ [])
unfolding forgotten
floor-more history j =
    elim (cases_lt (length history) 16384) [
      | inl room ↦ let none : length history - 16384 ≡ 0 = omega arith in rw none (omega arith)
      | inr full ↦
          let more : length (history ++ j ∷ []) - 16384 ≡ suc (length history - 16384) = omega (arith, length-append history (j ∷ [])) in
          let sorted : ascending (history ++ j ∷ []) ≡ inserted judged_number j (ascending history) = fold-append put [] history (j ∷ []) in
          rw (more, sorted) (taken-inserted (length history - 16384) j (ascending history))
    ]

-- the floor never falls
pub floor-rises : (history later : History) → floor history ≤ floor (history ++ later)
floor-rises history [] = subst (λ (all : History). floor history ≤ floor all) (sym (append-nil history)) (omega arith)
floor-rises history (j ∷ later) =
    let here = floor-more history j in
    let there = floor-rises (history ++ j ∷ []) later in
    let rise : floor history ≤ floor ((history ++ j ∷ []) ++ later) = omega arith in
    subst (λ (all : History). floor history ≤ floor all) (append_assoc history (j ∷ []) later) rise

abbrev pub IsBelow : Type 0
IsBelow = (history : History) → All (λ judgement. is_kept judgement.number history ≡ false → judgement.number ≤ floor history) history

pub dropped-below : (below : IsBelow) (history later : History) (judgement : FirstJudgement) → Contains history judgement → is_kept judgement.number history ≡ false
    → judgement.number ≤ floor (history ++ later)
dropped-below below history later judgement has dropped =
    let P : FirstJudgement → Type 0 = λ judgement. is_kept judgement.number history ≡ false → judgement.number ≤ floor history in
    let now : judgement.number ≤ floor history = subst P has.2 (below history has.0 judgement has.1) dropped in
    let rise = floor-rises history later in omega arith

-- what judging adds to a history
abbrev Adds : History → History → Type 0
Adds history after = (later : History) × (after ≡ history ++ later)

adds-both : (first second third : History) → Adds first second → Adds second third → Adds first third
adds-both first second third one other = (
  one.0 ++ other.0,
  other.1 ∙ (ap (λ (history : History). history ++ other.0) one.1 ∙ append_assoc first one.0 other.0),
)

remembered-adds : (number seq : ℕ) (outcome : Option Outcome) (session : Remembered) → Adds session.history (remembered number seq outcome session).history
remembered-adds number seq None session = ([], sym (append-nil session.history))
remembered-adds number seq (Some outcome) session = (record { number = number; seq = seq; outcome = outcome } ∷ [], refl)

judged-adds : (way : Way) (session : Remembered) (message : Message) → Adds session.history (judged_session way session message).history
judged-adds way session message = remembered-adds message.number message.seq (recorded (kind_of message) (judge way session message)) session

inner-adds : (session : Remembered) (messages : List Message) → Adds session.history (inner_session session messages).history
inner-adds session [] = ([], sym (append-nil session.history))
inner-adds session (message ∷ messages) =
    let next = judged_session InContainer session message in
    adds-both session.history next.history (inner_session next messages).history (judged-adds InContainer session message) (inner-adds next messages)

pub packet-adds : (way : Way) (session : Remembered) (message : Message) → (later : History) × ((session_after way session message).history ≡ session.history ++ later)
packet-adds way session message =
    let next = judged_session way session message in
    let messages = unfolded (judge way session message) message in
    adds-both session.history next.history (inner_session next messages).history (judged-adds way session message) (inner-adds next messages)
