-- The marks that are worked out of a history and of replies.
use Rattle.std.proofs.Common.{◌≡◌, ◌∙◌, ℕ, eqb, cond, Option, Some, None, List, [], ◌∷◌, ◌++◌, fold, ap, sym, refl, inl, inr}
use Rattle.std.proofs.lemmas.Bool.{cases_Bool, cond-false, eqb-true}
use Rattle.std.proofs.lemmas.List.{map-append}
use Rattle.id_window.specs.declared.mark.Mark.{Mark}
use Rattle.id_window.specs.Marks.{Marks, mark_of, given}
use Rattle.id_window.specs.History.{History, FirstJudgement, Outcome, Refused, AcceptedContainer, AcceptedCall, AcceptedOther, noted}
use Rattle.inbox.specs.Judging.{first_mark}
use Rattle.server_rules.specs.Server.{Reply, marks_of, mark_after, reply_to}

-- ---- a further judgement

mark-first : (replies : List Reply) (number : ℕ) (outcome : Outcome) → reply_to number replies ≡ None → mark_after replies number outcome ≡ first_mark outcome
mark-first replies number (Refused code) none = refl
mark-first replies number AcceptedContainer none = refl
mark-first replies number AcceptedCall none = rw none refl
mark-first replies number AcceptedOther none = rw none refl

pub marks-noted : (number seq : ℕ) (outcome : Outcome) (history : History) (replies : List Reply) → reply_to number replies ≡ None
    → marks_of (noted number seq outcome history) replies ≡ given number (first_mark outcome) (marks_of history replies)
marks-noted number seq outcome history replies none =
    map-append (λ (judgement : FirstJudgement). (judgement.number, mark_after replies judgement.number judgement.outcome)) history (record { number = number; seq = seq; outcome = outcome } ∷ [])
    ∙ ap (λ (mark : Mark). marks_of history replies ++ (number, mark) ∷ []) (mark-first replies number outcome none)

-- ---- further replies: the marks of other numbers stay

-- the same reply, where there is one
abbrev SameAt : ℕ → List Reply → List Reply → Type 0
SameAt number one other = reply_to number one ≡ reply_to number other

mark-same : (one other : List Reply) (number : ℕ) (outcome : Outcome) → SameAt number one other → mark_after one number outcome ≡ mark_after other number outcome
mark-same one other number (Refused code) same = refl
mark-same one other number AcceptedContainer same = refl
mark-same one other number AcceptedCall same = rw same refl
mark-same one other number AcceptedOther same = rw same refl

-- the mark found from one on
abbrev from_mark : ℕ → Option Mark → Marks → Option Mark
from_mark number last marks = fold (λ so_far given. cond (eqb given.0 number) (Some given.1) so_far) last marks

from-same : (one other : List Reply) (number : ℕ) (last : Option Mark) (history : History) → SameAt number one other
    → from_mark number last (marks_of history one) ≡ from_mark number last (marks_of history other)
from-same one other number last [] same = refl
from-same one other number last (judgement ∷ history) same =
    elim (cases_Bool (eqb judgement.number number)) [
      | inl is ↦
          let here : SameAt judgement.number one other = rw (eqb-true judgement.number number is) same in
          ap (λ (mark : Mark). from_mark number (cond (eqb judgement.number number) (Some mark) last) (marks_of history one)) (mark-same one other judgement.number judgement.outcome here)
          ∙ from-same one other number (cond (eqb judgement.number number) (Some (mark_after other judgement.number judgement.outcome)) last) history same
      | inr other_number ↦
          let left = cond-false (eqb judgement.number number) (Some (mark_after one judgement.number judgement.outcome)) last other_number in
          let right = cond-false (eqb judgement.number number) (Some (mark_after other judgement.number judgement.outcome)) last other_number in
          ap (λ (so_far : Option Mark). from_mark number so_far (marks_of history one)) left
          ∙ (from-same one other number last history same ∙ ap (λ (so_far : Option Mark). from_mark number so_far (marks_of history other)) (sym right))
    ]

pub marks-others : (history : History) (one other : List Reply) (number : ℕ) → SameAt number one other → mark_of number (marks_of history one) ≡ mark_of number (marks_of history other)
marks-others history one other number same = from-same one other number None history same
