-- What is owed to the bytes of a trace, by what is found of them.
use Rattle.std.proofs.Common.{◌≡◌, ◌∙◌, ℕ, ◌≤◌, codes, length, List, Option, Some, None, Result, Ok, Err, IfOk, IfSome, inl, inr, subst}
use Rattle.statuses.specs.Lines.{input_bytes_max, refusal_line}
use Rattle.statuses.specs.declared.answer.Answer.{Answer}
use Rattle.statuses.specs.declared.status.Status.TheVariants as status
use Rattle.trace_check.specs.declared.checking.Checked.{Checked}
use Rattle.trace_check.specs.declared.checking.Checked.TheVariants.{Yes, Broken}
use Rattle.trace_check.specs.declared.checking.CheckFault.{CheckFault}
use Rattle.trace_check.specs.declared.checking.CheckFault.TheVariants.{BadLine}
use Rattle.trace_check.specs.Answers.{IsFaultOf, IsFoundIn}
use Rattle.cmd_check.specs.Check.{IsOfCheck, Owes, broken_line, yes_line}

pub yes-owes : {E : Type 0} (text : List ℕ) (found : Checked) (r : Result Answer E) → length text ≤ input_bytes_max → found ≡ Yes → IsFoundIn text found → IfOk r (λ a. a.status ≡ status.Done)
    → IfOk r (λ a. a.text ≡ yes_line) → IfOk r (λ a. Owes text a.status a.text)
yes-owes text found (Ok a) short is h said told = inl (said, record { short = short; all_hold = subst (λ (f : Checked). IsFoundIn text f) is h }, told)
yes-owes text found (Err e) short is h said told = tt

pub broken-owes : {E : Type 0} (text : List ℕ) (found : Checked) (clause line : ℕ) (r : Result Answer E) → length text ≤ input_bytes_max → found ≡ Broken clause line → IsFoundIn text found
    → IfOk r (λ a. a.status ≡ status.Broken) → IfOk r (λ a. a.text ≡ broken_line clause line) → IfOk r (λ a. Owes text a.status a.text)
broken-owes text found clause line (Ok a) short is h said told =
    inr (inl (said, (clause, line, record { short = short; broken = subst (λ (f : Checked). IsFoundIn text f) is h }, told)))
broken-owes text found clause line (Err e) short is h said told = tt

pub bad-owes : {E : Type 0} (text : List ℕ) (fault : CheckFault) (line : ℕ) (r : Result Answer E) → length text ≤ input_bytes_max → fault ≡ BadLine line → IsFaultOf text fault
    → IfOk r (λ a. a.status ≡ status.InputRefused) → IfOk r (λ a. a.text ≡ refusal_line line (codes "bad line")) → IfOk r (λ a. Owes text a.status a.text)
bad-owes text fault line (Ok a) short is h said told =
    inr (inr (said, inr (line, record { short = short; bad = subst (λ (f : CheckFault). IsFaultOf text f) is h; told = told })))
bad-owes text fault line (Err e) short is h said told = tt

pub yes-of : {E : Type 0} (r : Result Answer E) → IfOk r (λ a. a.status ≡ status.Done) → IfOk r (λ a. IsOfCheck a.status)
yes-of (Ok a) said = inl said
yes-of (Err e) said = tt

pub broken-of : {E : Type 0} (r : Result Answer E) → IfOk r (λ a. a.status ≡ status.Broken) → IfOk r (λ a. IsOfCheck a.status)
broken-of (Ok a) said = inr (inl said)
broken-of (Err e) said = tt

pub bad-of : {E : Type 0} (r : Result Answer E) → IfOk r (λ a. a.status ≡ status.InputRefused) → IfOk r (λ a. IsOfCheck a.status)
bad-of (Ok a) said = inr (inr said)
bad-of (Err e) said = tt

-- ---- where the text is what was left

pub owes-left : (input : Option (List ℕ)) (text bytes : List ℕ) (a : Answer) → bytes ≡ text → IfSome input (λ left. text ≡ left) → Owes bytes a.status a.text → IfSome input (λ left. Owes left a.status a.text)
owes-left None text bytes a are same h = tt
owes-left (Some left) text bytes a are same h = subst (λ (t : List ℕ). Owes t a.status a.text) (are ∙ same) h
