-- A text has one answer, and it is the one that is given.
use Rattle.std.proofs.Common.{◌≡◌, ◌∙◌, ℕ, ◌<◌, List, Result, Ok, Err, IfOk, IfErr, OnOk, inl, inr, refl, sym, subst, arith}
use Rattle.std.proofs.lemmas.Bool.{cases_lt}
use Rattle.sched_text.specs.Lines.{lines_in}
use Rattle.trace_check.specs.declared.fact.Fact.{Fact}
use Rattle.trace_check.specs.declared.sentence.Sentence.{Sentence}
use Rattle.trace_check.specs.declared.checking.Checked.{Checked}
use Rattle.trace_check.specs.declared.checking.Checked.TheVariants.{Yes, Broken}
use Rattle.trace_check.specs.declared.checking.CheckFault.{CheckFault}
use Rattle.trace_check.specs.declared.checking.CheckFault.TheVariants.{BadLine, Memory}
use Rattle.trace_check.specs.Facts.{Spells, line_numbers}
use Rattle.trace_check.specs.Lawful.{IsFirstBadLine, IsTrace}
use Rattle.trace_check.specs.Answers.{HasBadLine, IsBroken, IsFaultOf, IsFoundIn, Shows}
use Rattle.trace_check.specs.Books.{IsFault, IsFound}
use Rattle.trace_check.specs.Reading.{facts_of}
use Rattle.trace_check.proofs.Meanings.{AreRead, lines_say, one_spelling}
use Rattle.trace_check.proofs.Tests.{same_sentence}

-- ---- of facts

no_less : (facts : List Fact) (numbers : List ℕ) (c l d m : ℕ) → IsBroken facts numbers c l → IsBroken facts numbers d m → c < d → ⊥
no_less facts numbers c l d m one other less = one.fails (other.earlier one.sentence (subst (λ (n : ℕ). n < d) one.numbered less))

same_clause : (facts : List Fact) (numbers : List ℕ) (c l d m : ℕ) → IsBroken facts numbers c l → IsBroken facts numbers d m → c ≡ d
same_clause facts numbers c l d m one other = elim (cases_lt c d) [
  | inl less ↦ absurd (no_less facts numbers c l d m one other less)
  | inr more ↦ elim (cases_lt d c) [ inl less ↦ absurd (no_less facts numbers d m c l other one less) | inr most ↦ omega (arith, more, most) ]
]

same_line : (facts : List Fact) (numbers : List ℕ) (c l d m : ℕ) → IsBroken facts numbers c l → IsBroken facts numbers d m → l ≡ m
same_line facts numbers c l d m one other =
    let clauses = same_clause facts numbers c l d m one other in
    let sentences : one.sentence ≡ other.sentence = same_sentence one.sentence other.sentence (sym one.numbered ∙ (clauses ∙ other.numbered)) in
    let below = one.least m (subst (λ (s : Sentence). Shows s facts numbers m) (sym sentences) other.shown) in
    let above = other.least l (subst (λ (s : Sentence). Shows s facts numbers l) sentences one.shown) in
    omega (arith, below, above)

same_found : (facts : List Fact) (numbers : List ℕ) (one other : Checked) → IsFound facts numbers one → IsFound facts numbers other → one ≡ other
same_found facts numbers Yes Yes h g = refl
same_found facts numbers Yes (Broken c l) h g = absurd (g.fails (h g.sentence))
same_found facts numbers (Broken c l) Yes h g = absurd (h.fails (g h.sentence))
same_found facts numbers (Broken c l) (Broken d m) h g =
    let clauses = same_clause facts numbers c l d m h g in
    let lines = same_line facts numbers c l d m h g in
    λ i. Broken (clauses i) (lines i)

no_bad_line : (facts : List Fact) (numbers : List ℕ) (bad : ℕ) → IsTrace facts → IsFirstBadLine facts numbers bad → ⊥
no_bad_line facts numbers bad trace is = is.is.2 (trace is.is.0)

same_bad_line : (facts : List Fact) (numbers : List ℕ) (bad other : ℕ) → IsFirstBadLine facts numbers bad → IsFirstBadLine facts numbers other → bad ≡ other
same_bad_line facts numbers bad other h g = let below = h.first other g.is in let above = g.first bad h.is in omega (arith, below, above)

-- ---- of a text

-- what is found of a text is found of its facts, which are lawful
of_facts : (text : List ℕ) (checked : Checked) → IsFoundIn text checked → (facts : List Fact) × Spells text facts × IsTrace facts × IsFound facts (line_numbers text) checked
of_facts text Yes h = (h.facts, h.spelled, h.lawful, h.all_hold)
of_facts text (Broken c l) h = (h.facts, h.spelled, h.lawful, h.broken)

module _ (known : AreRead) where
  pub one_found : (text : List ℕ) (one other : Checked) → IsFoundIn text one → IsFoundIn text other → one ≡ other
  one_found text one other h g =
      let a = of_facts text one h in
      let b = of_facts text other g in
      same_found b.0 (line_numbers text) one other (subst (λ (f : List Fact). IsFound f (line_numbers text) one) (one_spelling known text a.0 b.0 a.1 b.1) a.3) b.3

  pub not_both_found : (text : List ℕ) (one : Checked) (bad : ℕ) → IsFoundIn text one → HasBadLine text bad → ⊥
  not_both_found text one bad h g =
      let a = of_facts text one h in
      no_bad_line g.facts (line_numbers text) bad (subst IsTrace (one_spelling known text a.0 g.facts a.1 g.spelled) a.2) g.bad

  pub one_bad_line : (text : List ℕ) (bad other : ℕ) → HasBadLine text bad → HasBadLine text other → bad ≡ other
  one_bad_line text bad other h g =
      same_bad_line g.facts (line_numbers text) bad other (subst (λ (f : List Fact). IsFirstBadLine f (line_numbers text) bad) (one_spelling known text h.facts g.facts h.spelled g.spelled) h.bad) g.bad

  -- ---- the answer that is given

  found_in : (text : List ℕ) (checked : Checked) → IsTrace (facts_of (lines_in text)) → IsFound (facts_of (lines_in text)) (line_numbers text) checked → IsFoundIn text checked
  found_in text Yes trace h = record { facts = facts_of (lines_in text); spelled = lines_say known (lines_in text); lawful = trace; all_hold = h }
  found_in text (Broken c l) trace h = record { facts = facts_of (lines_in text); spelled = lines_say known (lines_in text); lawful = trace; broken = h }

  pub found_of : (text : List ℕ) (r : Result Checked CheckFault) → OnOk r (IsTrace (facts_of (lines_in text))) → IfOk r (IsFound (facts_of (lines_in text)) (line_numbers text)) → IfOk r (IsFoundIn text)
  found_of text (Ok checked) trace h = found_in text checked trace h
  found_of text (Err fault) trace h = tt

  fault_in : (text : List ℕ) (fault : CheckFault) → IsFault (facts_of (lines_in text)) (line_numbers text) fault → IsFaultOf text fault
  fault_in text (BadLine line) h = record { facts = facts_of (lines_in text); spelled = lines_say known (lines_in text); bad = h }
  fault_in text Memory h = tt

  pub fault_of : (text : List ℕ) (r : Result Checked CheckFault) → IfErr r (IsFault (facts_of (lines_in text)) (line_numbers text)) → IfErr r (IsFaultOf text)
  fault_of text (Ok checked) h = tt
  fault_of text (Err fault) h = fault_in text fault h
