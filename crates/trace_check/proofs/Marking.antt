-- Lines that speak of a key, and what they say.
use Rattle.std.proofs.Common.{◌≡◌, ◌∙◌, ℕ, ◌<◌, ◌↔◌, List, Some, inl, inr, refl, sym, ap, arith}
use Rattle.std.specs.List.{slice_get}
use Rattle.std.specs.Option.{option_map}
use Rattle.std.proofs.lemmas.Option.{slice_get-map}
use Rattle.std.proofs.lemmas.Bool.{cases_lt}
use Rattle.trace_check.specs.declared.numbered.Numbered.{Numbered}
use Rattle.trace_check.specs.declared.fact.Fact.{Fact}
use Rattle.trace_check.specs.declared.fact.Fact.TheVariants.{Body, Name, State, Entry, Made, Left, Closed, Gone, Outside}
use Rattle.trace_check.specs.declared.fact.Told.{Told}
use Rattle.trace_check.specs.declared.book.By.{By}
use Rattle.trace_check.specs.declared.book.By.TheVariants as by
use Rattle.trace_check.specs.Facts.{At, IsSaid, IsSaidTwice}
use Rattle.trace_check.specs.Keys.{IsMarked, IsMarkedBefore, IsMarkedTwice, Marks, key_of, whole}
use Rattle.trace_check.specs.Lawful.{HasBodyBefore, HasNameBefore, HasState, HasStateBefore, IsTrace}
use Rattle.trace_check.proofs.Steps.{mapped}

-- a line that speaks of a key says something that does
pub marks_fact : (by : By) (facts : List Fact) (key : Numbered) (place : ℕ) → Marks by facts key place → (fact : Fact) × At facts place fact × (key_of by fact ≡ Some key)
marks_fact by facts key place marks =
    mapped (key_of by) (slice_get facts place) (Some key) (sym (slice_get-map (key_of by) facts place) ∙ marks)

-- a line that says something that speaks of a key does
pub fact_marks : (by : By) (facts : List Fact) (key : Numbered) (place : ℕ) (fact : Fact) → At facts place fact → key_of by fact ≡ Some key → Marks by facts key place
fact_marks by facts key place fact at is = slice_get-map (key_of by) facts place ∙ (ap (λ o. option_map (key_of by) o) at ∙ ap (λ k. Some k) is)

-- ---- what speaks of a key, by its kind

pub is_body : (fact : Fact) (call : Numbered) → key_of by.Body fact ≡ Some call → (body : List ℕ) × (fact ≡ Body call body)
is_body (Body own body) call e = let same : own ≡ call = cc in (body, ap (λ (c : Numbered). Body c body) same)
is_body (Name _ _) call e = absurd cc
is_body (State _ _) call e = absurd cc
is_body (Entry _) call e = absurd cc
is_body (Made _) call e = absurd cc
is_body (Left _) call e = absurd cc
is_body (Closed _) call e = absurd cc
is_body (Gone _) call e = absurd cc
is_body Outside call e = absurd cc

pub is_state : (fact : Fact) (call : Numbered) → key_of by.State fact ≡ Some call → (told : Told) × (fact ≡ State call told)
is_state (Body _ _) call e = absurd cc
is_state (Name _ _) call e = absurd cc
is_state (State own told) call e = let same : own ≡ call = cc in (told, ap (λ (c : Numbered). State c told) same)
is_state (Entry _) call e = absurd cc
is_state (Made _) call e = absurd cc
is_state (Left _) call e = absurd cc
is_state (Closed _) call e = absurd cc
is_state (Gone _) call e = absurd cc
is_state Outside call e = absurd cc

pub is_name : (fact : Fact) (name : Numbered) → key_of by.Name fact ≡ Some name → (call : Numbered) × (fact ≡ Name call name)
is_name (Body _ _) name e = absurd cc
is_name (Name call own) name e = let same : own ≡ name = cc in (call, ap (λ (n : Numbered). Name call n) same)
is_name (State _ _) name e = absurd cc
is_name (Entry _) name e = absurd cc
is_name (Made _) name e = absurd cc
is_name (Left _) name e = absurd cc
is_name (Closed _) name e = absurd cc
is_name (Gone _) name e = absurd cc
is_name Outside name e = absurd cc

pub is_call : (fact : Fact) (call : Numbered) → key_of by.Call fact ≡ Some call → (name : Numbered) × (fact ≡ Name call name)
is_call (Body _ _) call e = absurd cc
is_call (Name own name) call e = let same : own ≡ call = cc in (name, ap (λ (c : Numbered). Name c name) same)
is_call (State _ _) call e = absurd cc
is_call (Entry _) call e = absurd cc
is_call (Made _) call e = absurd cc
is_call (Left _) call e = absurd cc
is_call (Closed _) call e = absurd cc
is_call (Gone _) call e = absurd cc
is_call Outside call e = absurd cc

-- a session, as what speaks of it says
same_session : (own session : ℕ) → Some (whole own) ≡ Some (whole session) → own ≡ session
same_session own session e = let same : whole own ≡ whole session = cc in ap (λ (k : Numbered). k.owner) same

pub is_made : (fact : Fact) (session : ℕ) → key_of by.Made fact ≡ Some (whole session) → fact ≡ Made session
is_made (Body _ _) session e = absurd cc
is_made (Name _ _) session e = absurd cc
is_made (State _ _) session e = absurd cc
is_made (Entry _) session e = absurd cc
is_made (Made own) session e = ap (λ (s : ℕ). Made s) (same_session own session e)
is_made (Left _) session e = absurd cc
is_made (Closed _) session e = absurd cc
is_made (Gone _) session e = absurd cc
is_made Outside session e = absurd cc

pub is_left : (fact : Fact) (session : ℕ) → key_of by.Left fact ≡ Some (whole session) → fact ≡ Left session
is_left (Body _ _) session e = absurd cc
is_left (Name _ _) session e = absurd cc
is_left (State _ _) session e = absurd cc
is_left (Entry _) session e = absurd cc
is_left (Made _) session e = absurd cc
is_left (Left own) session e = ap (λ (s : ℕ). Left s) (same_session own session e)
is_left (Closed _) session e = absurd cc
is_left (Gone _) session e = absurd cc
is_left Outside session e = absurd cc

pub is_closed : (fact : Fact) (session : ℕ) → key_of by.Closed fact ≡ Some (whole session) → fact ≡ Closed session
is_closed (Body _ _) session e = absurd cc
is_closed (Name _ _) session e = absurd cc
is_closed (State _ _) session e = absurd cc
is_closed (Entry _) session e = absurd cc
is_closed (Made _) session e = absurd cc
is_closed (Left _) session e = absurd cc
is_closed (Closed own) session e = ap (λ (s : ℕ). Closed s) (same_session own session e)
is_closed (Gone _) session e = absurd cc
is_closed Outside session e = absurd cc

pub is_gone : (fact : Fact) (name : Numbered) → key_of by.Gone fact ≡ Some name → fact ≡ Gone name
is_gone (Body _ _) name e = absurd cc
is_gone (Name _ _) name e = absurd cc
is_gone (State _ _) name e = absurd cc
is_gone (Entry _) name e = absurd cc
is_gone (Made _) name e = absurd cc
is_gone (Left _) name e = absurd cc
is_gone (Closed _) name e = absurd cc
is_gone (Gone own) name e = let same : own ≡ name = cc in ap (λ (n : Numbered). Gone n) same
is_gone Outside name e = absurd cc

-- ---- what a table finds, and what stands in the facts

one_of : (facts : List Fact) (place : ℕ) (fact other : Fact) → At facts place fact → fact ≡ other → At facts place other
one_of facts place fact other at same = at ∙ ap (λ (f : Fact). Some f) same

pub body_before : (facts : List Fact) (call : Numbered) (place : ℕ) → IsMarkedBefore by.Body facts call place ↔ HasBodyBefore facts call place
body_before facts call place = (
  λ m. let f = marks_fact by.Body facts call m.0 m.2 in let is = is_body f.0 call f.2 in (m.0, is.0, m.1, one_of facts m.0 f.0 (Body call is.0) f.1 is.1),
  λ h. (h.0, h.2, fact_marks by.Body facts call h.0 (Body call h.1) h.3 refl),
)

pub name_before : (facts : List Fact) (name : Numbered) (place : ℕ) → IsMarkedBefore by.Name facts name place ↔ HasNameBefore facts name place
name_before facts name place = (
  λ m. let f = marks_fact by.Name facts name m.0 m.2 in let is = is_name f.0 name f.2 in (m.0, is.0, m.1, one_of facts m.0 f.0 (Name is.0 name) f.1 is.1),
  λ h. (h.0, h.2, fact_marks by.Name facts name h.0 (Name h.1 name) h.3 refl),
)

pub state_before : (facts : List Fact) (call : Numbered) (place : ℕ) → IsMarkedBefore by.State facts call place ↔ HasStateBefore facts call place
state_before facts call place = (
  λ m. let f = marks_fact by.State facts call m.0 m.2 in let is = is_state f.0 call f.2 in (m.0, is.0, m.1, one_of facts m.0 f.0 (State call is.0) f.1 is.1),
  λ h. (h.0, h.2, fact_marks by.State facts call h.0 (State call h.1) h.3 refl),
)

pub state_told : (facts : List Fact) (call : Numbered) → IsMarked by.State facts call ↔ HasState facts call
state_told facts call = (
  λ m. let f = marks_fact by.State facts call m.0 m.1 in let is = is_state f.0 call f.2 in (m.0, is.0, one_of facts m.0 f.0 (State call is.0) f.1 is.1),
  λ h. (h.0, fact_marks by.State facts call h.0 (State call h.1) h.2 refl),
)

made_at : (facts : List Fact) (session place : ℕ) → Marks by.Made facts (whole session) place → At facts place (Made session)
made_at facts session place marks =
    let f = marks_fact by.Made facts (whole session) place marks in
    one_of facts place f.0 (Made session) f.1 (is_made f.0 session f.2)

pub made_twice : (facts : List Fact) (session : ℕ) → IsMarkedTwice by.Made facts (whole session) ↔ IsSaidTwice facts (Made session)
made_twice facts session = (
  λ m. (m.0, m.1, m.2, made_at facts session m.0 m.3, made_at facts session m.1 m.4),
  λ h. (h.0, h.1, h.2, fact_marks by.Made facts (whole session) h.0 (Made session) h.3 refl, fact_marks by.Made facts (whole session) h.1 (Made session) h.4 refl),
)

pub left_said : (facts : List Fact) (session : ℕ) → IsMarked by.Left facts (whole session) ↔ IsSaid facts (Left session)
left_said facts session = (
  λ m. let f = marks_fact by.Left facts (whole session) m.0 m.1 in (m.0, one_of facts m.0 f.0 (Left session) f.1 (is_left f.0 session f.2)),
  λ h. (h.0, fact_marks by.Left facts (whole session) h.0 (Left session) h.1 refl),
)

pub closed_said : (facts : List Fact) (session : ℕ) → IsMarked by.Closed facts (whole session) ↔ IsSaid facts (Closed session)
closed_said facts session = (
  λ m. let f = marks_fact by.Closed facts (whole session) m.0 m.1 in (m.0, one_of facts m.0 f.0 (Closed session) f.1 (is_closed f.0 session f.2)),
  λ h. (h.0, fact_marks by.Closed facts (whole session) h.0 (Closed session) h.1 refl),
)

pub gone_said : (facts : List Fact) (name : Numbered) → IsMarked by.Gone facts name ↔ IsSaid facts (Gone name)
gone_said facts name = (
  λ m. let f = marks_fact by.Gone facts name m.0 m.1 in (m.0, one_of facts m.0 f.0 (Gone name) f.1 (is_gone f.0 name f.2)),
  λ h. (h.0, fact_marks by.Gone facts name h.0 (Gone name) h.1 refl),
)

-- ---- a trace has one body and one state of a call, and each name once

pub one_place : (p q : ℕ) → (p < q → ⊥) → (q < p → ⊥) → p ≡ q
one_place p q a b = elim (cases_lt p q) [ inl less ↦ absurd (a less) | inr more ↦ elim (cases_lt q p) [ inl less ↦ absurd (b less) | inr most ↦ omega (arith, more, most) ] ]

pub same_fact : (facts : List Fact) (p q : ℕ) (a b : Fact) → p ≡ q → At facts p a → At facts q b → a ≡ b
same_fact facts p q a b e at other = let h : slice_get facts p ≡ slice_get facts q = ap (λ n. slice_get facts n) e in let s : Some a ≡ Some b = sym at ∙ (h ∙ other) in cc

pub one_name : (facts : List Fact) → IsTrace facts → (p q : ℕ) (c d name : Numbered) → At facts p (Name c name) → At facts q (Name d name) → (p ≡ q) × (c ≡ d)
one_name facts trace p q c d name at other =
    let e = one_place p q (λ less. (trace q (Name d name) other).new (p, c, less, at))
    (λ less. (trace p (Name c name) at).new (q, d, less, other)) in
    let same = same_fact facts p q (Name c name) (Name d name) e at other in
    (e, cc)

pub one_body : (facts : List Fact) → IsTrace facts → (p q : ℕ) (call : Numbered) (body other_body : List ℕ) → At facts p (Body call body) → At facts q (Body call other_body) → body ≡ other_body
one_body facts trace p q call body other_body at other =
    let e = one_place p q (λ less. (trace q (Body call other_body) other).new (p, body, less, at))
    (λ less. (trace p (Body call body) at).new (q, other_body, less, other)) in
    let same = same_fact facts p q (Body call body) (Body call other_body) e at other in
    cc

pub one_state : (facts : List Fact) → IsTrace facts → (p q : ℕ) (call : Numbered) (told other_told : Told) → At facts p (State call told) → At facts q (State call other_told) → told ≡ other_told
one_state facts trace p q call told other_told at other =
    let e = one_place p q (λ less. (trace q (State call other_told) other).new (p, told, less, at))
    (λ less. (trace p (State call told) at).new (q, other_told, less, other)) in
    let same = same_fact facts p q (State call told) (State call other_told) e at other in
    cc
