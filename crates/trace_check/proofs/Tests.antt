-- What the tests of a judge say.
use Rattle.std.proofs.Common.{◌≡◌, ◌∙◌, ℕ, ◌+◌, ◌<◌, ◌≤◌, nat_eq, nat_lt, Bool, true, false, IsTrue, ◌↔◌, if◌then◌else◌, List, length, map, Option, Some, None, inl, inr, refl, sym, ap, subst, arith}
use Rattle.std.proofs.lemmas.Option.{slice_get_within}
use Rattle.std.proofs.lemmas.Bool.{both_ways, cases_lt, eq-eqb, eqb-true, lt-ltb, ltb-true}
use Rattle.trace_check.specs.declared.numbered.Numbered.{Numbered}
use Rattle.trace_check.specs.declared.fact.Fact.{Fact}
use Rattle.trace_check.specs.declared.fact.Fact.TheVariants as fact
use Rattle.trace_check.specs.declared.fact.Entry.{Entry}
use Rattle.trace_check.specs.declared.fact.Cause.{Cause}
use Rattle.trace_check.specs.declared.fact.Told.{Told}
use Rattle.trace_check.specs.declared.fact.Told.TheVariants.{Done, Unknown}
use Rattle.trace_check.specs.declared.table.Row.{Row}
use Rattle.trace_check.specs.declared.book.By.TheVariants as by
use Rattle.trace_check.specs.declared.sentence.Sentence.{Sentence}
use Rattle.trace_check.specs.declared.sentence.Sentence.TheVariants as sentence
use Rattle.trace_check.specs.Indexes.{IsRow, row_before, row_later}
use Rattle.trace_check.specs.Facts.{At}
use Rattle.trace_check.specs.Keys.{key_of}
use Rattle.trace_check.specs.Lawful.{Fits, HasBodyBefore, IsLawful, IsNext, IsTrace}
use Rattle.trace_check.specs.Sentences.{DoesWait, HasCause, HasEntry, HasNotRun, IsCause, IsEntryOf, IsNameOf, IsReplaced, Keeps, RanOnce, number_of}
use Rattle.trace_check.specs.Books.{AreEntries, HasBody, HasLater, HasNoneBefore, IsCurrent, IsFirstFrom, IsIdle, IsLastMark, IsPlace, IsWaiting}
use Rattle.trace_check.proofs.Marking.{fact_marks, is_body, is_call, is_name, is_state, marks_fact, one_body, one_name, one_place, one_state, same_fact}
use Rattle.trace_check.proofs.Judging.{same_call, same_entry}

-- ---- where a line may stand

pub fits_at : {A : Type 0} (facts : List Fact) (place : ℕ) (f : Fact) → At facts place f → (A ↔ IsLawful facts place f) → (A ↔ Fits facts place)
fits_at facts place f at h =
    (λ a g is. subst (λ (x : Fact). IsLawful facts place x) (same_fact facts place place f g refl at is) (h.0 a), λ fits. h.1 (fits f at))

pub next_is : (facts : List Fact) (place : ℕ) (call before : Numbered) (b : Bool) → (before.owner ≡ call.owner) × (call.number ≡ before.number + 1) × (1 ≤ before.number)
    → (IsTrue b ↔ HasBodyBefore facts before place) → (IsTrue b ↔ IsNext facts call place)
next_is facts place call before b is h =
    let own : before ≡ record { owner = call.owner; number = before.number } = λ i. record { owner = is.0 i; number = before.number } in (
      λ e. inr (before.number, is.2, is.1, subst (λ (k : Numbered). HasBodyBefore facts k place) own (h.0 e)),
      λ n. elim n [
        | inl first ↦ absurd (omega (arith, first, is.1, is.2))
        | inr later ↦
            let same : later.0 ≡ before.number = omega (arith, later.2, is.1) in
            let k : record { owner = call.owner; number = later.0 } ≡ before = λ i. record { owner = sym is.0 i; number = same i } in
            h.1 (subst (λ (x : Numbered). HasBodyBefore facts x place) k later.3)
      ],
    )

pub first_is : (facts : List Fact) (place : ℕ) (call : Numbered) → call.number < 2 → (nat_eq call.number 1 ≡ true) ↔ IsNext facts call place
first_is facts place call small = (
  λ e. inl (eqb-true call.number 1 e),
  λ n. elim n [ inl first ↦ eq-eqb call.number 1 first | inr later ↦ absurd (omega (arith, small, later.1, later.2)) ],
)

-- ---- at most one entry

pub first_call : (facts : List Fact) → IsTrace facts → (place : ℕ) (call : Numbered) → ((entry : Entry) × IsEntryOf facts call place entry) → HasNoneBefore facts call place ↔ Keeps sentence.AtMostOnce facts place
first_call facts trace place call is = (
  λ none d entry at earlier one less other.
      let same : d ≡ call = same_call facts trace place d call entry is.0 at is.1 in
      none earlier one less (subst (λ (c : Numbered). IsEntryOf facts c earlier one) same other),
  λ keeps earlier one less other. keeps call is.0 is.1 earlier one less other,
)

pub none_before : (facts : List Fact) (place : ℕ) (call : Numbered) (row : Option Row) → AreEntries facts call row → row_before row place ≡ false → HasNoneBefore facts call place
none_before facts place call None entries e = λ earlier one less other. entries (earlier, (one, other))
none_before facts place call (Some row) entries e = λ earlier one less other.
    both_ways (nat_lt row.first place) e (lt-ltb row.first place (let least = entries.least earlier one other in omega (arith, least, less)))

pub some_before : (facts : List Fact) (place : ℕ) (call : Numbered) (row : Option Row) → AreEntries facts call row → row_before row place ≡ true → HasNoneBefore facts call place → ⊥
some_before facts place call None entries e none = cc
some_before facts place call (Some row) entries e none = none row.first entries.first.0 (ltb-true row.first place e) entries.first.1

-- ---- what was asked

pub body_first : (facts : List Fact) → IsTrace facts → (place : ℕ) (call : Numbered) (f : Fact) (request : List ℕ) → At facts place f → key_of by.Body f ≡ Some call
    → ((d : Numbered) × (f ≡ fact.Body d request)) ↔ HasBody facts call request
body_first facts trace place call f request at key =
    let is = is_body f call key in
    let here : At facts place (fact.Body call is.0) = at ∙ ap (λ (x : Fact). Some x) is.1 in (
      λ d.
          let two : fact.Body call is.0 ≡ fact.Body d.0 request = sym is.1 ∙ d.1 in
          let same : is.0 ≡ request = cc in
          (place, subst (λ (b : List ℕ). At facts place (fact.Body call b)) same here),
      λ has. (call, is.1 ∙ ap (λ (b : List ℕ). fact.Body call b) (one_body facts trace place has.0 call is.0 request here has.1)),
    )

-- ---- a call that is done

pub done_at : (facts : List Fact) (place : ℕ) (call : Numbered) (told : Told) → At facts place (fact.State call told)
    → ((reply : List ℕ) → told ≡ Done reply → RanOnce facts call reply) ↔ Keeps sentence.Done facts place
done_at facts place call told at = (
  λ h c reply is.
      let same = same_fact facts place place (fact.State call told) (fact.State c (Done reply)) refl at is in
      let own : call ≡ c = cc in
      let done : told ≡ Done reply = cc in
      subst (λ (x : Numbered). RanOnce facts x reply) own (h reply done),
  λ keeps reply e. keeps call reply (at ∙ ap (λ (t : Told). Some (fact.State call t)) e),
)

pub when_done : (facts : List Fact) (call : Numbered) (told : Told) (own : List ℕ) (b : Bool) → told ≡ Done own → (IsTrue b ↔ RanOnce facts call own) → (IsTrue b ↔ ((reply : List ℕ) → told ≡ Done reply → RanOnce facts call reply))
when_done facts call told own b is h =
    (λ e reply done. let same : own ≡ reply = cc in subst (λ (r : List ℕ). RanOnce facts call r) same (h.0 e), λ all. h.1 (all own is))

-- ---- replaced names

pub current_at : (facts : List Fact) (place : ℕ) (entry : Entry) → At facts place (fact.Entry entry)
    → ((call : Numbered) → IsNameOf facts call entry.name → IsReplaced facts call entry.name → ⊥) ↔ IsCurrent facts place
current_at facts place entry at = (
  λ h call one is replaced.
      let same : one ≡ entry = same_entry facts place one entry is.at at in
      h call (subst (λ (e : Entry). IsNameOf facts call e.name) same is.named) (subst (λ (e : Entry). IsReplaced facts call e.name) same replaced),
  λ current call named replaced. current call entry (record { at = at; named = named }) replaced,
)

pub living_name : (facts : List Fact) → IsTrace facts → (call name : Numbered) → IsNameOf facts call name
    → (IsReplaced facts call name → ⊥) ↔ ((d : Numbered) → IsNameOf facts d name → IsReplaced facts d name → ⊥)
living_name facts trace call name named = (
  λ h d is replaced. let same : d ≡ call = (one_name facts trace is.0 named.0 d call name is.1 named.1).1 in h (subst (λ (x : Numbered). IsReplaced facts x name) same replaced),
  λ all replaced. all call named replaced,
)

pub later_rows : (facts : List Fact) → IsTrace facts → (call name : Numbered) (own all : Option Row) → IsNameOf facts call name → IsRow (map (key_of by.Name) facts) name own → IsRow (map (key_of by.Call) facts) call all
    → IsTrue (row_later own all) ↔ HasLater facts call name
later_rows facts trace call name None all named h g = absurd (h named.0 (fact_marks by.Name facts name named.0 (fact.Name call name) named.1 refl))
later_rows facts trace call name (Some own) None named h g = absurd (g named.0 (fact_marks by.Call facts call named.0 (fact.Name call name) named.1 refl))
later_rows facts trace call name (Some own) (Some all) named h g =
    let first = marks_fact by.Name facts name own.first h.0.stands in
    let is = is_name first.0 name first.2 in
    let there : At facts own.first (fact.Name is.0 name) = first.1 ∙ ap (λ (x : Fact). Some x) is.1 in
    let here : At facts own.first (fact.Name call name) =
    subst (λ (c : Numbered). At facts own.first (fact.Name c name)) (one_name facts trace own.first named.0 is.0 call name there named.1).1 there in
    let mark_last = marks_fact by.Call facts call all.last g.1.stands in
    let last = is_call mark_last.0 call mark_last.2 in
    let beyond_it : At facts all.last (fact.Name call last.0) = mark_last.1 ∙ ap (λ (x : Fact). Some x) last.1 in (
      λ e. (own.first, all.last, last.0, ltb-true own.first all.last e, here, beyond_it),
      λ has.
          let mark = fact_marks by.Name facts name has.0 (fact.Name call name) has.4 refl in
          let later = fact_marks by.Call facts call has.1 (fact.Name call has.2) has.5 refl in
          lt-ltb own.first all.last (elim (cases_lt has.0 own.first) [
            | inl less ↦ absurd (h.0.least has.0 mark less)
            | inr more ↦ elim (cases_lt all.last has.1) [ inl beyond ↦ absurd (g.1.greatest has.1 later beyond) | inr within ↦ omega (arith, more, within, has.3) ]
          ]),
    )

pub waits_first : (facts : List Fact) → IsTrace facts → (place : ℕ) (call : Numbered) (f : Fact) → At facts place f → key_of by.State f ≡ Some call
    → ((c : Numbered) × (told : Told) × (f ≡ fact.State c told) × DoesWait told) ↔ IsWaiting facts call
waits_first facts trace place call f at key =
    let is = is_state f call key in
    let here : At facts place (fact.State call is.0) = at ∙ ap (λ (x : Fact). Some x) is.1 in (
      λ w.
          let two : fact.State call is.0 ≡ fact.State w.0 w.1 = sym is.1 ∙ w.2 in
          let same : w.1 ≡ is.0 = cc in
          (place, is.0, here, subst DoesWait same w.3),
      λ w. (call, is.0, is.1, subst DoesWait (one_state facts trace w.0 place call w.1 is.0 w.2 here) w.3),
    )

-- ---- calls that have not run

pub idle_at : (facts : List Fact) (place : ℕ) (call : Numbered) (told : Told) → At facts place (fact.State call told)
    → (HasNotRun told → HasEntry facts call → ⊥) ↔ IsIdle facts place
idle_at facts place call told at = (
  λ h c t is idle has.
      let same = same_fact facts place place (fact.State c t) (fact.State call told) refl is at in
      let own : c ≡ call = cc in
      let tells : t ≡ told = cc in
      h (subst HasNotRun tells idle) (subst (λ (x : Numbered). HasEntry facts x) own has),
  λ all. all call told at,
)

-- ---- causes

pub cause_at : (facts : List Fact) (place : ℕ) (call : Numbered) (told : Told) → At facts place (fact.State call told)
    → ((cause : Cause) → told ≡ Unknown cause → HasCause facts call cause) ↔ Keeps sentence.Unknown facts place
cause_at facts place call told at = (
  λ h c cause is.
      let same = same_fact facts place place (fact.State call told) (fact.State c (Unknown cause)) refl at is in
      let own : call ≡ c = cc in
      let unknown : told ≡ Unknown cause = cc in
      subst (λ (x : Numbered). HasCause facts x cause) own (h cause unknown),
  λ keeps cause e. keeps call cause (at ∙ ap (λ (t : Told). Some (fact.State call t)) e),
)

pub when_unknown : (facts : List Fact) (call : Numbered) (told : Told) (own : Cause) (b : Bool) → told ≡ Unknown own → (IsTrue b ↔ HasCause facts call own) → (IsTrue b ↔ ((cause : Cause) → told ≡ Unknown cause → HasCause facts call cause))
when_unknown facts call told own b is h =
    (λ e cause unknown. let same : own ≡ cause = cc in subst (λ (k : Cause). HasCause facts call k) same (h.0 e), λ all. h.1 (all own is))

pub lost_last : (facts : List Fact) (call : Numbered) (f : Fact) (cause : Cause) → IsLastMark by.Call facts call f
    → ((c name : Numbered) × (f ≡ fact.Name c name) × IsCause facts name cause) ↔ HasCause facts call cause
lost_last facts call f cause mark =
    let is = is_call f call mark.marks in
    let here : At facts mark.place (fact.Name call is.0) = mark.at ∙ ap (λ (x : Fact). Some x) is.1 in (
      λ w.
          let two : fact.Name w.0 w.1 ≡ fact.Name call is.0 = sym w.2 ∙ is.1 in
          let same : w.1 ≡ is.0 = cc in
          record {
            name = is.0;
            last = record {
              place = mark.place;
              at = here;
              last = λ later other less at. mark.last later less (fact_marks by.Call facts call later (fact.Name call other) at refl);
            };
            holds = subst (λ (n : Numbered). IsCause facts n cause) same w.3;
          },
      λ has.
          let there = fact_marks by.Call facts call has.last.place (fact.Name call has.name) has.last.at refl in
          let e = one_place mark.place has.last.place (λ less. mark.last has.last.place less there) (λ less. has.last.last mark.place is.0 less here) in
          (call, has.name, same_fact facts mark.place has.last.place f (fact.Name call has.name) e mark.at has.last.at, has.holds),
    )

-- ---- the first break

pub beyond_all : (sentence : Sentence) → number_of sentence < 7
beyond_all sentence.AtMostOnce = omega arith
beyond_all sentence.AsSent = omega arith
beyond_all sentence.Done = omega arith
beyond_all sentence.Replaced = omega arith
beyond_all sentence.Unknown = omega arith
beyond_all sentence.Served = omega arith

abbrev sentence_at : ℕ → Sentence
sentence_at n =
    if nat_eq n 1 then sentence.AtMostOnce else if nat_eq n 2 then sentence.AsSent else if nat_eq n 3 then sentence.Done
    else if nat_eq n 4 then sentence.Replaced else if nat_eq n 5 then sentence.Unknown else sentence.Served

at_number : (s : Sentence) → sentence_at (number_of s) ≡ s
at_number sentence.AtMostOnce = refl
at_number sentence.AsSent = refl
at_number sentence.Done = refl
at_number sentence.Replaced = refl
at_number sentence.Unknown = refl
at_number sentence.Served = refl

pub same_sentence : (s t : Sentence) → number_of s ≡ number_of t → s ≡ t
same_sentence s t e = sym (at_number s) ∙ (ap sentence_at e ∙ at_number t)

-- behind the last sentence there is none
pub none_beyond : (facts : List Fact) → IsFirstFrom facts 7 None
none_beyond facts = λ s place beyond. let below = beyond_all s in absurd (omega (arith, beyond, below))

pub break_here : (facts : List Fact) (s : Sentence) (place : ℕ) → IsPlace s facts place → IsFirstFrom facts (number_of s) (Some (s, place))
break_here facts s place is = record {
  reached = omega arith;
  earlier = λ other p from before. absurd (omega (arith, from, before));
  is = is;
}

keeps_or_later : (facts : List Fact) (s other : Sentence) (p : ℕ) → ((at : ℕ) → Keeps s facts at) → number_of s ≤ number_of other → (number_of s + 1 ≤ number_of other → Keeps other facts p) → Keeps other facts p
keeps_or_later facts s other p keeps from later = elim (cases_lt (number_of s) (number_of other)) [
  | inl less ↦ later (omega (arith, less))
  | inr more ↦ subst (λ (t : Sentence). Keeps t facts p) (same_sentence s other (omega (arith, from, more))) (keeps p)
]

pub break_later : (facts : List Fact) (s : Sentence) (found : Option (Sentence × ℕ)) → ((at : ℕ) → Keeps s facts at) → IsFirstFrom facts (number_of s + 1) found → IsFirstFrom facts (number_of s) found
break_later facts s None keeps h = λ other p from. keeps_or_later facts s other p keeps from (λ more. h other p more)
break_later facts s (Some b) keeps h = record {
  reached = omega (arith, h.reached);
  earlier = λ other p from before. keeps_or_later facts s other p keeps from (λ more. h.earlier other p more before);
  is = h.is;
}

-- ---- places that were looked at

pub past : (facts : List Fact) (place : ℕ) (f : Fact) → length facts ≤ place → At facts place f → ⊥
past facts place f beyond at = let within = slice_get_within facts place f at in omega (arith, beyond, within)

pub beyond_facts : (s : Sentence) (facts : List Fact) (place : ℕ) → length facts ≤ place → Keeps s facts place
beyond_facts sentence.AtMostOnce facts place beyond = λ call entry is earlier one less other. past facts place (fact.Entry entry) beyond is.at
beyond_facts sentence.AsSent facts place beyond = λ entry at. absurd (past facts place (fact.Entry entry) beyond at)
beyond_facts sentence.Done facts place beyond = λ call reply at. absurd (past facts place (fact.State call (Done reply)) beyond at)
beyond_facts sentence.Replaced facts place beyond =
    (λ call entry is replaced. past facts place (fact.Entry entry) beyond is.at, λ call told at idle has. past facts place (fact.State call told) beyond at)
beyond_facts sentence.Unknown facts place beyond = λ call cause at. absurd (past facts place (fact.State call (Unknown cause)) beyond at)
beyond_facts sentence.Served facts place beyond = λ entry at ran. absurd (past facts place (fact.Entry entry) beyond at)
