-- What lines of a trace say of calls and entries.
use Rattle.std.proofs.Common.{◌≡◌, ◌∙◌, ℕ, ◌<◌, true, false, ◌↔◌, List, length, Option, Some, None, inl, inr, refl, sym, subst, arith}
use Rattle.std.proofs.lemmas.Option.{slice_get_within}
use Rattle.std.proofs.lemmas.Bool.{cases_lt}
use Rattle.trace_check.specs.declared.numbered.Numbered.{Numbered}
use Rattle.trace_check.specs.declared.fact.Fact.{Fact}
use Rattle.trace_check.specs.declared.fact.Fact.TheVariants as fact
use Rattle.trace_check.specs.declared.fact.Entry.{Entry}
use Rattle.trace_check.specs.declared.table.Row.{Row}
use Rattle.trace_check.specs.declared.sentence.Sentence.TheVariants as sentence
use Rattle.trace_check.specs.Indexes.{Stands, IsRow}
use Rattle.trace_check.specs.Facts.{At}
use Rattle.trace_check.specs.Lawful.{IsTrace}
use Rattle.trace_check.specs.Sentences.{IsEntryOf, IsNameOf, Keeps, RanOnce, WasAsked}
use Rattle.trace_check.specs.Books.{AreCallers, AreEntries, AreEntriesAt, HasBody, HasReplied, IsCallerAt}
use Rattle.trace_check.proofs.Marking.{one_name, same_fact}

-- ---- equivalences

pub iff_by : {A B C : Type 0} → (A ↔ B) → (B ↔ C) → (A ↔ C)
iff_by f g = (λ a. g.0 (f.0 a), λ c. f.1 (g.1 c))

pub yes : {A : Type 0} → A → (true ≡ true) ↔ A
yes a = (λ e. a, λ b. refl)

pub no : {A : Type 0} → (A → ⊥) → (false ≡ true) ↔ A
no not = (λ e. absurd cc, λ a. absurd (not a))

-- ---- entries and their calls

pub same_entry : (facts : List Fact) (place : ℕ) (a b : Entry) → At facts place (fact.Entry a) → At facts place (fact.Entry b) → a ≡ b
same_entry facts place a b at other = let same = same_fact facts place place (fact.Entry a) (fact.Entry b) refl at other in cc

pub same_call : (facts : List Fact) → IsTrace facts → (place : ℕ) (c d : Numbered) (a b : Entry) → IsEntryOf facts c place a → IsEntryOf facts d place b → c ≡ d
same_call facts trace place c d a b at other =
    let same : a ≡ b = same_entry facts place a b at.at other.at in
    let named : IsNameOf facts c b.name = subst (λ (e : Entry). IsNameOf facts c e.name) same at.named in
    (one_name facts trace named.0 other.named.0 c d b.name named.1 other.named.1).1

-- the rows of a table of callers are the entries of a call
pub entries_row : (facts : List Fact) (keys : List (Option Numbered)) (call : Numbered) (row : Option Row) → AreCallers facts keys → length keys ≡ length facts → IsRow keys call row → AreEntries facts call row
entries_row facts keys call None callers whole is = λ has.
    let within : has.0 < length facts = slice_get_within facts has.0 (fact.Entry has.1.0) has.1.1.at in
    is has.0 (callers.has_caller has.0 call has.1.0 (omega (arith, whole, within)) has.1.1)
entries_row facts keys call (Some row) callers whole is =
    let stands : (place : ℕ) (entry : Entry) → IsEntryOf facts call place entry → Stands keys place call = λ place entry e.
    let within : place < length facts = slice_get_within facts place (fact.Entry entry) e.at in
    callers.has_caller place call entry (omega (arith, whole, within)) e in
    record {
      first = callers.is_caller row.first call is.0.stands;
      last = callers.is_caller row.last call is.1.stands;
      least = λ place entry e. elim (cases_lt place row.first) [ inl less ↦ absurd (is.0.least place (stands place entry e) less) | inr more ↦ more ];
      greatest = λ place entry e. elim (cases_lt row.last place) [ inl less ↦ absurd (is.1.greatest place (stands place entry e) less) | inr more ↦ more ];
    }

-- ---- at most one entry

pub first_none : (facts : List Fact) (place : ℕ) → IsCallerAt facts place None → Keeps sentence.AtMostOnce facts place
first_none facts place none = λ call entry is earlier one less other. none call entry is

-- ---- what was asked

pub asked_call : (facts : List Fact) → IsTrace facts → (call : Numbered) (entry : Entry) → IsNameOf facts call entry.name → HasBody facts call entry.request ↔ WasAsked facts entry
asked_call facts trace call entry named = (
  λ body. record { call = call; named = named; body_at = body.0; request = body.1 },
  λ was.
      let same : was.call ≡ call = (one_name facts trace was.named.0 named.0 was.call call entry.name was.named.1 named.1).1 in
      (was.body_at, subst (λ (c : Numbered). At facts was.body_at (fact.Body c entry.request)) same was.request),
)

pub asked_at : (facts : List Fact) (place : ℕ) (entry : Entry) → At facts place (fact.Entry entry) → WasAsked facts entry ↔ Keeps sentence.AsSent facts place
asked_at facts place entry at =
    (λ was other is. subst (λ (e : Entry). WasAsked facts e) (same_entry facts place entry other at is) was, λ keeps. keeps entry at)

-- ---- a call that is done

pub only_row : (facts : List Fact) (call : Numbered) (row : Row) (reply : List ℕ) → AreEntriesAt facts call row
    → ((row.first ≡ row.last) × HasReplied facts row.first reply) ↔ RanOnce facts call reply
only_row facts call row reply rows = (
  λ is.
      let same : is.1.0 ≡ rows.first.0 = same_entry facts row.first is.1.0 rows.first.0 is.1.1 rows.first.1.at in
      record {
        place = row.first;
        entry = rows.first.0;
        is = rows.first.1;
        only = λ other one e. let least = rows.least other one e in let greatest = rows.greatest other one e in let once = is.0 in omega (arith, least, greatest, once);
        replied = subst (λ (e : Entry). e.reply ≡ reply) same is.1.2;
      },
  λ ran.
      let first = ran.only row.first rows.first.0 rows.first.1 in
      let last = ran.only row.last rows.last.0 rows.last.1 in
      (first ∙ sym last, (ran.entry, subst (λ (p : ℕ). At facts p (fact.Entry ran.entry)) (sym first) ran.is.at, ran.replied)),
)
