-- What the tables of a book say.
use Rattle.std.proofs.Common.{◌≡◌, ◌∙◌, ℕ, zero, suc, ◌+◌, ◌<◌, Bool, IsTrue, ◌↔◌, List, [], ◌∷◌, ◌++◌, length, map, take, Bor, Option, Some, None, IfSome, MatchOption, inl, inr, refl, sym, ap, subst, arith}
use Rattle.std.specs.List.{slice_get}
use Rattle.std.specs.Option.{option_map, option_copied}
use Rattle.std.specs.BTreeMap.{BTreeMap}
use Rattle.std.proofs.lemmas.Option.{slice_get-map}
use Rattle.std.proofs.lemmas.List.{length-map, length-take-le}
use Rattle.std.proofs.lemmas.Bool.{cases_lt}
use Rattle.trace_check.specs.declared.numbered.Numbered.{Numbered}
use Rattle.trace_check.specs.declared.fact.Fact.{Fact}
use Rattle.trace_check.specs.declared.fact.Fact.TheVariants as fact
use Rattle.trace_check.specs.declared.fact.Entry.{Entry}
use Rattle.trace_check.specs.declared.table.Row.{Row}
use Rattle.trace_check.specs.declared.table.Table.{Table}
use Rattle.trace_check.specs.declared.book.Book.{Book}
use Rattle.trace_check.specs.declared.book.By.{By}
use Rattle.trace_check.specs.declared.book.By.TheVariants as by
use Rattle.trace_check.specs.Indexes.{Indexes, IsRow, Stands}
use Rattle.trace_check.specs.Facts.{At}
use Rattle.trace_check.specs.Keys.{IsMarked, key_of}
use Rattle.trace_check.specs.Lawful.{IsTrace}
use Rattle.trace_check.specs.Sentences.{IsEntryOf, IsNameOf}
use Rattle.trace_check.specs.Books.{AreCallers, AreExecuted, IsBook, IsCallerAt, IsLastMark}
use Rattle.trace_check.proofs.Marking.{fact_marks, is_name, marks_fact}
use Rattle.trace_check.proofs.Places.{stands_kept, stands_last, stands_more}
use Rattle.trace_check.proofs.Judging.{same_call, same_entry}

-- a test that is another
pub tells : {P : Type 0} (b t : Bool) → b ≡ t → (IsTrue t ↔ P) → (IsTrue b ↔ P)
tells b t e h = (λ is. h.0 (sym e ∙ is), λ p. e ∙ h.1 p)

-- ---- lists of keys

pub take_snoc : {X : Type 0} (xs : List X) (place : ℕ) (x : X) → slice_get xs place ≡ Some x → take (suc place) xs ≡ take place xs ++ x ∷ []
take_snoc [] place x at = absurd cc
take_snoc (y ∷ xs) zero x at = let same : y ≡ x = cc in ap (λ z. z ∷ []) same
take_snoc (y ∷ xs) (suc place) x at = ap (λ l. y ∷ l) (take_snoc xs place x at)

-- a place within a list has a member
pub some_at : {X : Type 0} (xs : List X) (place : ℕ) → place < length xs → (x : X) × (slice_get xs place ≡ Some x)
some_at [] place less = absurd (omega arith)
some_at (x ∷ xs) zero less = (x, refl)
some_at (x ∷ xs) (suc place) less = some_at xs place (omega arith)

abbrev Notes : BTreeMap Numbered Row → BTreeMap Numbered Row → Option Numbered → ℕ → Type 0
Notes old new key place = (keys : List (Option Numbered)) → Indexes old keys → length keys ≡ place → Indexes new (keys ++ key ∷ [])

from_fact : (by : By) (facts : List Fact) (place : ℕ) (key : Option Numbered) (o : Option Fact) → slice_get facts place ≡ o → IfSome o (λ f. key ≡ key_of by f) → place < length facts
    → slice_get (map (key_of by) facts) place ≡ Some key
from_fact by facts place key None at h less = let t = some_at facts place less in absurd cc
from_fact by facts place key (Some f) at h less =
    slice_get-map (key_of by) facts place ∙ (ap (λ o. option_map (key_of by) o) at ∙ ap (λ k. Some k) (sym h))

-- a table with one line more
pub index_more : (by : By) (facts : List Fact) (old new : BTreeMap Numbered Row) (place : ℕ) (key : Option Numbered) → place < length facts
    → IfSome (slice_get facts place) (λ f. key ≡ key_of by f) → Indexes old (take place (map (key_of by) facts)) → Notes old new key place
    → Indexes new (take (place + 1) (map (key_of by) facts))
index_more by facts old new place key less is h notes =
    let keys = map (key_of by) facts in
    let at : slice_get keys place ≡ Some key = from_fact by facts place key (slice_get facts place) refl is less in
    let len : length (take place keys) ≡ place = length-take-le place keys (omega (arith, less, length-map facts (key_of by))) in
    let next : place + 1 ≡ suc place = omega arith in
    let one : take (place + 1) keys ≡ take (suc place) keys = ap (λ n. take n keys) next in
    subst (λ (ks : List (Option Numbered)). Indexes new ks) (sym (one ∙ take_snoc keys place key at)) (notes (take place keys) h len)

-- ---- what the first and the last line of a key say

pub no_row : (keys : List (Option Numbered)) (key : Numbered) (o : Option Row) → o ≡ None → IsRow keys key o → ((place : ℕ) × Stands keys place key) → ⊥
no_row keys key None e h s = h s.0 s.1
no_row keys key (Some row) e h s = cc

pub first_fact : (by : By) (facts : List Fact) (key : Numbered) (row : Row) (o : Option (Bor Fact)) → IsRow (map (key_of by) facts) key (Some row) → option_copied o ≡ slice_get facts row.first
    → MatchOption o (IsMarked by facts key → ⊥) (λ f. (place : ℕ) × At facts place f.now × (key_of by f.now ≡ Some key))
first_fact by facts key row None h e = let f = marks_fact by facts key row.first h.0.stands in let at = f.1 in absurd cc
first_fact by facts key row (Some b) h e =
    let f = marks_fact by facts key row.first h.0.stands in
    let at = f.1 in
    let same : f.0 ≡ b.now = cc in
    (row.first, subst (λ (x : Fact). At facts row.first x) same f.1, subst (λ (x : Fact). key_of by x ≡ Some key) same f.2)

pub last_fact : (by : By) (facts : List Fact) (key : Numbered) (row : Row) (o : Option (Bor Fact)) → IsRow (map (key_of by) facts) key (Some row) → option_copied o ≡ slice_get facts row.last
    → MatchOption o (IsMarked by facts key → ⊥) (λ f. IsLastMark by facts key f.now)
last_fact by facts key row None h e = let f = marks_fact by facts key row.last h.1.stands in let at = f.1 in absurd cc
last_fact by facts key row (Some b) h e =
    let f = marks_fact by facts key row.last h.1.stands in
    let at = f.1 in
    let same : f.0 ≡ b.now = cc in
    record {
      place = row.last;
      at = subst (λ (x : Fact). At facts row.last x) same f.1;
      marks = subst (λ (x : Fact). key_of by x ≡ Some key) same f.2;
      last = λ later less marks. h.1.greatest later marks less;
    }

-- ---- the call of a name

pub caller_first : (facts : List Fact) (name : Numbered) (place : ℕ) (f : Fact) (o : Option Numbered) → At facts place f → key_of by.Name f ≡ Some name
    → MatchOption o ((call n : Numbered) → f ≡ fact.Name call n → ⊥) (λ call. (n : Numbered) × (f ≡ fact.Name call n))
    → MatchOption o ((call : Numbered) → IsNameOf facts call name → ⊥) (λ call. IsNameOf facts call name)
caller_first facts name place f None at key h = let is = is_name f name key in absurd (h is.0 name is.1)
caller_first facts name place f (Some call) at key h =
    let is = is_name f name key in
    let two = h.1 in
    let one = is.1 in
    let both : fact.Name is.0 name ≡ fact.Name call h.0 = sym one ∙ two in
    let same : is.0 ≡ call = cc in
    (place, at ∙ ap (λ (x : Fact). Some x) (one ∙ ap (λ (c : Numbered). fact.Name c name) same))

pub caller_none : (facts : List Fact) (name : Numbered) → (IsMarked by.Name facts name → ⊥) → (call : Numbered) → IsNameOf facts call name → ⊥
caller_none facts name none call is = none (is.0, fact_marks by.Name facts name is.0 (fact.Name call name) is.1 refl)

pub caller_is : (facts : List Fact) (place : ℕ) (e : Entry) (o : Option Numbered) → At facts place (fact.Entry e)
    → MatchOption o ((call : Numbered) → IsNameOf facts call e.name → ⊥) (λ call. IsNameOf facts call e.name) → IsCallerAt facts place o
caller_is facts place e None at h = λ call entry is. h call (subst (λ (x : Entry). IsNameOf facts call x.name) (same_entry facts place entry e is.at at) is.named)
caller_is facts place e (Some call) at h = (e, record { at = at; named = h })

-- ---- the calls of entries, with one line more

longer : (keys : List (Option Numbered)) (key : Option Numbered) → length (keys ++ key ∷ []) ≡ length keys + 1
longer [] key = refl
longer (k ∷ keys) key = omega (arith, longer keys key)

last_caller : (facts : List Fact) → IsTrace facts → (keys : List (Option Numbered)) (place : ℕ) (caller : Option Numbered) (call : Numbered) (entry : Entry) → IsCallerAt facts place caller → IsEntryOf facts call place entry
    → Stands (keys ++ caller ∷ []) (length keys) call
last_caller facts trace keys place None call entry at is = absurd (at call entry is)
last_caller facts trace keys place (Some c) call entry at is =
    subst (λ (d : Numbered). Stands (keys ++ Some c ∷ []) (length keys) d) (same_call facts trace place c call at.0 entry at.1 is) (stands_last keys c)

pub callers_more : (facts : List Fact) → IsTrace facts → (keys : List (Option Numbered)) (place : ℕ) (caller : Option Numbered) → length keys ≡ place → AreCallers facts keys → IsCallerAt facts place caller
    → AreCallers facts (keys ++ caller ∷ [])
callers_more facts trace keys place caller len are at = record {
  is_caller = λ p call s. elim (stands_more keys caller p call s) [
    | inl h ↦ are.is_caller p call h
    | inr h ↦
        let here = subst (λ (c : Option Numbered). IsCallerAt facts place c) h.1 at in
        (here.0, subst (λ (q : ℕ). IsEntryOf facts call q here.0) (sym (h.0 ∙ len)) here.1)
  ];
  has_caller = λ p call entry within is. elim (cases_lt p (length keys)) [
    | inl less ↦ stands_kept keys caller p call (are.has_caller p call entry less is)
    | inr more ↦
        let e : p ≡ length keys = omega (arith, more, within, longer keys caller) in
        let is_here : IsEntryOf facts call place entry = subst (λ (q : ℕ). IsEntryOf facts call q entry) (e ∙ len) is in
        subst (λ (q : ℕ). Stands (keys ++ caller ∷ []) q call) (sym e) (last_caller facts trace keys place caller call entry at is_here)
  ];
}

pub executed_more : (facts : List Fact) → IsTrace facts → (old new : Table) (place : ℕ) (caller : Option Numbered) → AreExecuted facts old place → IsCallerAt facts place caller → Notes old.rows new.rows caller place
    → AreExecuted facts new (place + 1)
executed_more facts trace old new place caller are at notes = record {
  keys = are.keys ++ caller ∷ [];
  indexes = notes are.keys are.indexes are.counted;
  callers = callers_more facts trace are.keys place caller are.counted are.callers at;
  counted = longer are.keys caller ∙ ap (λ n. n + 1) are.counted;
}

-- ---- all tables

pub is_book : (book : Book) (facts : List Fact) → facts ≡ book.facts.items → Indexes book.bodies.rows (map (key_of by.Body) facts) → Indexes book.states.rows (map (key_of by.State) facts)
    → Indexes book.names.rows (map (key_of by.Name) facts) → Indexes book.calls.rows (map (key_of by.Call) facts) → Indexes book.made.rows (map (key_of by.Made) facts)
    → Indexes book.left.rows (map (key_of by.Left) facts) → Indexes book.closed.rows (map (key_of by.Closed) facts) → Indexes book.gone.rows (map (key_of by.Gone) facts) → IsBook book
is_book book facts e b s n c m l d g by.Body = subst (λ (fs : List Fact). Indexes book.bodies.rows (map (key_of by.Body) fs)) e b
is_book book facts e b s n c m l d g by.State = subst (λ (fs : List Fact). Indexes book.states.rows (map (key_of by.State) fs)) e s
is_book book facts e b s n c m l d g by.Name = subst (λ (fs : List Fact). Indexes book.names.rows (map (key_of by.Name) fs)) e n
is_book book facts e b s n c m l d g by.Call = subst (λ (fs : List Fact). Indexes book.calls.rows (map (key_of by.Call) fs)) e c
is_book book facts e b s n c m l d g by.Made = subst (λ (fs : List Fact). Indexes book.made.rows (map (key_of by.Made) fs)) e m
is_book book facts e b s n c m l d g by.Left = subst (λ (fs : List Fact). Indexes book.left.rows (map (key_of by.Left) fs)) e l
is_book book facts e b s n c m l d g by.Closed = subst (λ (fs : List Fact). Indexes book.closed.rows (map (key_of by.Closed) fs)) e d
is_book book facts e b s n c m l d g by.Gone = subst (λ (fs : List Fact). Indexes book.gone.rows (map (key_of by.Gone) fs)) e g
