-- Scaffolding, and no promise: what the tables of facts are.
use Rattle.std.specs.Prelude.{◌≡◌, ◌<◌, ◌≤◌, ◌↔◌, ℕ, Bool, IsTrue, List, map, length, slice_get, Option, Some, MatchOption}
use Rattle.trace_check.specs.declared.numbered.Numbered.{Numbered}
use Rattle.trace_check.specs.declared.fact.Fact.{Fact}
use Rattle.trace_check.specs.declared.fact.Entry.{Entry}
use Rattle.trace_check.specs.declared.table.Table.{Table}
use Rattle.trace_check.specs.declared.fact.Told.{Told}
use Rattle.trace_check.specs.declared.fact.Fact.TheVariants as fact
use Rattle.trace_check.specs.declared.table.Row.{Row}
use Rattle.trace_check.specs.declared.sentence.Sentence.{Sentence}
use Rattle.trace_check.specs.declared.sentence.Sentence.TheVariants as sentence
use Rattle.trace_check.specs.declared.judge.Judge.{Judge}
use Rattle.trace_check.specs.declared.book.Book.{Book}
use Rattle.trace_check.specs.declared.book.By.{By}
use Rattle.trace_check.specs.declared.book.By.TheVariants as by
use Rattle.trace_check.specs.Indexes.{Indexes, Stands}
use Rattle.trace_check.specs.Facts.{At}
use Rattle.trace_check.specs.Keys.{Marks, key_of}
use Rattle.trace_check.specs.Lawful.{Fits, IsFirstBadLine, IsTrace}
use Rattle.trace_check.specs.Answers.{AllHold, IsBroken}
use Rattle.trace_check.specs.declared.checking.Checked.{Checked}
use Rattle.trace_check.specs.declared.checking.Checked.TheVariants.{Yes, Broken}
use Rattle.trace_check.specs.declared.checking.CheckFault.{CheckFault}
use Rattle.trace_check.specs.declared.checking.CheckFault.TheVariants.{BadLine, Memory}
use Rattle.trace_check.specs.Sentences.{DoesWait, HasEntry, HasNotRun, IsEntryOf, IsReplaced, Keeps, number_of}

abbrev pub table_of : By → Book → Table
table_of by.Body book = book.bodies
table_of by.State book = book.states
table_of by.Name book = book.names
table_of by.Call book = book.calls
table_of by.Made book = book.made
table_of by.Left book = book.left
table_of by.Closed book = book.closed
table_of by.Gone book = book.gone

-- each table is that of its kind of lines
abbrev pub IsBook : Book → Type 0
IsBook book = (by : By) → Indexes (table_of by book).rows (map (key_of by) book.facts.items)

-- the last line of this kind that speaks of the key says this
pub record IsLastMark (by : By) (facts : List Fact) (key : Numbered) (fact : Fact) : Type 0 where
  pub place : ℕ
  pub at : At facts place fact
  pub marks : key_of by fact ≡ Some key
  pub last : (later : ℕ) → place < later → Marks by facts key later → ⊥

-- ---- the calls of entries

-- the call over whose name the line at the place is an entry
abbrev pub IsCallerAt : List Fact → ℕ → Option Numbered → Type 0
IsCallerAt facts place caller = MatchOption caller ((call : Numbered) (entry : Entry) → IsEntryOf facts call place entry → ⊥) (λ call. (entry : Entry) × IsEntryOf facts call place entry)

-- the keys are the calls over whose names entries stand, at the places of these entries, as far as they go
pub record AreCallers (facts : List Fact) (keys : List (Option Numbered)) : Type 0 where
  pub is_caller : (place : ℕ) (call : Numbered) → Stands keys place call → (entry : Entry) × IsEntryOf facts call place entry
  pub has_caller : (place : ℕ) (call : Numbered) (entry : Entry) → place < length keys → IsEntryOf facts call place entry → Stands keys place call

-- the table is that of the calls of the entries among so many lines
pub record AreExecuted (facts : List Fact) (table : Table) (count : ℕ) : Type 0 where
  pub keys : List (Option Numbered)
  pub indexes : Indexes table.rows keys
  pub callers : AreCallers facts keys
  pub counted : length keys ≡ count

-- among all lines
abbrev pub IsExecuted : List Fact → Table → Type 0
IsExecuted facts table = AreExecuted facts table (length facts)

-- the first and the last entry over the names of a call
pub record AreEntriesAt (facts : List Fact) (call : Numbered) (row : Row) : Type 0 where
  pub first : (entry : Entry) × IsEntryOf facts call row.first entry
  pub last : (entry : Entry) × IsEntryOf facts call row.last entry
  pub least : (place : ℕ) (entry : Entry) → IsEntryOf facts call place entry → row.first ≤ place
  pub greatest : (place : ℕ) (entry : Entry) → IsEntryOf facts call place entry → place ≤ row.last

abbrev pub AreEntries : List Fact → Numbered → Option Row → Type 0
AreEntries facts call row = MatchOption row (HasEntry facts call → ⊥) (AreEntriesAt facts call)

-- ---- parts of the sentences

-- for each place, whether it shows no break of the last sentence
pub record AreServed (facts : List Fact) (served : List Bool) : Type 0 where
  pub count : length served ≡ length facts
  pub each : (place : ℕ) (is : Bool) → slice_get served place ≡ Some is → IsTrue is ↔ Keeps sentence.Served facts place

pub record IsJudge (judge : Judge) : Type 0 where
  pub book : IsBook judge.book
  pub lawful : IsTrace judge.book.facts.items
  pub executed : IsExecuted judge.book.facts.items judge.executed
  pub served : AreServed judge.book.facts.items judge.served.items

-- no entry before the place is of the call
abbrev pub HasNoneBefore : List Fact → Numbered → ℕ → Type 0
HasNoneBefore facts call place = (earlier : ℕ) (entry : Entry) → earlier < place → IsEntryOf facts call earlier entry → ⊥

abbrev pub HasBody : List Fact → Numbered → List ℕ → Type 0
HasBody facts call body = (place : ℕ) × At facts place (fact.Body call body)

abbrev pub HasReplied : List Fact → ℕ → List ℕ → Type 0
HasReplied facts place reply = (entry : Entry) × At facts place (fact.Entry entry) × (entry.reply ≡ reply)

abbrev pub HasLater : List Fact → Numbered → Numbered → Type 0
HasLater facts call name = (place later : ℕ) × (other : Numbered) × (place < later) × At facts place (fact.Name call name) × At facts later (fact.Name call other)

abbrev pub IsWaiting : List Fact → Numbered → Type 0
IsWaiting facts call = (place : ℕ) × (told : Told) × At facts place (fact.State call told) × DoesWait told

abbrev pub IsCurrent : List Fact → ℕ → Type 0
IsCurrent facts place = (call : Numbered) (entry : Entry) → IsEntryOf facts call place entry → IsReplaced facts call entry.name → ⊥

abbrev pub IsIdle : List Fact → ℕ → Type 0
IsIdle facts place = (call : Numbered) (told : Told) → At facts place (fact.State call told) → HasNotRun told → HasEntry facts call → ⊥

-- ---- first places

-- the first place that shows a break of the sentence
pub record IsPlace (sentence : Sentence) (facts : List Fact) (place : ℕ) : Type 0 where
  pub within : place < length facts
  pub shows : Keeps sentence facts place → ⊥
  pub first : (earlier : ℕ) → earlier < place → Keeps sentence facts earlier

abbrev pub IsFirstPlace : Sentence → List Fact → Option ℕ → Type 0
IsFirstPlace sentence facts place = MatchOption place ((at : ℕ) → Keeps sentence facts at) (IsPlace sentence facts)

-- the sentences of numbers before this one, but not before the other, show no break
abbrev pub Keep : List Fact → ℕ → ℕ → Type 0
Keep facts from before = (sentence : Sentence) (place : ℕ) → from ≤ number_of sentence → number_of sentence < before → Keeps sentence facts place

-- the first break of the sentences from this number on
pub record IsBreak (facts : List Fact) (from : ℕ) (sentence : Sentence) (place : ℕ) : Type 0 where
  pub reached : from ≤ number_of sentence
  pub earlier : Keep facts from (number_of sentence)
  pub is : IsPlace sentence facts place

abbrev pub IsFirstFrom : List Fact → ℕ → Option (Sentence × ℕ) → Type 0
IsFirstFrom facts from found = MatchOption found ((sentence : Sentence) (place : ℕ) → from ≤ number_of sentence → Keeps sentence facts place) (λ (b : Sentence × ℕ). IsBreak facts from b.0 b.1)

-- the first place at which a fact may not stand
pub record IsUnfit (facts : List Fact) (place : ℕ) : Type 0 where
  pub within : place < length facts
  pub unfit : Fits facts place → ⊥
  pub first : (earlier : ℕ) → earlier < place → Fits facts earlier

abbrev pub IsFirstUnfit : List Fact → Option ℕ → Type 0
IsFirstUnfit facts place = MatchOption place (IsTrace facts) (IsUnfit facts)

-- the numbers of lines rise
abbrev pub Rise : List ℕ → Type 0
Rise numbers = (p q a b : ℕ) → slice_get numbers p ≡ Some a → slice_get numbers q ≡ Some b → p < q → a < b

-- ---- answers to facts, and to the numbers of their lines

-- what is found where no line is a bad one
abbrev pub IsFound : List Fact → List ℕ → Checked → Type 0
IsFound facts numbers Yes = AllHold facts
IsFound facts numbers (Broken clause line) = IsBroken facts numbers clause line

-- the fault, want of memory aside
abbrev pub IsFault : List Fact → List ℕ → CheckFault → Type 0
IsFault facts numbers (BadLine line) = IsFirstBadLine facts numbers line
IsFault facts numbers Memory = Unit {0}
