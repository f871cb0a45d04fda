-- The six sentences: each call executes at most once, as its client sent it, and what is told of it is so.
use Rattle.std.specs.Prelude.{◌≡◌, ◌<◌, ◌⊎◌, ◌==◌, ◌&&◌, true, if◌then◌else◌, ℕ, List, take, Option, Some, None}
use Rattle.std.specs.List.{filter_map}
use Rattle.regs_service.specs.Served.{Ran, Served, requests_of, state_after}
use Rattle.regs_service.specs.Registers.{Sums, fresh, step}
use Rattle.trace_check.specs.declared.numbered.Numbered.{Numbered}
use Rattle.trace_check.specs.declared.fact.Fact.{Fact}
use Rattle.trace_check.specs.declared.fact.Fact.TheVariants as fact
use Rattle.trace_check.specs.declared.fact.Entry.{Entry}
use Rattle.trace_check.specs.declared.fact.Told.{Told}
use Rattle.trace_check.specs.declared.fact.Told.TheVariants.{Queued, Held, Done, Refused, Unknown}
use Rattle.trace_check.specs.declared.fact.Cause.{Cause}
use Rattle.trace_check.specs.declared.fact.Cause.TheVariants as cause
use Rattle.trace_check.specs.declared.sentence.Sentence.{Sentence}
use Rattle.trace_check.specs.declared.sentence.Sentence.TheVariants as sentence
use Rattle.trace_check.specs.Facts.{At, IsSaid, IsSaidTwice}

-- ---- calls, their names, and entries

-- the session and the number are a name of the call
abbrev pub IsNameOf : List Fact → Numbered → Numbered → Type 0
IsNameOf facts call name = (place : ℕ) × At facts place (fact.Name call name)

-- the line at this place is an entry over a name of the call
pub record IsEntryOf (facts : List Fact) (call : Numbered) (place : ℕ) (entry : Entry) : Type 0 where
  pub at : At facts place (fact.Entry entry)
  pub named : IsNameOf facts call entry.name

-- some line is
abbrev pub HasEntry : List Fact → Numbered → Type 0
HasEntry facts call = (place : ℕ) × ((entry : Entry) × IsEntryOf facts call place entry)

-- a call that waits for a number
abbrev pub DoesWait : Told → Type 0
DoesWait Queued = Unit {0}
DoesWait Held = Unit {0}
DoesWait _ = ⊥

-- a call of which no name may have an entry
abbrev pub HasNotRun : Told → Type 0
HasNotRun Queued = Unit {0}
HasNotRun Held = Unit {0}
HasNotRun (Refused code) = Unit {0}
HasNotRun _ = ⊥

-- a replaced name: one with a later name of the same call, and each name of a call that waits
abbrev pub IsReplaced : List Fact → Numbered → Numbered → Type 0
IsReplaced facts call name =
    ((place later : ℕ) × (other : Numbered) × (place < later) × At facts place (fact.Name call name) × At facts later (fact.Name call other))
    ⊎ ((place : ℕ) × (told : Told) × At facts place (fact.State call told) × DoesWait told)

-- the last name of a call
pub record IsLastName (facts : List Fact) (call name : Numbered) : Type 0 where
  pub place : ℕ
  pub at : At facts place (fact.Name call name)
  pub last : (later : ℕ) (other : Numbered) → place < later → At facts later (fact.Name call other) → ⊥

-- ---- what the sentences say of a call and of an entry

-- the name is a call's, and the request is that call's body
pub record WasAsked (facts : List Fact) (entry : Entry) : Type 0 where
  pub call : Numbered
  pub named : IsNameOf facts call entry.name
  pub body_at : ℕ
  pub request : At facts body_at (fact.Body call entry.request)

-- exactly one entry over the call's names, with this reply
pub record RanOnce (facts : List Fact) (call : Numbered) (reply : List ℕ) : Type 0 where
  pub place : ℕ
  pub entry : Entry
  pub is : IsEntryOf facts call place entry
  pub only : (other : ℕ) (one : Entry) → IsEntryOf facts call other one → other ≡ place
  pub replied : entry.reply ≡ reply

-- the cause by which it isn't known what became of a call with this last name
abbrev pub IsCause : List Fact → Numbered → Cause → Type 0
-- two sessions were made for the name's session number, so that the first was lost
IsCause facts name cause.Session = IsSaidTwice facts (fact.Made name.owner)
-- its client renewed in that session
IsCause facts name cause.Renewed = IsSaid facts (fact.Left name.owner)
-- its client ended in it
IsCause facts name cause.Ended = IsSaid facts (fact.Closed name.owner)
-- the server had forgotten the name's number, or had dropped its reply
IsCause facts name cause.Forgotten = IsSaid facts (fact.Gone name)

pub record HasCause (facts : List Fact) (call : Numbered) (cause : Cause) : Type 0 where
  pub name : Numbered
  pub last : IsLastName facts call name
  pub holds : IsCause facts name cause

-- what ran in a start of the server, in order
abbrev pub ran_of : ℕ → Fact → Option Ran
ran_of start (fact.Entry entry) =
    if (entry.start == start) && entry.ran then Some (record { request = entry.request; reply = entry.reply }) else None
ran_of start _ = None

abbrev pub ran_in : ℕ → List Fact → List Ran
ran_in start facts = filter_map (ran_of start) facts

-- the registers' state in a start after what ran in it
abbrev pub state_in : ℕ → List Fact → Sums
state_in start facts = state_after step fresh (requests_of (ran_in start facts))

-- ---- the six sentences

-- the sentences count from 1
abbrev pub number_of : Sentence → ℕ
number_of sentence.AtMostOnce = 1
number_of sentence.AsSent = 2
number_of sentence.Done = 3
number_of sentence.Replaced = 4
number_of sentence.Unknown = 5
number_of sentence.Served = 6

abbrev pub Holds : Sentence → List Fact → Type 0
-- over all names of a call there is at most one entry
Holds sentence.AtMostOnce facts = (call : Numbered) (place other : ℕ) (entry one : Entry) → IsEntryOf facts call place entry → IsEntryOf facts call other one → place ≡ other
-- each entry was asked for
Holds sentence.AsSent facts = (place : ℕ) (entry : Entry) → At facts place (fact.Entry entry) → WasAsked facts entry
-- a call that is done executed, or was answered in place, once, and has that answer
Holds sentence.Done facts = (place : ℕ) (call : Numbered) (reply : List ℕ) → At facts place (fact.State call (Done reply)) → RanOnce facts call reply
-- a replaced name has no entry, nor has any name of a call that is refused, held or queued
Holds sentence.Replaced facts =
    ((call : Numbered) (place : ℕ) (entry : Entry) → IsEntryOf facts call place entry → IsReplaced facts call entry.name → ⊥)
    × ((place : ℕ) (call : Numbered) (told : Told) → At facts place (fact.State call told) → HasNotRun told → HasEntry facts call → ⊥)
-- where it isn't known what became of a call, the cause that is told holds of its last name
Holds sentence.Unknown facts = (place : ℕ) (call : Numbered) (cause : Cause) → At facts place (fact.State call (Unknown cause)) → HasCause facts call cause
-- what ran in a start has the replies of the registers from their fresh state
Holds sentence.Served facts = (start : ℕ) → Served step fresh (ran_in start facts)

-- ---- the lines that show a break

-- the line at this place shows no break of the sentence. A break is shown by the second entry of a call (1), by the entry
-- (2, 6, and 4 for a replaced name), or by the state (3, 5, and 4 for a call that has not run).
abbrev pub Keeps : Sentence → List Fact → ℕ → Type 0
Keeps sentence.AtMostOnce facts place =
    (call : Numbered) (entry : Entry) → IsEntryOf facts call place entry → (earlier : ℕ) (one : Entry) → earlier < place → IsEntryOf facts call earlier one → ⊥
Keeps sentence.AsSent facts place = (entry : Entry) → At facts place (fact.Entry entry) → WasAsked facts entry
Keeps sentence.Done facts place = (call : Numbered) (reply : List ℕ) → At facts place (fact.State call (Done reply)) → RanOnce facts call reply
Keeps sentence.Replaced facts place =
    ((call : Numbered) (entry : Entry) → IsEntryOf facts call place entry → IsReplaced facts call entry.name → ⊥)
    × ((call : Numbered) (told : Told) → At facts place (fact.State call told) → HasNotRun told → HasEntry facts call → ⊥)
Keeps sentence.Unknown facts place = (call : Numbered) (cause : Cause) → At facts place (fact.State call (Unknown cause)) → HasCause facts call cause
Keeps sentence.Served facts place =
    (entry : Entry) → At facts place (fact.Entry entry) → entry.ran ≡ true → entry.reply ≡ (step (state_in entry.start (take place facts)) entry.request).0
