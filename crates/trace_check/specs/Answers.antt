-- What a check answers.
use Rattle.std.specs.Prelude.{◌≡◌, ◌<◌, ◌≤◌, ℕ, List, slice_get, Some}
use Rattle.trace_check.specs.declared.fact.Fact.{Fact}
use Rattle.trace_check.specs.declared.sentence.Sentence.{Sentence}
use Rattle.trace_check.specs.declared.checking.Checked.{Checked}
use Rattle.trace_check.specs.declared.checking.Checked.TheVariants.{Yes, Broken}
use Rattle.trace_check.specs.declared.checking.CheckFault.{CheckFault}
use Rattle.trace_check.specs.declared.checking.CheckFault.TheVariants.{BadLine, Memory}
use Rattle.trace_check.specs.Facts.{Spells, line_numbers}
use Rattle.trace_check.specs.Lawful.{IsFirstBadLine, IsTrace}
use Rattle.trace_check.specs.Sentences.{Holds, Keeps, number_of}

-- ---- of facts, and of the numbers of their lines

-- all six sentences hold
abbrev pub AllHold : List Fact → Type 0
AllHold facts = (sentence : Sentence) → Holds sentence facts

-- the line of this number shows a break of the sentence
abbrev pub Shows : Sentence → List Fact → List ℕ → ℕ → Type 0
Shows sentence facts numbers line = (place : ℕ) × (slice_get numbers place ≡ Some line) × (Keeps sentence facts place → ⊥)

-- the least sentence that doesn't hold has this number, and this is the least line that shows its break
pub record IsBroken (facts : List Fact) (numbers : List ℕ) (clause line : ℕ) : Type 0 where
  pub sentence : Sentence
  pub numbered : clause ≡ number_of sentence
  pub earlier : (other : Sentence) → number_of other < clause → Holds other facts
  pub fails : Holds sentence facts → ⊥
  pub shown : Shows sentence facts numbers line
  pub least : (other : ℕ) → Shows sentence facts numbers other → line ≤ other

-- ---- of a text

-- it is a trace, and all six sentences hold
pub record AllHoldIn (text : List ℕ) : Type 0 where
  pub facts : List Fact
  pub spelled : Spells text facts
  pub lawful : IsTrace facts
  pub all_hold : AllHold facts

-- it is a trace, and the least sentence that doesn't hold and the least line that shows it are these
pub record IsBrokenIn (text : List ℕ) (clause line : ℕ) : Type 0 where
  pub facts : List Fact
  pub spelled : Spells text facts
  pub lawful : IsTrace facts
  pub broken : IsBroken facts (line_numbers text) clause line

-- it is no trace, and this is its first bad line
pub record HasBadLine (text : List ℕ) (line : ℕ) : Type 0 where
  pub facts : List Fact
  pub spelled : Spells text facts
  pub bad : IsFirstBadLine facts (line_numbers text) line

-- what is found of it
abbrev pub IsFoundIn : List ℕ → Checked → Type 0
IsFoundIn text Yes = AllHoldIn text
IsFoundIn text (Broken clause line) = IsBrokenIn text clause line

-- its fault, want of memory aside
abbrev pub IsFaultOf : List ℕ → CheckFault → Type 0
IsFaultOf text (BadLine line) = HasBadLine text line
IsFaultOf text Memory = Unit {0}
