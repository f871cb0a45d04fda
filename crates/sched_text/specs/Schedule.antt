-- Schedules: what a text spells, and where it is outside the grammar.
use Rattle.std.specs.Prelude.{◌≡◌, ℕ, List}
use Rattle.sched_text.specs.declared.schedule.Placed.{Placed}
use Rattle.sched_text.specs.declared.schedule.SchedFault.{SchedFault}
use Rattle.sched_text.specs.declared.schedule.SchedFault.TheVariants.{BadLine, Memory}
use Rattle.sched_text.specs.Lines.{Line, lines_in, words_of, Say, IsFirstBad}
use Rattle.sched_text.specs.Events.{IsEvent}

-- the line says this event, which has its number
abbrev pub SaysEvent : Line → Placed → Type 0
SaysEvent line placed = (placed.line ≡ line.number) × IsEvent placed.event (words_of line.text)

-- the text spells these events, each with the number of its line
abbrev pub Spells : List ℕ → List Placed → Type 0
Spells text events = Say SaysEvent (lines_in text) events

-- the first line of the text that is outside the grammar has this number
abbrev pub HasBadLine : List ℕ → ℕ → Type 0
HasBadLine text bad = IsFirstBad SaysEvent (lines_in text) bad

-- the fault of the text, want of memory aside
abbrev pub IsFaultOf : List ℕ → SchedFault → Type 0
IsFaultOf text (BadLine line) = HasBadLine text line
IsFaultOf text Memory = Unit {0}
