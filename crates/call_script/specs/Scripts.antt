-- Scripts: what a text spells, and where it is outside the grammar.
use Rattle.std.specs.Prelude.{◌≡◌, ℕ, List}
use Rattle.call_script.specs.declared.script.ScriptCall.{ScriptCall}
use Rattle.call_script.specs.declared.script.ScriptFault.{ScriptFault}
use Rattle.call_script.specs.declared.script.ScriptFault.TheVariants.{BadLine, Memory}
use Rattle.sched_text.specs.Lines.{Line, lines_in, words_of, Say, IsFirstBad}
use Rattle.sched_text.specs.Bodies.{SaysCall}

-- the line says this call, which has its number
abbrev pub SaysScriptCall : Line → ScriptCall → Type 0
SaysScriptCall line call = (call.line ≡ line.number) × SaysCall call.body call.after (words_of line.text)

-- the text spells these calls, each with the number of its line
abbrev pub Spells : List ℕ → List ScriptCall → Type 0
Spells text calls = Say SaysScriptCall (lines_in text) calls

-- the first line of the text that is outside the grammar has this number
abbrev pub HasBadLine : List ℕ → ℕ → Type 0
HasBadLine text bad = IsFirstBad SaysScriptCall (lines_in text) bad

-- the fault of the text, want of memory aside
abbrev pub IsFaultOf : List ℕ → ScriptFault → Type 0
IsFaultOf text (BadLine line) = HasBadLine text line
IsFaultOf text Memory = Unit {0}
