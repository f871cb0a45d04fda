use Rattle.std.proofs.Common.{ℕ, List, ◌++◌, length}
use Rattle.sched_text.specs.Lines.{Say, IsFirstBad, lines_in}
use Rattle.call_script.specs.declared.script.ScriptCall.{ScriptCall}
use Rattle.call_script.specs.Scripts.{SaysScriptCall}
use Rattle.call_script.proofs.script.read_script.Given as goal

-- whatever the lines that are left say, all lines say what was read before it
abbrev pub invariant-loop-line : goal.invariant-loop-line
invariant-loop-line l = record {
  said : (tail : List ScriptCall) → Say SaysScriptCall l.lines tail → Say SaysScriptCall (lines_in l.text) (l.calls.items ++ tail);
  good : (bad : ℕ) → IsFirstBad SaysScriptCall l.lines bad → IsFirstBad SaysScriptCall (lines_in l.text) bad;
}

abbrev pub decreases-loop-line : goal.decreases-loop-line
decreases-loop-line l = length l.lines
