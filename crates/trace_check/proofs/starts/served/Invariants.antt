use Rattle.std.proofs.Common.{◌≡◌, ◌↔◌, ℕ, Bool, Some, IsTrue, length, take}
use Rattle.std.specs.List.{slice_get}
use Rattle.trace_check.specs.declared.sentence.Sentence.TheVariants as sentence
use Rattle.trace_check.specs.Sentences.{Keeps, state_in}
use Rattle.trace_check.specs.States.{state_of}
use Rattle.trace_check.proofs.starts.served.Given as goal

-- the registers are those of what ran so far, and so many lines were judged
abbrev pub invariant-loop-place : goal.invariant-loop-place
invariant-loop-place l = record {
  states : (start : ℕ) → state_of l.services start ≡ state_in start (take l.place l.facts);
  count : length l.served.items ≡ l.place;
  each : (p : ℕ) (is : Bool) → slice_get l.served.items p ≡ Some is → IsTrue is ↔ Keeps sentence.Served l.facts p;
}
