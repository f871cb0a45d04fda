use Rattle.std.proofs.Common.{◌≡◌, [], ◌∷◌, ◌++◌, length, length-append, ap, arith}
use Rattle.server_rules.specs.Events.{begun_course}
use Rattle.law_order.specs.After.{AreInTurn, Pair}
use Rattle.law_order.proofs.States.{event-kept, events-kept}
use Rattle.law_order.proofs.server_laws.calls_run_in_order.Goals as goal

none-yet : (pair : Pair) → AreInTurn pair [] [] []
none-yet pair = record {
  waiting = tt;
  answers = tt;
  behind = λ before behind entry is ran.
      let count : 0 ≡ length (before ++ entry ∷ behind) = ap length is in
      let more = length-append before (entry ∷ behind) in absurd (omega arith);
  honest = tt;
}

pub returns-clause-fresh : goal.returns-clause-fresh
returns-clause-fresh g c = none-yet

pub returns-clause-event : goal.returns-clause-event
returns-clause-event g c = λ setting serve service pair past course event are so. event-kept setting serve service pair past course event are so

pub returns-clause-all : goal.returns-clause-all
returns-clause-all g c = λ setting serve service draw pair events are.
    (events-kept setting serve service pair [] events (begun_course service draw) are (none-yet pair)).behind
