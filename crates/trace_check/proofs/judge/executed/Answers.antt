use Rattle.std.proofs.Common.{◌≡◌, ℕ, [], length, refl, subst, arith}
use Rattle.trace_check.specs.Books.{AreExecuted}
use Rattle.trace_check.proofs.Lookups.{executed_more}
use Rattle.trace_check.proofs.judge.executed.Goals as goal

pub loop-place-init : goal.loop-place-init
loop-place-init c = record {
  keys = [];
  indexes = c.new-table.ensures;
  callers = record { is_caller = λ place call s. absurd cc; has_caller = λ place call entry less is. absurd (omega (arith, less)) };
  counted = refl;
}

pub loop-place-preserved : goal.loop-place-preserved
loop-place-preserved c =
    executed_more c.args.book.now.facts.items c.requires.lawful c.loop-place.table c.note.new.self c.loop-place.place c.caller_at-caller.result c.loop-place.invariant c.caller_at-caller.ensures c.in_ok-note.ensures

pub returns : goal.returns
returns c =
    let end : c.loop-place.place ≡ length c.args.book.now.facts.items = omega arith in
    subst (λ (n : ℕ). AreExecuted c.args.book.now.facts.items c.loop-place.table n) end c.loop-place.invariant
