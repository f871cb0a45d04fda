use Rattle.std.proofs.Common.{◌∙◌, ◌++◌, List, ℕ, ap, sym, arith}
use Rattle.std.specs.List.{flat_map}
use Rattle.sim_server.specs.Registers.{entered_in}
use Rattle.sim_server.specs.declared.register.Recorded.{Recorded}
use Rattle.world_rules.specs.Report.{entry_line}
use Rattle.sim_report.proofs.Lines.{flat_twice, lines_end}
use Rattle.sim_report.proofs.entries.push_entries.Goals as goal

pub returns-clause-told : goal.returns-clause-told
returns-clause-told c seats stand =
    let old = c.args.text.now in
    let events = c.args.events.now in
    lines_end (λ (event : Recorded). flat_map (entry_line seats) (entered_in event)) old c.loop-event.text events c.loop-event.event-index
    (omega (arith, c.loop-event-test.false)) (c.loop-event.invariant.0 seats stand)
    ∙ ap (λ (lines : List ℕ). old ++ lines) (sym (flat_twice entered_in (entry_line seats) events))
