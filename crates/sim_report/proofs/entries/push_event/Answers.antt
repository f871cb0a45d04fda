use Rattle.std.proofs.Common.{◌≡◌, ◌∙◌, ◌++◌, List, ℕ, Some, map, ap, sym, slice_get, arith}
use Rattle.std.proofs.lemmas.List.Folds.{flat_map-map}
use Rattle.std.proofs.lemmas.Option.{slice_get-get_or}
use Rattle.sim_server.specs.Registers.{entered}
use Rattle.server_dispatch.specs.Entries.{entry_told}
use Rattle.server_dispatch.specs.declared.entries.Entry.{Entry}
use Rattle.world_rules.specs.Report.{entry_line}
use Rattle.sim_report.proofs.Lines.{fronts_stay, lines_end, lines_on}
use Rattle.sim_report.proofs.entries.push_event.Goals as goal

pub loop-entry-preserved : goal.loop-entry-preserved
loop-entry-preserved c =
    let old = c.args.text.now in
    let entries = c.args.entries.now in
    let i = c.loop-entry.entry-index in
    let entry = c.entry-item.result in
    let here : slice_get entries i ≡ Some entry = slice_get-get_or entries i entry c.loop-entry-test.true ∙ ap Some (sym c.entry-item.is) in (
      λ seats stand.
          c.in_ok-push_entry.ensures.told seats stand
          ∙ lines_on (λ (one : Entry). entry_line seats (entered c.args.start (entry_told one))) old c.loop-entry.text entries i entry here (c.loop-entry.invariant.0 seats stand),
      fronts_stay old c.loop-entry.text c.push_entry.new.text c.loop-entry.invariant.1 c.push_entry.ensures.behind,
    )

pub returns-clause-told : goal.returns-clause-told
returns-clause-told c seats stand =
    let old = c.args.text.now in
    let entries = c.args.entries.now in
    let start = c.args.start in
    lines_end (λ (one : Entry). entry_line seats (entered start (entry_told one))) old c.loop-entry.text entries c.loop-entry.entry-index
    (omega (arith, c.loop-entry-test.false)) (c.loop-entry.invariant.0 seats stand)
    ∙ ap (λ (lines : List ℕ). old ++ lines) (sym (flat_map-map (entry_line seats) (entered start) (map entry_told entries)
    ∙ flat_map-map (λ one. entry_line seats (entered start one)) entry_told entries))
