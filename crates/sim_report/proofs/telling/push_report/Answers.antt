use Rattle.std.proofs.Common.{◌∙◌, ◌++◌, Bool, List, ℕ, ap, sym, append_assoc}
use Rattle.world_rules.specs.Report.{report, whole_report, wire_line}
use Rattle.sim_report.proofs.telling.push_report.Goals as goal

pub returns-in_ok-push_packets-clause-told : goal.returns-in_ok-push_packets-clause-told
returns-in_ok-push_packets-clause-told g c setting draw world stands stand =
    let old = c.args.text.now in
    c.in_ok-push_packets.ensures.told setting draw world stands
    ∙ (ap (λ (front : List ℕ). front ++ wire_line setting world) (c.in_ok-push_lines.ensures.told setting draw world stands stand)
    ∙ (append_assoc old (report world) (wire_line setting world) ∙ ap (λ (wire : Bool). old ++ whole_report setting wire world) (sym c.if-wire.true)))
