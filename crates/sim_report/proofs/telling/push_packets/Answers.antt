use Rattle.std.proofs.Common.{◌≡◌, ◌∙◌, ◌++◌, OnOk, List, ℕ, map, ap, sym, subst}
use Rattle.world_rules.specs.Report.{wire_line}
use Rattle.sim_text.specs.Bag.{packets_line}
use Rattle.sim_report.specs.Bags.{bytes_in}
use Rattle.sim_report.proofs.Counting.{bytes_kept}
use Rattle.sim_report.proofs.telling.push_packets.Goals as goal

pub returns-clause-told : goal.returns-clause-told
returns-clause-told g c setting draw world stands =
    let same : packets_line (map bytes_in c.bag.result.now.made) ≡ wire_line setting world =
    ap packets_line (ap (map bytes_in) (c.bag.ensures ∙ stands.bag) ∙ bytes_kept setting world.bag) ∙ sym (c.lines_of_packets.ensures.line setting world) in
    subst (λ (line : List ℕ). OnOk c.wire_line.result (c.wire_line.new.into ≡ c.args.text.now ++ line)) same c.wire_line.ensures.told
