use Rattle.std.proofs.Common.{◌≡◌, ◌∙◌, ◌++◌, OnOk, List, ℕ, length, map, ap, sym, subst}
use Rattle.std.proofs.lemmas.List.{length-map}
use Rattle.std.specs.List.{filter}
use Rattle.sim_server.specs.Hosts.{kept_of}
use Rattle.world_rules.specs.World.{Entered}
use Rattle.sim_text.specs.Bag.{joined}
use Rattle.sim_report.specs.Bags.{bytes_in}
use Rattle.sim_report.proofs.Counting.{bytes_kept, tally_same}
use Rattle.sim_report.proofs.telling.summary.Goals as goal

pub returns-clause-told : goal.returns-clause-told
returns-clause-told g c setting draw world stands stand =
    let kept = c.bag-bag.ensures ∙ stands.bag in
    let calls = c.of.ensures world.seats stand in
    let runs = c.runs.ensures ∙ ap (λ (entries : List Entered). length (filter (λ (one : Entered). one.entry.ran) entries)) (c.as_slice.ensures ∙ c.register.ensures ∙ stands.entries) in
    let packets = c.count.ensures ∙ ap length kept ∙ length-map world.bag (kept_of setting) in
    let bytes = c.wire_bytes.ensures ∙ ap (λ (all : List (List ℕ)). length (joined all)) (ap (map bytes_in) kept ∙ bytes_kept setting world.bag)
    ∙ sym (ap length (c.lines_of_packets.ensures.bytes setting world)) in
    let same = tally_same _ _ _ _ _ _ _ _ calls runs packets bytes ∙ sym (c.summaries.ensures setting world) in
    subst (λ (line : List ℕ). OnOk c.summary_line.result (c.summary_line.new.into ≡ c.args.into.now ++ line)) same c.summary_line.ensures.told
