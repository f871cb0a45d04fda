use Rattle.std.proofs.Common.{◌≡◌, ◌∙◌, ◌<◌, ◌≤◌, false, true, Some, None, get_or, ap, arith, subst, sym}
use Rattle.std.proofs.lemmas.List.{get_or_past}
use Rattle.sim_load.specs.Given.{Notes}
use Rattle.world_rules.specs.Load.{first_ungiven}
use Rattle.sim_load.proofs.GivenLemmas.{absent, found}
use Rattle.sim_load.proofs.given.Given.first_ungiven.Goals.{then-loop-self-test+else-index, else-loop-self-test, then-first-count, else-first-count}
use Rattle.sim_load.proofs.given.Given.first_ungiven.Goals as goal

pub returns-clause-first : goal.returns-clause-first
returns-clause-first c = λ given notes.
    let flags = c.loop-self.self-inside.flags.items in
    let first = c.loop-self.self-inside.first in
    let same : flags ≡ c.args.self.now = ap (λ flags. flags.items) c.loop-self.invariant.0 ∙ c.self.view_is in
    let noted : Notes flags given = subst (λ flags. Notes flags given) (sym same) notes in
    let are = c.loop-self.invariant.1 in
    let ungiven : get_or flags first false ≡ false = elim c.loop-self-test.branch [
      | then-loop-self-test+else-index w ↦ subst (λ d. get_or flags first d ≡ false) w.if-index.false (sym w.index.ensures ∙ w.if-index.false)
      | else-loop-self-test w ↦ get_or_past flags first false (omega (arith, w.loop-self-test.false, c.len.ensures))
    ] in
    elim c.if-first-count.branch [
      | then-first-count w ↦ w.result-is ∙ sym (found 1 c.args.count first flags given noted are.least (omega (arith, w.if-first-count.true)) are.below ungiven)
      | else-first-count w ↦ w.result-is ∙ sym (absent 1 c.args.count first flags given noted (omega (arith, w.if-first-count.false)) are.below)
    ]
