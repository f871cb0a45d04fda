use Rattle.std.proofs.Common.{◌≡◌, ◌∙◌, List, ◌++◌, length, take, ap, sym, arith}
use Rattle.std.proofs.Math.Seq.{take-length}
use Rattle.call_table.specs.Kept.{shown}
use Rattle.call_table.specs.Table.{Call, State}
use Rattle.client_rules.specs.Client.{calls_of}
use Rattle.sim_text.specs.Counts.{Tally, counted, tally_of}
use Rattle.sim_text.proofs.CallLemmas.{call_at, tally_on}
use Rattle.sim_text.proofs.summary.Counts.add.Goals as goal

pub loop-place-preserved : goal.loop-place-preserved
loop-place-preserved c =
    let place = c.loop-place.place in (
      λ whole before stands same.
          let one = call_at (calls_of whole) place (shown c.state-told.result) (c.state-told.ensures.state whole stands) in
          c.note.ensures ∙ (ap (λ (s : State). counted s c.loop-place.self) (sym one.told)
          ∙ tally_on before (calls_of whole) place one.call c.loop-place.self one.here (c.loop-place.invariant.0 whole before stands same)),
      (let more = ap (λ (tally : Tally). tally.calls) c.note.ensures in omega (arith, more, c.loop-place.invariant.1)),
    )

pub returns-clause-counted : goal.returns-clause-counted
returns-clause-counted c whole before stands same =
    let calls = calls_of whole in
    let count : c.loop-place.place ≡ length calls =
    omega (arith, c.calls-place-end.ensures.count whole stands, c.loop-place.auto.place-end, c.loop-place-test.false) in
    c.loop-place.invariant.0 whole before stands same
    ∙ ap (λ (more : List Call). tally_of (before ++ more)) (ap (λ n. take n calls) count ∙ take-length calls)
