use Rattle.std.proofs.Common.{◌≡◌, ◌∙◌, length, take, ap, arith}
use Rattle.std.proofs.Math.Seq.{take-length}
use Rattle.call_table.specs.Kept.{shown}
use Rattle.client_rules.specs.Client.{calls_of}
use Rattle.cmd_call.specs.Table.{lines_from}
use Rattle.cmd_call.proofs.TableLemmas.{call_at, lines_on}
use Rattle.cmd_call.proofs.telling.table.Goals as goal

pub loop-place-preserved : goal.loop-place-preserved
loop-place-preserved c whole stands =
    let place = c.loop-place.place in
    let one = call_at (calls_of whole) place (shown c.state-told.result) (c.state-told.ensures.state whole stands) in
    c.in_ok-push_line.ensures one.call one.told ∙ lines_on c.loop-place.text (calls_of whole) place one.call one.here (c.loop-place.invariant whole stands)

pub returns : goal.returns
returns c whole stands =
    let calls = calls_of whole in
    let count : c.loop-place.place ≡ length calls =
    omega (arith, c.calls-place-end.ensures.count whole stands, c.loop-place.auto.place-end, c.loop-place-test.false) in
    c.loop-place.invariant whole stands ∙ ap (lines_from 1) (ap (λ n. take n calls) count ∙ take-length calls)
