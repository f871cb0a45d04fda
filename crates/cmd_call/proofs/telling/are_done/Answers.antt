use Rattle.std.proofs.Common.{◌≡◌, ◌∙◌, length, take, ap, sym, arith}
use Rattle.std.proofs.Math.Seq.{take-length}
use Rattle.call_table.specs.Kept.{shown}
use Rattle.client_rules.specs.Client.{calls_of}
use Rattle.world_rules.specs.Report.{is_done}
use Rattle.cmd_call.specs.Table.{are_done}
use Rattle.cmd_call.proofs.TableLemmas.{call_at, done_on, not_done}
use Rattle.cmd_call.proofs.telling.are_done.Goals as goal

pub returns-then-not-is_done : goal.returns-then-not-is_done
returns-then-not-is_done c whole stands =
    let one = call_at (calls_of whole) c.loop-place.place (shown c.state.result) (c.state.ensures.state whole stands) in
    sym (not_done (calls_of whole) c.loop-place.place one.call one.here (ap is_done one.told ∙ sym c.is_done.ensures ∙ c.if-not-is_done.true))

pub loop-place-preserved : goal.loop-place-preserved
loop-place-preserved c whole stands =
    let one = call_at (calls_of whole) c.loop-place.place (shown c.state.result) (c.state.ensures.state whole stands) in
    done_on (calls_of whole) c.loop-place.place one.call one.here (ap is_done one.told ∙ sym c.is_done.ensures ∙ c.if-not-is_done.false) (c.loop-place.invariant whole stands)

pub returns : goal.returns
returns c whole stands =
    let calls = calls_of whole in
    let count : c.loop-place.place ≡ length calls =
    omega (arith, c.calls-place-end.ensures.count whole stands, c.loop-place.auto.place-end, c.loop-place-test.false) in
    sym (sym (ap are_done (ap (λ n. take n calls) count ∙ take-length calls)) ∙ c.loop-place.invariant whole stands)
