use Rattle.std.proofs.Common.{◌≡◌, ◌∙◌, ◌+◌, List, ℕ, [], None, length, take, refl, subst, sym}
use Rattle.call_table.specs.Kept.{shown}
use Rattle.call_table.specs.Table.{Call, no_flags}
use Rattle.client_rules.specs.Client.{calls_of}
use Rattle.world_rules.specs.Report.{call_line}
use Rattle.sim_text.proofs.BagLemmas.{front_stays}
use Rattle.sim_text.proofs.CallLemmas.{call_at, lines_on}
use Rattle.sim_text.proofs.client.push_calls.Goals as goal

pub loop-place-preserved : goal.loop-place-preserved
loop-place-preserved c =
    let old = c.args.text.now in
    let text = c.loop-place.text in
    let place = c.loop-place.place in
    let any : Call = record { body = []; after = None; state = shown c.state-told.result; names = []; flags = no_flags } in (
      λ whole stands.
          let one = call_at (calls_of whole) place (shown c.state-told.result) (c.state-told.ensures.state whole stands) in
          c.in_ok-call_line.ensures.told one.call one.told
          ∙ lines_on old text c.args.client (calls_of whole) place one.call one.here (c.loop-place.invariant.0 whole stands),
      subst (λ (all : List ℕ). take (length old) all ≡ old) (sym (c.in_ok-call_line.ensures.told any refl))
          (front_stays old text (call_line c.args.client (place + 1) any) c.loop-place.invariant.1),
    )
