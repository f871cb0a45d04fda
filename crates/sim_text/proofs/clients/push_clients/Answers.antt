use Rattle.std.proofs.Common.{◌∙◌, ◌<◌, length, arith}
use Rattle.sim_text.proofs.SeatLemmas.{clients_on, seat_within}
use Rattle.sim_text.proofs.BagLemmas.{fronts_stay}
use Rattle.sim_text.proofs.clients.push_clients.Goals as goal

pub loop-place-preserved : goal.loop-place-preserved
loop-place-preserved g c =
    let old = c.args.text.now in
    let place = c.loop-place.place in (
      λ seats stands.
          let less : place < length seats = omega (arith, c.client_count-place-end.ensures seats stands, c.loop-place-test.true) in
          let one = seat_within seats place less in
          c.in_ok-push_client.ensures.told seats one.0 stands one.1
          ∙ clients_on old c.loop-place.text seats place one.0 one.1 (c.loop-place.invariant.0 seats stands),
      fronts_stay old c.loop-place.text c.push_client.new.text c.loop-place.invariant.1 c.push_client.ensures.front,
    )
