use Rattle.std.proofs.Common.{◌≡◌, ◌∙◌, ◌<◌, List, length, take, ap, arith}
use Rattle.std.proofs.Math.Seq.{take-length}
use Rattle.std.specs.List.{flat_map}
use Rattle.client_rules.specs.Client.{calls_of}
use Rattle.world_rules.specs.World.{Seat}
use Rattle.sim_text.specs.Counts.{tally_of}
use Rattle.sim_text.proofs.SeatLemmas.{calls_on, seat_within}
use Rattle.sim_text.proofs.summary.Counts.of.Goals as goal

pub loop-place-preserved : goal.loop-place-preserved
loop-place-preserved g c =
    let place = c.loop-place.place in (
      λ seats stands.
          let less : place < length seats = omega (arith, c.client_count-place-end.ensures seats stands, c.loop-place-test.true) in
          let one = seat_within seats place less in
          c.add_at.ensures.counted seats one.0 (flat_map (λ (seat : Seat). calls_of seat.client) (take place seats)) stands one.1 (c.loop-place.invariant.0 seats stands)
          ∙ ap tally_of (calls_on seats place one.0 one.1),
      omega (arith, c.add_at.ensures.few, c.loop-place.invariant.1),
    )

pub returns : goal.returns
returns g c seats stands =
    let count : c.loop-place.place ≡ length seats =
    omega (arith, c.client_count-place-end.ensures seats stands, c.loop-place.auto.place-end, c.loop-place-test.false) in
    c.loop-place.invariant.0 seats stands
    ∙ ap (λ (some : List Seat). tally_of (flat_map (λ (seat : Seat). calls_of seat.client) some)) (ap (λ n. take n seats) count ∙ take-length seats)
