use Rattle.std.proofs.Common.{◌≤◌, ◌-◌, vec_len, vec_capacity}
use Rattle.std.specs.List.{AllByRecursion}
use Rattle.server_output.specs.Batch.{IsPlace}
use Rattle.server_output.proofs.packets.places.Given as goal

abbrev pub invariant-places : goal.invariant-places
invariant-places l = record {
  few : vec_len l.places ≤ l.count;
  room : l.count ≤ vec_capacity l.places;
  all : AllByRecursion (IsPlace l.body) l.places.items;
}

abbrev pub decreases-places : goal.decreases-places
decreases-places l = l.count - vec_len l.places
