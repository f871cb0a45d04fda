use Rattle.std.proofs.Common.{◌∙◌, ◌*◌, length, ap, refl, sym, arith}
use Rattle.call_table.specs.declared.call.Group.TheVariants as group
use Rattle.call_table.specs.Table.{places_from}
use Rattle.call_table.specs.Kept.{is_row_in}
use Rattle.client_rules.specs.Client.{Client}
use Rattle.client_core.proofs.DropLemmas.{drops_all, drops_full, drops_none}
use Rattle.client_core.specs.Kept.{Contents}
use Rattle.client_core.specs.Owed.{one_bytes}
use Rattle.client_core.proofs.FrontLemmas.{same_queue, same_then}
use Rattle.client_core.proofs.GoesLemmas.{kept_calls}
use Rattle.client_core.proofs.RoomLemmas.{room_left, room_less, takes_both, takes_more, takes_none}
use Rattle.client_core.proofs.core_client.Core.says_drops.Goals as goal

pub loop-k-init : goal.loop-k-init
loop-k-init g c = record {
  so_far = λ filling is. drops_none filling _ _ _ is (c.members-count.ensures.members filling.client.table (kept_calls _ _ _ filling c.self.view_is is));
  numbers = c.requires.numbers;
  rest = refl;
  room = refl;
  upto = omega arith;
  bytes = room_less _ _ _ (omega (arith, c.members-count.ensures.kept, ap (λ (core : Contents). length (places_from (is_row_in group.Dropping) 0 core.calls.rows)) c.self.view_is)) c.requires.bytes;
  takes = takes_none _ _ _;
  queued = same_queue _;
}

pub loop-k-preserved : goal.loop-k-preserved
loop-k-preserved g c = record {
  so_far = λ filling is. c.says_next_drop.ensures.so_far filling c.loop-k.k _ c.loop-k-test.true (c.loop-k.invariant.so_far filling is);
  numbers = c.says_next_drop.ensures.numbers;
  rest = ap (λ (rest : Client). record rest { counters = c.args.self.now.rest.counters }) c.says_next_drop.ensures.rest ∙ c.loop-k.invariant.rest;
  room = c.says_next_drop.ensures.room ∙ c.loop-k.invariant.room;
  upto = omega (arith, c.loop-k-test.true);
  bytes = room_left one_bytes _ _ _ _ (omega (arith, c.loop-k-test.true)) c.loop-k.invariant.bytes c.says_next_drop.ensures.takes;
  takes = takes_both (one_bytes * c.loop-k.k) one_bytes _ _ _ _ (omega arith) c.loop-k.invariant.takes c.says_next_drop.ensures.takes;
  queued = same_then _ _ _ c.loop-k.invariant.queued c.says_next_drop.ensures.queued;
}

pub says_next_drop-requires-clause-bytes : goal.says_next_drop-requires-clause-bytes
says_next_drop-requires-clause-bytes g c = room_less _ _ _ (omega (arith, c.loop-k-test.true)) c.loop-k.invariant.bytes

pub returns-then-is_full-clause-takes : goal.returns-then-is_full-clause-takes
returns-then-is_full-clause-takes g c =
    takes_more _ _ _ _ (omega (arith, c.loop-k.invariant.upto, c.members-count.ensures.kept, ap (λ (core : Contents). length (places_from (is_row_in group.Dropping) 0 core.calls.rows)) c.self.view_is)) c.loop-k.invariant.takes

pub returns-clause-takes : goal.returns-clause-takes
returns-clause-takes g c =
    takes_more _ _ _ _ (omega (arith, c.loop-k.invariant.upto, c.members-count.ensures.kept, ap (λ (core : Contents). length (places_from (is_row_in group.Dropping) 0 core.calls.rows)) c.self.view_is)) c.loop-k.invariant.takes

pub returns-then-is_full-clause-goes : goal.returns-then-is_full-clause-goes
returns-then-is_full-clause-goes g c filling is =
    drops_full filling _ _ c.loop-k.k _ (c.loop-k.invariant.so_far filling is) (sym c.is_full.ensures ∙ c.if-is_full.true)

pub returns-clause-goes : goal.returns-clause-goes
returns-clause-goes g c filling is =
    drops_all filling _ _ c.loop-k.k _ (c.loop-k.invariant.so_far filling is) (omega (arith, c.loop-k-test.false))
