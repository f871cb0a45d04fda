use Rattle.std.proofs.Common.{◌∙◌, ap, refl, sym, arith}
use Rattle.client_rules.specs.Client.{Client}
use Rattle.client_core.proofs.GoesLemmas.{kept_calls}
use Rattle.client_core.proofs.QueueLemmas.{so_far_all, so_far_full, so_far_none}
use Rattle.client_core.proofs.core_client.Core.says_calls.Goals as goal

pub loop-k-init : goal.loop-k-init
loop-k-init g c = record {
  so_far = λ filling is. so_far_none filling _ _ _ is (c.members-count.ensures.members filling.client.table (kept_calls _ _ _ filling c.self.view_is is));
  few = omega arith;
  numbers = c.requires.numbers;
  bytes = c.requires.bytes;
  same_room = refl;
  rest = refl;
}

pub loop-k-preserved : goal.loop-k-preserved
loop-k-preserved g c = record {
  so_far = λ filling is. c.says_next-place.ensures.so_far filling c.loop-k.k _ c.loop-k-test.true (c.loop-k.invariant.so_far filling is);
  few = omega (arith, c.says_next-place.ensures.few, c.loop-k.invariant.few);
  numbers = c.says_next-place.ensures.numbers;
  bytes = c.says_next-place.ensures.bytes_left;
  same_room = c.says_next-place.ensures.same_room ∙ c.loop-k.invariant.same_room;
  rest = ap (λ (rest : Client). record rest { counters = c.args.self.now.rest.counters }) c.says_next-place.ensures.rest ∙ c.loop-k.invariant.rest;
}

pub returns-then-is_full-clause-goes : goal.returns-then-is_full-clause-goes
returns-then-is_full-clause-goes g c filling is =
    so_far_full filling _ _ c.loop-k.place c.loop-k.k _ (c.loop-k.invariant.so_far filling is) (sym c.is_full.ensures ∙ c.if-is_full.true)

pub returns-clause-goes : goal.returns-clause-goes
returns-clause-goes g c filling is =
    so_far_all filling _ _ c.loop-k.place c.loop-k.k _ (c.loop-k.invariant.so_far filling is) (omega (arith, c.loop-k-test.false))
