use Rattle.std.proofs.Common.{◌∙◌, refl, arith}
use Rattle.client_core.proofs.GoesLemmas.{kept_calls}
use Rattle.client_core.proofs.GivingLemmas.{quiet_all, quiet_none}
use Rattle.client_core.proofs.core_client.Core.gives_up.Goals as goal

pub loop-k-init : goal.loop-k-init
loop-k-init g c = record {
  quiet = λ filling is none. quiet_none filling _ _ is (c.members-count.ensures.members filling.client.table (kept_calls _ _ _ filling c.self.view_is is)) none;
  few = omega arith;
  rest = refl;
}

pub loop-k-preserved : goal.loop-k-preserved
loop-k-preserved g c = record {
  quiet = λ filling is none. c.gives_up_next-place.ensures.quiet filling c.loop-k.k _ c.loop-k-test.true (c.loop-k.invariant.quiet filling is none);
  few = omega (arith, c.gives_up_next-place.ensures.few, c.loop-k.invariant.few);
  rest = c.gives_up_next-place.ensures.rest ∙ c.loop-k.invariant.rest;
}

pub returns-clause-goes : goal.returns-clause-goes
returns-clause-goes g c filling is none =
    quiet_all filling _ c.loop-k.place c.loop-k.k _ (c.loop-k.invariant.quiet filling is none) (omega (arith, c.loop-k-test.false))
