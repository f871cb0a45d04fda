use Rattle.std.proofs.Common.{◌≡◌, length, arith}
use Rattle.std.specs.Vec.Iter.{into_iter_items}
use Rattle.inbox.proofs.SettledLemmas.{begins, goes_on, ends_judged, ends_stands}
use Rattle.inbox.proofs.settling.settle_inner.Goals as goal

pub loop-draft-init : goal.loop-draft-init
loop-draft-init c =
    let gives = c.into_iter-draft-iterator.ensures.into_iter_gives in
    (tt, tt, omega (arith, gives.1, c.requires.room), omega (arith, gives.1, c.requires.judgement_room), λ session stands. begins session _ _ _ _ gives.0 stands)

pub settle-requires : goal.settle-requires
settle-requires c = omega (arith, c.loop-draft.invariant.2, c.in-Some.ensures.steps.1)

pub push_reserved-requires : goal.push_reserved-requires
push_reserved-requires c = omega (arith, c.loop-draft.invariant.3, c.in-Some.ensures.steps.1)

pub loop-draft-preserved : goal.loop-draft-preserved
loop-draft-preserved c = (
  tt,
  tt,
  omega (arith, c.loop-draft.invariant.2, c.in-Some.ensures.steps.1, c.settle.ensures.room),
  omega (arith, c.loop-draft.invariant.3, c.in-Some.ensures.steps.1, c.push_reserved.ensures.len, c.push_reserved.ensures.capacity),
  λ session stands. goes_on session _ _ _ _ _ _ _ _ _ _ (c.loop-draft.invariant.4 session stands) c.in-Some.ensures.steps.0 c.push_reserved.ensures.items c.settle.ensures.judged c.settle.ensures.stands,
)

pub returns-clause-judged : goal.returns-clause-judged
returns-clause-judged c session stands =
    let none : length (into_iter_items c.loop-draft.draft-iterator) ≡ 0 = omega (arith, c.in-None.ensures.steps.0, c.loop-draft.draft-iterator.rest.ok.0) in
    ends_judged session _ _ _ _ _ (c.loop-draft.invariant.4 session stands) none

pub returns-clause-stands : goal.returns-clause-stands
returns-clause-stands c session stands =
    let none : length (into_iter_items c.loop-draft.draft-iterator) ≡ 0 = omega (arith, c.in-None.ensures.steps.0, c.loop-draft.draft-iterator.rest.ok.0) in
    ends_stands session _ _ _ _ _ (c.loop-draft.invariant.4 session stands) none
