use Rattle.std.proofs.Common.{◌∙◌, sym}
use Rattle.client_core.specs.Kept.{Stands}
use Rattle.client_core.proofs.TakingLemmas.{takes_envelope, takes_moment}
use Rattle.client_core.proofs.core_client.Core.take_envelope.Goals as goal

pub returns-then-not-is_for-clause-stands : goal.returns-then-not-is_for-clause-stands
returns-then-not-is_for-clause-stands c client stands =
    takes_moment c.args.now c.args.envelope.now client _ (sym (c.is_for.ensures.told client stands) ∙ c.if-not-is_for.true) c.reach.ensures.living (c.reach.ensures.stands client stands)

pub returns-clause-stands : goal.returns-clause-stands
returns-clause-stands c client stands =
    let reserved : Stands c.make_room.new.self client = record { rest = c.in_ok-make_room.ensures.rest ∙ stands.rest; calls = rw (c.in_ok-make_room.ensures.calls) stands.calls } in
    takes_envelope c.args.now c.args.envelope.now client _ _ _ c.take_lessons-ended.result (sym (c.is_for.ensures.told client stands) ∙ c.if-not-is_for.false)
    c.in_ok-lessons.ensures.lessons c.drop_idle_wish.ensures.living c.drop_idle_wish.ensures.stands c.drop_idle_wish.ensures.ended
    (c.take_lessons-ended.ensures.stands _ (c.reach-2.ensures.stands client reserved))
