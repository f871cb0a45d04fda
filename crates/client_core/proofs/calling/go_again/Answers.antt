use Rattle.std.proofs.Common.{◌∙◌}
use Rattle.client_core.proofs.AloneLemmas.{again_stands, count_kept, state_kept}
use Rattle.client_core.proofs.calling.go_again.Goals as goal

pub again-requires-clause-given : goal.again-requires-clause-given
again-requires-clause-given c =
    rw (c.set_flags.ensures.kept) (c.requires.given.0, rw (count_kept c.args.call _ c.args.calls.now.rows) c.requires.given.1)

pub again-requires-clause-sent : goal.again-requires-clause-sent
again-requires-clause-sent c =
    rw (c.set_flags.ensures.kept) (state_kept c.args.call _ c.args.calls.now.rows ∙ c.requires.sent)

pub returns-clause-stands : goal.returns-clause-stands
returns-clause-stands c table stands =
    again_stands _ table c.args.call c.args.salt c.flags-flags.result
    (c.again.ensures.stands _ (c.set_flags.ensures.stands table stands))
    (c.flags-flags.ensures.flags table stands)

pub returns-clause-sound : goal.returns-clause-sound
returns-clause-sound c last sound =
    rw (c.again.ensures.kept) (c.calls_stay_sound.ensures.again last c.args.call c.args.salt _ (rw (c.set_flags.ensures.kept) (c.calls_stay_sound.ensures.flagged last c.args.call _ _ sound)))
