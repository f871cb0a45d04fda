use Rattle.client_calls.proofs.ChangeLemmas.{alone_stands}
use Rattle.client_calls.proofs.SoundLemmas.{sound_flagged}
use Rattle.client_calls.proofs.marking.mark.Goals as goal

pub returns-clause-stands : goal.returns-clause-stands
returns-clause-stands c table stands =
    alone_stands c.set_flags.new.self table c.args.call c.flags-flags.result
    (c.set_flags.ensures.stands table stands)
    (c.flags-flags.ensures.flags table stands)

pub returns-clause-sound : goal.returns-clause-sound
returns-clause-sound c last sound = rw (c.set_flags.ensures.kept) (sound_flagged last _ _ _ sound)
