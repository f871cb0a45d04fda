use Rattle.server_core.proofs.Quiet.{quiet-tick}
use Rattle.server_core.proofs.tick_laws.quiet_ticks_say_nothing.Goals as goal

pub returns : goal.returns
returns g c = λ setting server draw room unfailed none. quiet-tick setting server draw room unfailed none
