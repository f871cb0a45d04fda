use Rattle.server_core.proofs.Shares.{stays-quiet}
use Rattle.server_core.proofs.tick_laws.quiet_sessions_say_nothing.Goals as goal

pub returns : goal.returns
returns g c = λ setting name state unfailed none. stays-quiet setting name state unfailed none
