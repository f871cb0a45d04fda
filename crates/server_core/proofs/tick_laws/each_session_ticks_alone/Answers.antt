use Rattle.server_core.proofs.Shares.{ticks-alone}
use Rattle.server_core.proofs.tick_laws.each_session_ticks_alone.Goals as goal

pub returns : goal.returns
returns g c = λ setting name state. ticks-alone setting name state
