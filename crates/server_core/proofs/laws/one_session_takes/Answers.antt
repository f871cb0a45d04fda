use Rattle.server_core.proofs.Among.{packet-same}
use Rattle.server_core.proofs.laws.one_session_takes.Goals as goal

pub returns : goal.returns
returns g c = λ setting envelope server draw room unfailed.
    let said = c.sessions_speak_for_themselves.ensures in
    packet-same said.owes said.gives_up setting envelope server draw room unfailed
