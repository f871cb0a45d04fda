use Rattle.server_rules.specs.Answer.{begun, name_in, takes}
use Rattle.server_core.proofs.Acked.{acknowledged-out}
use Rattle.server_core.proofs.laws.acknowledgements_go_out.Goals as goal

pub returns : goal.returns
returns g c = λ setting envelope server draw taken odd.
    acknowledged-out setting (record { own = c.sessions_speak.ensures.own; others = c.sessions_speak.ensures.others }) c.packets_have_all_messages.ensures.all
    (name_in envelope) envelope.number (takes setting envelope (begun server draw)) taken.recorded.0 taken.recorded.1 (taken.acknowledged odd)
