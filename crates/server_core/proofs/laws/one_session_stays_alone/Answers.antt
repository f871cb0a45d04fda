use Rattle.std.proofs.Common.{refl}
use Rattle.server_rules.specs.Server.{session_named}
use Rattle.server_rules.specs.Answer.{name_in}
use Rattle.server_core.proofs.Among.{heard_by-alone, opened-alone, settled-alone}
use Rattle.server_core.proofs.laws.one_session_stays_alone.Goals as goal

pub returns-clause-heard : goal.returns-clause-heard
returns-clause-heard g c = λ setting envelope server draw room unfailed.
    heard_by-alone setting envelope server draw (session_named (name_in envelope) server.sessions) refl room unfailed

pub returns-clause-opens : goal.returns-clause-opens
returns-clause-opens g c = λ setting name history judged among alone. opened-alone setting name history judged among alone

pub returns-clause-settles : goal.returns-clause-settles
returns-clause-settles g c = λ setting name judgement body among alone.
    let said = c.sessions_speak_for_themselves.ensures in
    settled-alone said.owes said.gives_up setting name judgement body among alone
