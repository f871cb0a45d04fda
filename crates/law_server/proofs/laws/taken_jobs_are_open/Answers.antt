use Rattle.waits.specs.Jobs.{without_first, without_ready}
use Rattle.law_server.proofs.Own.{first-taken, ready-taken}
use Rattle.law_server.proofs.Speaking.{taken-speaks}
use Rattle.law_server.proofs.laws.taken_jobs_are_open.Goals as goal

pub returns-clause-first : goal.returns-clause-first
returns-clause-first g c = λ test job name others past opened speaker is of_key of_session s.
    let session = speaker.session in
    taken-speaks job (without_first test speaker.jobs) name others past opened session.key session.number session.history session.replies session.counters.last speaker.jobs
    (first-taken test speaker.jobs job is) of_key of_session s

pub returns-clause-ready : goal.returns-clause-ready
returns-clause-ready g c = λ place job name others past opened speaker is of_key of_session s.
    let session = speaker.session in
    taken-speaks job (without_ready place speaker.jobs) name others past opened session.key session.number session.history session.replies session.counters.last speaker.jobs
    (ready-taken place speaker.jobs job is) of_key of_session s
