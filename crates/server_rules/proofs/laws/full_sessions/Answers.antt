use Rattle.std.proofs.Common.{refl}
use Rattle.std.proofs.lemmas.Bool.{le-leb}
use Rattle.waits.specs.Limits.{most_jobs}
use Rattle.waits.specs.Jobs.{job_count}
use Rattle.server_rules.proofs.laws.full_sessions.Goals as goal

pub returns : goal.returns
returns g c = λ setting job speaker bound query full.
    let is = le-leb most_jobs (job_count job.key job.session speaker.jobs) full in
    rw (bound, query, is) refl
