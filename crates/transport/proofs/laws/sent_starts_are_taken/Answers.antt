use Rattle.transport.proofs.SentStarts.{full_begins, taken}
use Rattle.transport.proofs.laws.sent_starts_are_taken.Goals as goal

pub returns-clause-full : goal.returns-clause-full
returns-clause-full c = full_begins

pub returns-clause-taken : goal.returns-clause-taken
returns-clause-taken c = taken
