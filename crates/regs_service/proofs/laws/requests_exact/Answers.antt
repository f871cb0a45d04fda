use Rattle.regs_service.proofs.RequestLemmas.{is_taken, is_read, is_refused, is_one}
use Rattle.regs_service.proofs.laws.requests_exact.Goals as goal

pub returns-clause-taken : goal.returns-clause-taken
returns-clause-taken c = is_taken c.exact_reading.ensures.taken c.parts_are_bytes.ensures.back

pub returns-clause-read : goal.returns-clause-read
returns-clause-read c = is_read c.exact_reading.ensures.read

pub returns-clause-refused : goal.returns-clause-refused
returns-clause-refused c = is_refused c.exact_reading.ensures.read

pub returns-clause-one : goal.returns-clause-one
returns-clause-one c = is_one c.exact_reading.ensures.read
