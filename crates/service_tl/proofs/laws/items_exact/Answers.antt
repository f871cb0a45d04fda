use Rattle.service_tl.proofs.Exact.{each_read}
use Rattle.service_tl.proofs.Found.{each_broken}
use Rattle.service_tl.proofs.Others.{is_packed, is_call, is_short}
use Rattle.service_tl.proofs.laws.items_exact.Goals as goal

pub returns-clause-read : goal.returns-clause-read
returns-clause-read c = each_read c.written_again.ensures.read c.exact_reading.ensures.read

pub returns-clause-broken : goal.returns-clause-broken
returns-clause-broken c = each_broken c.written_again.ensures.read c.exact_reading.ensures.taken

pub returns-clause-packed : goal.returns-clause-packed
returns-clause-packed c = is_packed c.written_again.ensures.read

pub returns-clause-call : goal.returns-clause-call
returns-clause-call c = is_call c.written_again.ensures.read

pub returns-clause-short : goal.returns-clause-short
returns-clause-short c = is_short
