use Rattle.law_server.proofs.Start.{unheard-replies, unheard-jobs, opens-new, attaches-new, packets-begin}
use Rattle.law_server.proofs.laws.new_sessions_say_so.Goals as goal

pub returns-clause-replies : goal.returns-clause-replies
returns-clause-replies g c = unheard-replies

pub returns-clause-jobs : goal.returns-clause-jobs
returns-clause-jobs g c = unheard-jobs

pub returns-clause-packet : goal.returns-clause-packet
returns-clause-packet g c = opens-new

pub returns-clause-attach : goal.returns-clause-attach
returns-clause-attach g c = attaches-new

pub returns-clause-begins : goal.returns-clause-begins
returns-clause-begins g c = packets-begin
