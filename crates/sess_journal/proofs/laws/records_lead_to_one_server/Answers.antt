use Rattle.sess_journal.proofs.ReplayLemmas.{one_server, parts, whole}
use Rattle.sess_journal.proofs.laws.records_lead_to_one_server.Goals as goal

pub returns-clause-one : goal.returns-clause-one
returns-clause-one g c = λ basis entries before after other unseals one two. one_server basis unseals entries before after other one two

pub returns-clause-parts : goal.returns-clause-parts
returns-clause-parts g c = λ basis entries more before after h. parts basis entries more before after h

pub returns-clause-whole : goal.returns-clause-whole
returns-clause-whole g c = λ basis entries more before between after h k. whole basis entries more before between after h k
