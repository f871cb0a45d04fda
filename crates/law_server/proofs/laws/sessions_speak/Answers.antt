use Rattle.law_server.proofs.Replies.{speaks-named, speaks-apart}
use Rattle.law_server.proofs.laws.sessions_speak.Goals as goal

pub returns-clause-own : goal.returns-clause-own
returns-clause-own g c = speaks-named

pub returns-clause-others : goal.returns-clause-others
returns-clause-others g c = speaks-apart
