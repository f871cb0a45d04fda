use Rattle.law_server.proofs.Replies.{mark-of}
use Rattle.law_server.proofs.laws.marks_are_of_replies.Goals as goal

pub returns : goal.returns
returns c = mark-of
