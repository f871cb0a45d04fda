use Rattle.std.proofs.Common.{append-nil}
use Rattle.tl_codec.specs.Spelling as tl
use Rattle.server_session.proofs.laws.replies_are_results.Goals as goal

pub returns : goal.returns
unfolding tl.spelling
returns c = λ call content. append-nil content
