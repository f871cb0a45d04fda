use Rattle.std.proofs.Common.{append-nil, refl}
use Rattle.tl_codec.specs.Spelling as tl
use Rattle.server_session.proofs.contents.result_head.Goals as goal

pub returns : goal.returns
unfolding tl.spelling
returns c = λ content. rw (c.write_u64.ensures, c.write_u32.ensures, append-nil content) refl
