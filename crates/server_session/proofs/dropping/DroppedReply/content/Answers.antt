use Rattle.std.proofs.Common.{refl}
use Rattle.tl_codec.specs.Spelling as tl
use Rattle.server_session.proofs.dropping.DroppedReply.content.Goals as goal

pub returns : goal.returns
unfolding tl.spelling
returns c = rw (c.write_u32-3.ensures, c.write_u32-2.ensures, c.write_u64.ensures, c.write_u32.ensures) refl
