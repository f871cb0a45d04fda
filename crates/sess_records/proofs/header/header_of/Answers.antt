use Rattle.std.proofs.Common.{refl}
use Rattle.sess_records.specs.Format.{magic}
use Rattle.sess_records.specs.Steps.{header_of}
use Rattle.sess_records.proofs.header.header_of.Goals as goal

pub returns : goal.returns
unfolding header_of magic
returns c = rw (c.copy_from_slice.ensures.after, c.copy_from_slice-2.ensures.after) refl
