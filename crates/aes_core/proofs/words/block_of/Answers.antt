use Rattle.std.proofs.Common.{rules}
use Rattle.aes_core.proofs.WordLaws.{state_bytes}
use Rattle.aes_core.proofs.words.block_of.Goals as goal

pub returns : goal.returns
returns c =
    rw (c.to_le_bytes.ensures, c.to_le_bytes-2.ensures, c.to_le_bytes-3.ensures, c.to_le_bytes-4.ensures)
    (state_bytes c.args.state (search rules))
