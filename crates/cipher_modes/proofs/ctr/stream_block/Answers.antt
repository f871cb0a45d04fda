use Rattle.std.proofs.Common.{refl}
use Rattle.cipher_modes.specs.CounterMode.{counter_block}
use Rattle.cipher_modes.proofs.ctr.stream_block.Goals as goal

pub returns : goal.returns
unfolding counter_block
returns c = rw (c.encrypt_block.ensures.enciphered, c.to_be_bytes-block.ensures, c.from_be_bytes.ensures) refl
