use Rattle.cipher_modes.proofs.CtrLaws.{stream_at}
use Rattle.cipher_modes.proofs.ctr.Ctr.next_byte.Goals as goal

pub returns-then-self-eq-BLOCK_BYTES-clause-byte : goal.returns-then-self-eq-BLOCK_BYTES-clause-byte
returns-then-self-eq-BLOCK_BYTES-clause-byte c =
    rw (← c.self.view_is) (stream_at _ _ _ _ _ c.self.invariant.0 c.self.invariant.1)

pub returns-else-self-eq-BLOCK_BYTES-clause-byte : goal.returns-else-self-eq-BLOCK_BYTES-clause-byte
returns-else-self-eq-BLOCK_BYTES-clause-byte c =
    rw (← c.self.view_is) (stream_at _ _ _ _ _ c.self.invariant.0 c.self.invariant.1)
