use Rattle.aes_core.proofs.ScheduleLaws.{IsExpansion-round_keys}
use Rattle.aes_core.proofs.CipherLaws.{inverse_cipher-cipher}
use Rattle.aes_core.proofs.Key256.encrypt_block.Goals as goal

pub returns-clause-undone_by_inverse : goal.returns-clause-undone_by_inverse
returns-clause-undone_by_inverse c =
    rw (← c.self.view_is, ← c.self.invariant.0.schedule, c.cipher.ensures)
    (inverse_cipher-cipher _ (IsExpansion-round_keys _ c.self.invariant.0) _
    (record { count = c.told-block; in_range = c.fits-block }))

pub returns-clause-key_of_bytes : goal.returns-clause-key_of_bytes
returns-clause-key_of_bytes c = rw (← c.self.view_is) c.self.invariant.0.key_bytes
