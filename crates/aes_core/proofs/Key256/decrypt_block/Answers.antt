use Rattle.aes_core.proofs.ScheduleLaws.{IsExpansion-round_keys}
use Rattle.aes_core.proofs.CipherLaws.{cipher-inverse_cipher}
use Rattle.aes_core.proofs.Key256.decrypt_block.Goals as goal

pub returns-clause-undone_by_cipher : goal.returns-clause-undone_by_cipher
returns-clause-undone_by_cipher c =
    rw (← c.self.view_is, ← c.self.invariant.0.schedule, c.inverse_cipher.ensures _ c.self.invariant.1)
    (cipher-inverse_cipher _ (IsExpansion-round_keys _ c.self.invariant.0) _
    (record { count = c.told-block; in_range = c.fits-block }))

pub returns-clause-key_of_bytes : goal.returns-clause-key_of_bytes
returns-clause-key_of_bytes c = rw (← c.self.view_is) c.self.invariant.0.key_bytes
