-- Locks that keep sizes (core.telegram.org/mtproto/description, "Encrypted Message").
use Rattle.std.specs.Prelude.{◌≡◌, ℕ, ◌*◌, List, length}
use Rattle.octets.specs.Bytes.{HasBytes}
use Rattle.envelope.specs.declared.parts.Dir.{Dir}
use Rattle.envelope.specs.Packet.{Lock}

-- a message key has 16 bytes, and the text of whole blocks is as long as they are
pub record KeepsSizes (lock : Lock) : Type 0 where
  pub message_key : (key : List ℕ) (dir : Dir) (plain : List ℕ) → length (lock.message_key key dir plain) ≡ 16
  pub text : (key : List ℕ) (dir : Dir) (message_key plain : List ℕ) (n : ℕ) → HasBytes (16 * n) plain
      → length (lock.locked key dir message_key plain) ≡ length plain
