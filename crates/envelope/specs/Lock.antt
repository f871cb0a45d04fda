-- The two locks: that of the protocol, and one without a cipher.
use Rattle.std.specs.Prelude.{◌≡◌, ◌<◌, ℕ, ◌*◌, List, [], ◌∷◌, ◌++◌, length, replicate, take, drop}
use Rattle.octets.specs.Bytes.{IsBytes, HasBytes}
use Rattle.cipher_modes.specs.Ige.{ige, inverse_ige}
use Rattle.msg_key.specs.Keys as keys
use Rattle.envelope.specs.declared.parts.Dir.{Dir}
use Rattle.envelope.specs.declared.parts.Dir.TheVariants.{Up, Down}
use Rattle.envelope.specs.Packet.{Lock}

-- ---- MTProto 2.0 (core.telegram.org/mtproto/description)

-- x of the equations: 0 for packets from client to server, 8 for those from server to client
abbrev pub x_of : Dir → ℕ
x_of Up = keys.x_up
x_of Down = keys.x_down

-- the text is the plain text in infinite garble extension, under the key and the initialisation vector of the
-- message key
abbrev pub mt_lock : Lock
mt_lock = record {
  message_key = λ key dir plain. keys.message_key key (x_of dir) plain;
  locked = λ key dir message_key plain. ige (keys.aes_key key (x_of dir) message_key) (keys.aes_iv key (x_of dir) message_key) plain;
  unlocked = λ key dir message_key text. inverse_ige (keys.aes_key key (x_of dir) message_key) (keys.aes_iv key (x_of dir) message_key) text;
}

-- ---- without a cipher

-- 16 bytes for the direction: the first is 0 up and 1 down, the others are 0
abbrev pub dir_byte : Dir → ℕ
dir_byte Up = 0
dir_byte Down = 1

-- the text is the plain text as it is
abbrev pub clear_lock : Lock
clear_lock = record {
  message_key = λ key dir plain. dir_byte dir ∷ replicate 15 0;
  locked = λ key dir message_key plain. plain;
  unlocked = λ key dir message_key text. text;
}

-- what was unlocked of whole blocks of bytes is locked to the same text again
abbrev pub LocksAgain : Lock → Type 0
LocksAgain lock = (key : List ℕ) (dir : Dir) (message_key text : List ℕ) (n : ℕ) → HasBytes (16 * n) text
    → lock.locked key dir message_key (lock.unlocked key dir message_key text) ≡ text

-- ---- What makes a lock of these three functions, for the proofs: scaffolding, and no promise.

pub record IsLock (lock : Lock) : Type 0 where
  pub message_key : (key : List ℕ) (dir : Dir) (plain : List ℕ) → HasBytes 16 (lock.message_key key dir plain)
  pub same_length : (key : List ℕ) (dir : Dir) (message_key plain : List ℕ) (n : ℕ) → HasBytes (16 * n) plain
      → length (lock.locked key dir message_key plain) ≡ length plain
  pub unlocked_again : (key : List ℕ) (dir : Dir) (message_key plain : List ℕ) (n : ℕ) → HasBytes (16 * n) plain
      → lock.unlocked key dir message_key (lock.locked key dir message_key plain) ≡ plain
  pub locked_again : LocksAgain lock

-- what the crates below promise of lists of bytes
pub record ByteLaws : Type 0 where
  pub nil : IsBytes []
  pub cons : (x : ℕ) (xs : List ℕ) → x < 256 → IsBytes xs → IsBytes (x ∷ xs)
  pub append : (xs ys : List ℕ) → IsBytes xs → IsBytes ys → IsBytes (xs ++ ys)
  pub take : (n : ℕ) (xs : List ℕ) → IsBytes xs → IsBytes (take n xs)
  pub drop : (n : ℕ) (xs : List ℕ) → IsBytes xs → IsBytes (drop n xs)
