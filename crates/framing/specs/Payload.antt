-- What a frame carries (core.telegram.org/mtproto/mtproto-transports).
use Rattle.std.specs.Prelude.{◌≡◌, ◌≤◌, ◌%◌, ℕ, List, length}

-- the most bytes of a payload
abbrev pub payload_max : ℕ
payload_max = 1048576

-- a payload has 4 to 1,048,576 bytes, a multiple of 4; one of 4 bytes is a transport error
pub record IsPayload (payload : List ℕ) : Type 0 where
  pub some : 4 ≤ length payload
  pub most : length payload ≤ payload_max
  pub words : length payload % 4 ≡ 0
