-- One direction of a connection: the bytes as they are sent, and as they are framed.
use Rattle.std.specs.Prelude.{ℕ, List, Option, None, Some}
use Rattle.cipher_modes.specs.CounterMode.{CtrState, applied, advanced}

-- the bytes of the one are those of the other, xored with the key stream where the connection is obfuscated
abbrev pub through : Option CtrState → List ℕ → List ℕ
through None bytes = bytes
through (Some stream) bytes = applied stream bytes

-- the key stream behind so many bytes
abbrev pub behind : Option CtrState → ℕ → Option CtrState
behind None count = None
behind (Some stream) count = Some (advanced stream count)
