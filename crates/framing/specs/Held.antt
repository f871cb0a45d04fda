-- What the buffer of a stream holds.
use Rattle.std.specs.Prelude.{ℕ, List, [], ◌++◌, Option, None, Some}
use Rattle.tl_codec.specs.declared.fault.FrameFault.{FrameFault}

-- what is left behind the frames that were taken, the number of the next one, and the fault that was met
pub record Held : Type 0 where
  pub left : List ℕ
  pub number : ℕ
  pub fault : Option FrameFault

-- the fresh buffer of a stream
abbrev pub nothing : Held
nothing = record { left = []; number = 0; fault = None }

-- nothing is kept behind a fault
abbrev pub put_behind : Option FrameFault → List ℕ → List ℕ → List ℕ
put_behind None left piece = left ++ piece
put_behind (Some fault) left piece = left

-- what it holds once the stream's next piece has come
abbrev pub with_piece : List ℕ → Held → Held
with_piece piece held = record held { left = put_behind held.fault held.left piece }
