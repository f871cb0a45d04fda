-- What a link tells.
use Rattle.std.specs.Prelude.{◌≡◌, ℕ, Bool, List, [], ◌∷◌, ◌++◌, length}
use Rattle.mt_edge.specs.declared.source.Got.{Got}
use Rattle.mt_edge.specs.declared.source.Got.TheVariants.{Bytes, End, Failed}
use Rattle.mt_edge.specs.declared.sink.Put.{Put}
use Rattle.mt_edge.specs.declared.link_read.LinkRead.{LinkRead}
use Rattle.mt_edge.specs.Got.{handed}
use Rattle.mt_edge.specs.Put.{taken}

-- what a link has done so far, and what its peer still sends
pub record Told : Type 0 where
  -- the bytes that its reads handed over, in order
  pub came : List ℕ
  -- the bytes that its reads will hand over
  pub left : List ℕ
  -- the bytes that its writes took, in order
  pub written : List ℕ
  -- its reads, in order: the room of each, and the answer
  pub reads : List LinkRead

-- how a link stands
pub record Standing : Type 0 where
  -- the place, from 0, that the call that handed it out has in the record of its net
  pub place : ℕ
  pub closed : Bool

-- a link that neither read nor wrote yet
pub record IsFresh (told : Told) : Type 0 where
  pub came : told.came ≡ []
  pub written : told.written ≡ []
  pub reads : told.reads ≡ []

-- the end is answered only where nothing is left
abbrev pub EndsAt : Got → List ℕ → Type 0
EndsAt (Bytes n) left = Unit {0}
EndsAt End left = left ≡ []
EndsAt Failed left = Unit {0}

-- a read into this buffer, as it stands after it
pub record ReadsOver (got : Got) (buffer : List ℕ) (before after : Told) : Type 0 where
  -- the bytes handed over are the next of those that were left
  pub came : after.came ≡ before.came ++ handed got buffer
  pub left : before.left ≡ handed got buffer ++ after.left
  -- the end comes only where nothing is left
  pub end : EndsAt got before.left
  -- the read is noted
  pub reads : after.reads ≡ before.reads ++ record { room = length buffer; answer = got } ∷ []
  pub written : after.written ≡ before.written

-- a write of this piece
pub record WritesOver (put : Put) (piece : List ℕ) (before after : Told) : Type 0 where
  pub written : after.written ≡ before.written ++ taken put piece
  pub came : after.came ≡ before.came
  pub left : after.left ≡ before.left
  pub reads : after.reads ≡ before.reads
