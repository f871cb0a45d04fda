-- What is read from and written to a file of std at a place.
use Rattle.std.specs.Prelude.{◌≡◌, ℕ, List, Option, Some, IfSome}
use Rattle.std.specs.Io.KnownBytes.{Appends, Consumes, Keeps}

-- a file that knew its place is at this one now
abbrev pub StandsAt : Option ℕ → ℕ → Option ℕ → Type 0
StandsAt before at after = IfSome before (λ _. after ≡ Some at)

-- the file was moved to this place, and these bytes were read from there on
pub record ReadsFrom {F : Type 0} (position : F → Option ℕ) (left : F → Option (List ℕ)) (at : ℕ) (bytes : List ℕ) (before after : F) : Type 0 where
  pub moved : F
  pub there : StandsAt (position before) at (position moved)
  pub read : Consumes (left moved) (left after) bytes

-- the file was moved to this place, and these bytes were written there, and flushed
pub record WritesTo {F : Type 0} (position : F → Option ℕ) (held : F → Option (List ℕ)) (at : ℕ) (bytes : List ℕ) (before after : F) : Type 0 where
  pub moved : F
  pub written : F
  pub there : StandsAt (position before) at (position moved)
  pub wrote : Appends (held moved) (held written) bytes
  pub flushed : Keeps (held written) (held after)
