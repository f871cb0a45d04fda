-- The key file of a command.
use Rattle.std.specs.Prelude.{◌≡◌, ℕ, Option, Some, None, Result, Ok, Err, List, [], ◌∷◌, ◌++◌, IfSome, codes, decimal, ⊤}
use Rattle.std.specs.List.{Contains}
use Rattle.auth_keys.specs.KeyFile.{IsFaultOf, IsRingOf}
use Rattle.auth_keys.specs.declared.fault.KeyFault.{KeyFault}
use Rattle.auth_keys.specs.declared.fault.KeyFault.TheVariants as faults
use Rattle.auth_keys.specs.declared.ring.RingKey.{RingKey}
use Rattle.mt_edge.specs.Faults.{one_more}
use Rattle.mt_edge.specs.Files.{FilesTold}
use Rattle.mt_edge.specs.declared.key_files.NamedFile.{NamedFile}
use Rattle.key_files.specs.declared.reading.KeysFault.{KeysFault}
use Rattle.key_files.specs.declared.reading.KeysFault.TheVariants as keys

-- ---- its text

-- where the files are told, one of this name has this text
abbrev pub HasFile : Option FilesTold → List ℕ → List ℕ → Type 0
HasFile told name text = IfSome told (λ files. Contains files.files (record { name = name; contents = text }))

-- of the text of a file of this name this holds
abbrev pub HasText : Option FilesTold → List ℕ → (List ℕ → Type 0) → Type 0
HasText told name P = (text : List ℕ) × HasFile told name text × P text

-- each file of this name has this text
abbrev pub IsFileOf : List NamedFile → List ℕ → List ℕ → Type 0
IsFileOf files name text = (other : List ℕ) → Contains files (record { name = name; contents = other }) → other ≡ text

-- the line that a fault is on, but for want of memory
abbrev pub line_of : KeyFault → Option ℕ
line_of (faults.BadLine line) = Some line
line_of (faults.TooMany line) = Some line
line_of (faults.SameId line first_line) = Some line
line_of faults.Memory = None

-- the text is no ring, and its first fault is on this line
pub record IsRefusedAt (text : List ℕ) (line : ℕ) : Type 0 where
  pub fault : KeyFault
  pub its : IsFaultOf text fault
  pub on : line_of fault ≡ Some line

-- ---- a read of it

-- the file of this name was asked for, once, and no other
pub record AsksOnce (name : List ℕ) (before after : FilesTold) : Type 0 where
  pub asked : after.asked ≡ before.asked ++ name ∷ []
  pub files : after.files ≡ before.files

-- the text is this ring, or is refused at this line; where it can't be read, or memory ran out, nothing is said of it
abbrev pub GivesBy : Option FilesTold → List ℕ → Result (List RingKey) KeysFault → Type 0
GivesBy told name (Ok ring) = HasText told name (λ text. IsRingOf text ring)
GivesBy told name (Err keys.Unread) = ⊤
GivesBy told name (Err (keys.Refused line)) = HasText told name (λ text. IsRefusedAt text line)
GivesBy told name (Err keys.Memory) = ⊤

-- one more fault is counted exactly where it can't be read
abbrev pub CountsBy : Result (List RingKey) KeysFault → ℕ → ℕ → Type 0
CountsBy (Ok ring) before after = after ≡ before
CountsBy (Err keys.Unread) before after = after ≡ one_more before
CountsBy (Err (keys.Refused line)) before after = after ≡ before
CountsBy (Err keys.Memory) before after = after ≡ before

-- ---- what is told of it

-- it can't be read, or is refused at a line
abbrev pub not_read : List ℕ
not_read = codes "key file not read\n"

abbrev pub refused_at : ℕ → List ℕ
refused_at line = codes "key file refused at line " ++ decimal line ++ codes "\n"
