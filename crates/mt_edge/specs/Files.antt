-- What key files tell.
use Rattle.std.specs.Prelude.{◌≡◌, ℕ, List, [], ◌∷◌, ◌++◌}
use Rattle.std.specs.List.{Contains}
use Rattle.mt_edge.specs.Faults.{one_more}
use Rattle.mt_edge.specs.declared.key_files.NamedFile.{NamedFile}
use Rattle.mt_edge.specs.declared.key_files.FileGot.{FileGot}
use Rattle.mt_edge.specs.declared.key_files.FileGot.TheVariants.{Contents, Failed, Memory}

-- the files that there are, and the names that were asked for, in order
pub record FilesTold : Type 0 where
  pub files : List NamedFile
  pub asked : List (List ℕ)

-- P says something of the contents, where the read gave them
abbrev pub IfContents : FileGot → (List ℕ → Type 0) → Type 0
IfContents (Contents contents) P = P contents
IfContents Failed P = Unit {0}
IfContents Memory P = Unit {0}

-- a failed read is one more fault, and no other read is a fault
abbrev pub Counts : FileGot → ℕ → ℕ → Type 0
Counts (Contents contents) before after = after ≡ before
Counts Failed before after = after ≡ one_more before
Counts Memory before after = after ≡ before

-- a read of the file of this name
pub record Asks (got : FileGot) (name : List ℕ) (before after : FilesTold) : Type 0 where
  -- what it gives is a file of this name
  pub contents : IfContents got (λ contents. Contains before.files (record { name = name; contents = contents }))
  pub files : after.files ≡ before.files
  pub asked : after.asked ≡ before.asked ++ name ∷ []
