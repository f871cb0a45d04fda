-- What is written over a link.
use Rattle.std.specs.Prelude.{◌≡◌, ◌≢◌, ℕ, List, [], ◌++◌, Option, IfSome, IsSomeAnd, Result, Ok, Err, ⊤}
use Rattle.mt_edge.specs.Links.{Told}
use Rattle.mt_edge.specs.Faults.{one_more}
use Rattle.client_node.specs.declared.end.End.{End}
use Rattle.client_node.specs.declared.end.End.TheVariants.{Decided, Lost, TurnsSpent, Spent, Memory}

-- these bytes were written, and nothing was read
pub record Wrote (bytes : List ℕ) (before after : Told) : Type 0 where
  pub written : after.written ≡ before.written ++ bytes
  pub came : after.came ≡ before.came
  pub left : after.left ≡ before.left
  pub reads : after.reads ≡ before.reads

-- all of the first bytes was written, and a front of the last ones, short of the whole
pub record WroteFront (whole last : List ℕ) (before after : Told) : Type 0 where
  pub front : List ℕ
  pub rest : List ℕ
  pub cut : last ≡ front ++ rest
  pub some : rest ≢ []
  pub wrote : Wrote (whole ++ front) before after

-- what a link tells, where it does, and its count of faults
pub record Seen : Type 0 where
  pub told : Option Told
  pub faults : ℕ

abbrev pub seen : Option Told → ℕ → Seen
seen told faults = record { told = told; faults = faults }

-- these bytes were written, and no call failed
pub record Writes (bytes : List ℕ) (before after : Seen) : Type 0 where
  pub told : IfSome after.told (λ last. IsSomeAnd before.told (λ first. Wrote bytes first last))
  pub faults : after.faults ≡ before.faults

-- all of the first bytes was written, a front of the last ones, and then a write failed
pub record Breaks (whole last : List ℕ) (before after : Seen) : Type 0 where
  pub told : IfSome after.told (λ ended. IsSomeAnd before.told (λ first. WroteFront whole last first ended))
  pub faults : after.faults ≡ one_more before.faults

-- by how it ended: all of them; a front of them, short of the whole, where a write failed; nothing, where memory ran out before
abbrev pub WroteBy : {X : Type 0} → Result X End → List ℕ → Told → Told → Type 0
WroteBy (Ok done) bytes before after = Wrote bytes before after
WroteBy (Err Lost) bytes before after = WroteFront [] bytes before after
WroteBy (Err Memory) bytes before after = after ≡ before
WroteBy (Err Decided) bytes before after = ⊥
WroteBy (Err TurnsSpent) bytes before after = ⊥
WroteBy (Err Spent) bytes before after = ⊥

-- the count of the link's faults: a write failed exactly where the connection is lost
abbrev pub CountsBy : {X : Type 0} → Result X End → ℕ → ℕ → Type 0
CountsBy (Ok done) before after = after ≡ before
CountsBy (Err Lost) before after = after ≡ one_more before
CountsBy (Err Memory) before after = after ≡ before
CountsBy (Err Decided) before after = ⊥
CountsBy (Err TurnsSpent) before after = ⊥
CountsBy (Err Spent) before after = ⊥

-- what went out before tells of a packet more, unless memory ran out
abbrev pub TellsMore : {X : Type 0} → Result X End → Type 0 → Type 0
TellsMore (Err Memory) more = ⊤
TellsMore (Ok done) more = more
TellsMore (Err Lost) more = more
TellsMore (Err Decided) more = more
TellsMore (Err TurnsSpent) more = more
TellsMore (Err Spent) more = more

-- where memory ran out, this stays the same
abbrev pub StaysBy : {X : Type 0} → Result X End → Type 0 → Type 0
StaysBy (Err Memory) same = same
StaysBy (Ok done) same = ⊤
StaysBy (Err Lost) same = ⊤
StaysBy (Err Decided) same = ⊤
StaysBy (Err TurnsSpent) same = ⊤
StaysBy (Err Spent) same = ⊤
