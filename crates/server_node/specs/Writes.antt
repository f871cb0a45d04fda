-- What is written over a link, by how the connection ended then, if it did.
use Rattle.std.specs.Prelude.{◌≡◌, ◌≢◌, ℕ, List, [], ◌∷◌, ◌++◌, Option, Some, None, IfSome, IsSome, IsSomeAnd, Result, Ok, Err}
use Rattle.mt_edge.specs.Faults.{one_more}
use Rattle.mt_edge.specs.Links.{Standing, Told}
use Rattle.server_core.specs.Desks.{CountsFault}
use Rattle.server_node.specs.declared.conn.ConnEnd.{ConnEnd}
use Rattle.server_node.specs.declared.conn.ConnEnd.TheVariants as ends

-- the transport error of an unknown key: -404
abbrev pub unknown_key : List ℕ
unknown_key = 0x6c ∷ 0xfe ∷ 0xff ∷ 0xff ∷ []

-- how it ended, if it did
abbrev pub end_in : {X : Type 0} → Result X ConnEnd → Option ConnEnd
end_in (Ok done) = None
end_in (Err end) = Some end

-- these bytes were written, and nothing was read
pub record Wrote (bytes : List ℕ) (before after : Told) : Type 0 where
  pub written : after.written ≡ before.written ++ bytes
  pub came : after.came ≡ before.came
  pub left : after.left ≡ before.left
  pub reads : after.reads ≡ before.reads

-- all of the first bytes was written, and a front of the last ones, short of the whole
pub record WroteFront (whole last : List ℕ) (before after : Told) : Type 0 where
  pub front : List ℕ
  pub rest : List ℕ
  pub cut : last ≡ front ++ rest
  pub some : rest ≢ []
  pub wrote : Wrote (whole ++ front) before after

-- a front of them, short of the whole, where a write failed; else all of them
abbrev pub WroteBy : Option ConnEnd → List ℕ → Told → Told → Type 0
WroteBy (Some ends.LinkFault) bytes before after = WroteFront [] bytes before after
WroteBy None bytes before after = Wrote bytes before after
WroteBy (Some ends.Ended) bytes before after = Wrote bytes before after
WroteBy (Some (ends.Frame fault)) bytes before after = Wrote bytes before after
WroteBy (Some ends.Start) bytes before after = Wrote bytes before after
WroteBy (Some ends.TurnsSpent) bytes before after = Wrote bytes before after
WroteBy (Some ends.Stopped) bytes before after = Wrote bytes before after
WroteBy (Some (ends.Journal fault)) bytes before after = Wrote bytes before after
WroteBy (Some ends.Memory) bytes before after = Wrote bytes before after

abbrev pub WrittenBy : Option ConnEnd → List ℕ → Option Told → Option Told → Type 0
WrittenBy end bytes before after = IfSome after (λ last. IsSomeAnd before (λ first. WroteBy end bytes first last))

-- the count of the link's faults: one more, or still its last value, where the connection ended by that; else the same
abbrev pub CountsBy : Option ConnEnd → ℕ → ℕ → Type 0
CountsBy (Some ends.LinkFault) before after = after ≡ one_more before
CountsBy None before after = after ≡ before
CountsBy (Some ends.Ended) before after = after ≡ before
CountsBy (Some (ends.Frame fault)) before after = after ≡ before
CountsBy (Some ends.Start) before after = after ≡ before
CountsBy (Some ends.TurnsSpent) before after = after ≡ before
CountsBy (Some ends.Stopped) before after = after ≡ before
CountsBy (Some (ends.Journal fault)) before after = after ≡ before
CountsBy (Some ends.Memory) before after = after ≡ before

-- the count of the failed calls of what the desk keeps its events on: it rose where the connection ended by one of them; else it is
-- the same
abbrev pub CountsDesk : Option ConnEnd → ℕ → ℕ → Type 0
CountsDesk (Some (ends.Journal fault)) before after = CountsFault fault before after
CountsDesk None before after = after ≡ before
CountsDesk (Some ends.LinkFault) before after = after ≡ before
CountsDesk (Some ends.Ended) before after = after ≡ before
CountsDesk (Some (ends.Frame fault)) before after = after ≡ before
CountsDesk (Some ends.Start) before after = after ≡ before
CountsDesk (Some ends.TurnsSpent) before after = after ≡ before
CountsDesk (Some ends.Stopped) before after = after ≡ before
CountsDesk (Some ends.Memory) before after = after ≡ before

-- nothing was read, and bytes may have been written
pub record OnlyWrites (before after : Told) : Type 0 where
  pub bytes : List ℕ
  pub wrote : Wrote bytes before after

-- it goes on telling where no call failed
abbrev pub GoesOn : Option ConnEnd → Option Told → Option Told → Type 0
GoesOn None before after = IsSome before → IsSome after
GoesOn (Some end) before after = Unit {0}

-- What a link is after writes: it is in its place and as open as it was, its count tells of a fault where the connection ended by that, and it goes on
-- telling unless a call failed, and through the first one that fails.
pub record Goes (end : Option ConnEnd) (standing : Standing) (faults : ℕ) (told : Option Told) (standing_then : Standing) (faults_then : ℕ) (told_then : Option Told) : Type 0 where
  pub same_standing : standing_then ≡ standing
  pub counted : CountsBy end faults faults_then
  pub writes : IfSome told_then (λ last. IsSomeAnd told (λ first. OnlyWrites first last))
  pub first_fault : IsSome told → faults ≡ 0 → IsSome told_then
  pub goes_on : GoesOn end told told_then
