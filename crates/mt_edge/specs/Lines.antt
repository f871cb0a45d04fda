-- Lines of a reader.
use Rattle.std.specs.Prelude.{◌≡◌, ◌≢◌, ◌<◌, ℕ, List, [], ◌∷◌, ◌++◌, ◌⊎◌, length, Option, IfSome, IsSomeAnd}
use Rattle.std.specs.List.{All}
use Rattle.mt_edge.specs.declared.spawner.Line.{Line}
use Rattle.mt_edge.specs.declared.spawner.Line.TheVariants as lines
use Rattle.mt_edge.specs.declared.lines.NextLine.{NextLine}
use Rattle.mt_edge.specs.declared.lines.NextLine.TheVariants.{Text, End as NoLine, Failed as NotRead, TooLong, Memory}
use Rattle.mt_edge.specs.declared.lines.NextByte.{NextByte}
use Rattle.mt_edge.specs.declared.lines.NextByte.TheVariants.{Byte, End, Failed}

-- a read of one byte, by the bytes that were left before it and are left after it
abbrev pub HandsByte : NextByte → List ℕ → List ℕ → Type 0
HandsByte (Byte byte) before after = before ≡ byte ∷ after
HandsByte End before after = (before ≡ []) × (after ≡ [])
HandsByte Failed before after = after ≡ before

-- the next line, by the bytes that were left before it and are left after it: it goes up to the next byte 10, which goes with
-- it, or it is all that is left, and then it has a byte
pub record IsLine (line before after : List ℕ) : Type 0 where
  pub one : All (λ byte. byte ≢ 10) line
  pub next : (before ≡ line ++ 10 ∷ after) ⊎ ((line ≢ []) × (before ≡ line) × (after ≡ []))

-- no line was given, and a front of the next one, without its end, is lost
pub record Loses (before after : List ℕ) : Type 0 where
  pub lost : List ℕ
  pub one : All (λ byte. byte ≢ 10) lost
  pub front : before ≡ lost ++ after

-- no line was given, since its end wasn't among so many bytes, which are lost
pub record LosesAll (max : ℕ) (before after : List ℕ) : Type 0 where
  pub lost : List ℕ
  pub one : All (λ byte. byte ≢ 10) lost
  pub front : before ≡ lost ++ after
  pub all : length lost ≡ max

-- a read of a line of less than so many bytes, by the bytes that were left before it and are left after it: the end comes only
-- where nothing was left, and memory runs out only where something was
abbrev pub GivesLine : ℕ → NextLine → List ℕ → List ℕ → Type 0
GivesLine max (Text line) before after = IsLine line before after × (length line < max)
GivesLine max NoLine before after = (before ≡ []) × (after ≡ [])
GivesLine max NotRead before after = Loses before after
GivesLine max TooLong before after = LosesAll max before after
GivesLine max Memory before after = Loses before after × (before ≢ [])

-- a read of a line from a reader of std, by what it tells before and after
abbrev pub ReadsLine : ℕ → NextLine → Option (List ℕ) → Option (List ℕ) → Type 0
ReadsLine max line before after = IfSome before (λ left. IsSomeAnd after (λ rest. GivesLine max line left rest))

-- what a spawner answers for it
abbrev pub line_of : NextLine → Line
line_of (Text line) = lines.Text line
line_of NoLine = lines.End
line_of NotRead = lines.Failed
line_of TooLong = lines.Failed
line_of Memory = lines.Memory
