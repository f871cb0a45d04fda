-- The reads of a whole text.
use Rattle.std.specs.Prelude.{◌≡◌, List, [], ◌∷◌, ◌++◌, ⊤, Result, Ok, Err}
use Rattle.std.specs.List.{All}
use Rattle.mt_edge.specs.declared.source.Got.{Got}
use Rattle.mt_edge.specs.declared.source.Got.TheVariants.{Bytes, End, Failed}
use Rattle.mt_edge.specs.declared.whole.ReadFault.{ReadFault}
use Rattle.mt_edge.specs.declared.whole.ReadFault.TheVariants as faults

-- the read gave bytes
abbrev pub IsPiece : Got → Type 0
IsPiece (Bytes n) = ⊤
IsPiece End = ⊥
IsPiece Failed = ⊥

-- the last read of a text, by what came of reading it: the end where it was read whole, and a read that failed where one did
abbrev pub IsLast : {T : Type 0} → Result T ReadFault → Got → Type 0
IsLast (Ok text) got = got ≡ End
IsLast (Err faults.Failed) got = got ≡ Failed
IsLast (Err faults.TooLong) got = IsPiece got
IsLast (Err faults.Memory) got = IsPiece got

-- the reads of a text, by the answers of those before it and of all behind it
pub record ReadBy {T : Type 0} (result : Result T ReadFault) (before after : List Got) : Type 0 where
  pub pieces : List Got
  pub last : Got
  pub noted : after ≡ before ++ pieces ++ last ∷ []
  pub all_pieces : All IsPiece pieces
  pub is_last : IsLast result last
