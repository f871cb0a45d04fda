-- The newest name of a call is none of the older ones.
use Rattle.std.proofs.Common.{◌≡◌, ◌∷◌, List, subst}
use Rattle.std.specs.List.{Contains}
use Rattle.law_moves.specs.Table.{Name}
use Rattle.law_moves.proofs.Kept.{AreApart, IsSameName}

pub never_again : (name same : Name) (older names : List Name) → names ≡ name ∷ older → AreApart names → Contains older same → IsSameName name same → ⊥
never_again name same older names is apart among alike = (subst AreApart is apart).0 same among alike
