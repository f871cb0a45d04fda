-- The worlds that lists of lawful moves lead to.
use Rattle.std.specs.Prelude.{◌≡◌, List, [], ◌∷◌}
use Rattle.law_moves.specs.World.{World, start}
use Rattle.law_moves.specs.Move.{Move}
use Rattle.law_moves.specs.Lawful.{IsLawful}
use Rattle.law_moves.specs.After.{after}

abbrev pub after_all : World → List Move → World
after_all w [] = w
after_all w (move ∷ moves) = after_all (after w move) moves

-- each move is lawful in its turn
abbrev pub AreLawful : World → List Move → Type 0
AreLawful w [] = Unit {0}
AreLawful w (move ∷ moves) = IsLawful w move × AreLawful (after w move) moves

-- some list of lawful moves leads here from the empty world
abbrev pub Reached : World → Type 0
Reached w = (moves : List Move) × AreLawful start moves × (after_all start moves ≡ w)
