-- The numbers that clients give to messages (Mobile Protocol: Detailed Description, Message Identifier).
use Rattle.std.specs.Prelude.{ℕ, ◌≡◌, ◌<◌, List, [], ◌∷◌, ◌++◌}
use Rattle.law_moves.specs.World.{World}
use Rattle.law_moves.specs.Move.{Part, Move}
use Rattle.law_moves.specs.Move.Part.{First, Again, Other, OtherAgain}
use Rattle.law_moves.specs.Move.Move.{Send}
use Rattle.law_moves.specs.After.{after}

-- a number, and the session number that it was given under
pub record Given : Type 0 where
  pub session : ℕ
  pub number : ℕ

-- the new numbers of a packet up
abbrev pub numbers_of : ℕ → List Part → List Given
numbers_of session [] = []
numbers_of session (First place number ∷ parts) = record { session = session; number = number } ∷ numbers_of session parts
numbers_of session (Again place number ∷ parts) = numbers_of session parts
numbers_of session (Other number ∷ parts) = record { session = session; number = number } ∷ numbers_of session parts
numbers_of session (OtherAgain number ∷ parts) = numbers_of session parts

-- the new numbers of a list of moves, in order
abbrev pub given : World → List Move → List Given
given w [] = []
given w (Send client parts ∷ moves) = numbers_of (w.clients client).present parts ++ given (after w (Send client parts)) moves
given w (move ∷ moves) = given (after w move) moves

-- the later number is above the earlier one, where both were given under one session number
abbrev pub Rises : Given → Given → Type 0
Rises one later = one.session ≡ later.session → one.number < later.number
