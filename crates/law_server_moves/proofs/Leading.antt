-- Moves one after the other.
use Rattle.std.proofs.Common.{◌≡◌, ℕ, zero, suc, List, [], ◌∷◌, ◌++◌, sym, subst, arith}
use Rattle.std.specs.List.{All}
use Rattle.std.proofs.lemmas.List.Elements.{All-append}
use Rattle.law_moves.specs.World.{World}
use Rattle.law_moves.specs.Move.{Move}
use Rattle.law_moves.specs.Extends.{IsOfServer}
use Rattle.law_moves.specs.Lawful.{IsLawful}
use Rattle.law_moves.specs.After.{after}
use Rattle.law_moves.specs.Reached.{AreLawful, Reached, after_all}
use Rattle.law_client.specs.Leading.{IsOfServers}
use Rattle.law_server_moves.specs.Leading.{Leads}

-- what the law on moves promises of lists of moves
pub record GoOn : Type 0 where
  pub reached : (w : World) (moves : List Move) → Reached w → AreLawful w moves → Reached (after_all w moves)
  pub lawful : (w : World) (before moves : List Move) → AreLawful w before → AreLawful (after_all w before) moves → AreLawful w (before ++ moves)
  pub after : (w : World) (before moves : List Move) → after_all w (before ++ moves) ≡ after_all (after_all w before) moves

-- nothing is done
pub stays : (w : World) (P : World → Type 0) → P w → Leads w P
stays w P holds = record { moves = []; lawful = tt; own = λ k d below. absurd (omega arith); gives = holds }

one_own : (P : Move → Type 0) (move : Move) → P move → All P (move ∷ [])
one_own P move holds zero d below = holds
one_own P move holds (suc k) d below = absurd (omega arith)

-- one move
pub moves_once : (w : World) (P : World → Type 0) (unique : ℕ) (move : Move) → IsLawful w move → IsOfServer unique move → P (after w move) → Leads w P
moves_once w P unique move lawful own holds =
    record { moves = move ∷ []; lawful = (lawful, tt); own = one_own IsOfServers move (unique, own); gives = holds }

-- and then others
pub goes_on : GoOn → (w : World) (P Q : World → Type 0) → Reached w → Leads w P → ((later : World) → Reached later → P later → Leads later Q) → Leads w Q
goes_on on w P Q reached first next =
    let second = next (after_all w first.moves) (on.reached w first.moves reached first.lawful) first.gives in
    record {
      moves = first.moves ++ second.moves;
      lawful = on.lawful w first.moves second.moves first.lawful second.lawful;
      own = All-append IsOfServers first.moves second.moves first.own second.own;
      gives = subst Q (sym (on.after w first.moves second.moves)) second.gives;
    }

pub leads_so : (w : World) (P Q : World → Type 0) → ((later : World) → P later → Q later) → Leads w P → Leads w Q
leads_so w P Q so h = record { moves = h.moves; lawful = h.lawful; own = h.own; gives = so _ h.gives }
