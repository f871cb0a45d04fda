-- What the laws below promise, as lemmas take it.
use Rattle.std.proofs.Common.{◌≡◌, ◌≢◌, ℕ, List}
use Rattle.std.specs.List.{All}
use Rattle.law_moves.specs.Table as moves
use Rattle.law_moves.specs.World.{Owns, World}
use Rattle.law_moves.specs.Move.{Move}
use Rattle.law_moves.specs.Extends.{Extends, IsOfClient, LeavesCalls, LeavesClients, LeavesSubmitted}
use Rattle.law_moves.specs.Reached.{AreLawful, Reached, after_all}
use Rattle.client_rules.specs.Client.{Client}
use Rattle.law_client.specs.Clients.{StandsAs}
use Rattle.law_client.specs.Leading.{IsOfServers}

-- of moves
pub record Moving : Type 0 where
  pub reached : (w : World) (moves : List Move) → Reached w → AreLawful w moves → Reached (after_all w moves)
  pub extends : (w : World) (moves : List Move) → AreLawful w moves → Extends w (after_all w moves)
  pub owned : (w : World) (moves : List Move) (client session : ℕ) → AreLawful w moves → (w.clients client).present ≢ 0
      → Owns (w.clients client) session → Owns ((after_all w moves).clients client) session
  pub one_owner : (w : World) (one other session : ℕ) → Reached w → Owns (w.clients one) session → Owns (w.clients other) session → one ≡ other
  pub clients : (w : World) (moves : List Move) → All LeavesClients moves → (after_all w moves).clients ≡ w.clients
  pub calls : (w : World) (moves : List Move) → All LeavesCalls moves → (after_all w moves).calls ≡ w.calls
  pub submitted : (w : World) (moves : List Move) → All LeavesSubmitted moves → (after_all w moves).submitted ≡ w.submitted
  pub other_clients : (w : World) (client other : ℕ) (moves : List Move) → All (IsOfClient client) moves → other ≢ client
      → (after_all w moves).clients other ≡ w.clients other
  pub other_calls : (w : World) (client : ℕ) (call : moves.CallId) (moves : List Move) → All (IsOfClient client) moves
      → call.client ≢ client → (after_all w moves).calls call ≡ w.calls call

-- of clients that stand while others move
pub record Still : Type 0 where
  pub clients : (w : World) (mover number : ℕ) (moves : List Move) (client : Client) → Reached w → AreLawful w moves
      → All (IsOfClient mover) moves → number ≢ mover → StandsAs w number client → StandsAs (after_all w moves) number client
  pub servers : (w : World) (number : ℕ) (moves : List Move) (client : Client) → Reached w → AreLawful w moves
      → All IsOfServers moves → StandsAs w number client → StandsAs (after_all w moves) number client
