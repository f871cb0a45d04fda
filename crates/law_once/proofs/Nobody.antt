-- Who isn't there yet stays so while others move.
use Rattle.std.proofs.Common.{◌≡◌, ◌≢◌, ℕ, zero, suc, List, [], ◌∷◌, refl, ap, ◌∙◌, arith, ne_eqb}
use Rattle.std.specs.List.{All}
use Rattle.std.proofs.lemmas.List.Elements.{All-head, All-tail}
use Rattle.law_moves.specs.Table as moves
use Rattle.law_moves.specs.World.{World}
use Rattle.law_moves.specs.Move.{Move}
use Rattle.law_moves.specs.Move.OwnAct.{NewClient, Renew, Submit, GiveUp, End}
use Rattle.law_moves.specs.Move.Move.{Own, Send, Make, Draw, Judge, Forget, Answer, Speak, Hear, Lose}
use Rattle.law_moves.specs.After.{after}
use Rattle.law_moves.specs.Extends.{IsOfClient, IsOfServer, LeavesCalls, LeavesClients, LeavesSubmitted}
use Rattle.law_moves.specs.Reached.{after_all}
use Rattle.law_client.specs.Clients.{IsNobody}
use Rattle.law_client.specs.Leading.{IsOfServers}
use Rattle.law_once.proofs.Known.{Moving}

just : (P : Move → Type 0) (move : Move) → P move → All P (move ∷ [])
just P move holds zero d below = holds
just P move holds (suc k) d below = absurd (omega arith)

module _ (known : Moving) where
  -- ---- another client moves

  left : (w : World) (number : ℕ) (move : Move) → LeavesSubmitted move → (after w move).submitted number ≡ w.submitted number
  left w number move h = ap (λ (f : ℕ → ℕ). f number) (known.submitted w (move ∷ []) (just LeavesSubmitted move h))

  unsubmitted : (w : World) (mover number : ℕ) → number ≢ mover → (move : Move) → IsOfClient mover move → (after w move).submitted number ≡ w.submitted number
  unsubmitted w mover number differs (Own (NewClient other session)) its = left w number (Own (NewClient other session)) tt
  unsubmitted w mover number differs (Own (Renew other session)) its = left w number (Own (Renew other session)) tt
  unsubmitted w mover number differs (Own (Submit other body)) its = rw (ne_eqb number other (λ same. differs (same ∙ its))) refl
  unsubmitted w mover number differs (Own (GiveUp call)) its = left w number (Own (GiveUp call)) tt
  unsubmitted w mover number differs (Own (End other)) its = left w number (Own (End other)) tt
  unsubmitted w mover number differs (Send other parts) its = left w number (Send other parts) tt
  unsubmitted w mover number differs (Make unique session) its = absurd its
  unsubmitted w mover number differs (Draw unique salt) its = absurd its
  unsubmitted w mover number differs (Judge unique message outcome) its = absurd its
  unsubmitted w mover number differs (Forget unique forgotten) its = absurd its
  unsubmitted w mover number differs (Answer unique answered body reply) its = absurd its
  unsubmitted w mover number differs (Speak unique items) its = absurd its
  unsubmitted w mover number differs (Hear other packet takes) its = left w number (Hear other packet takes) tt
  unsubmitted w mover number differs (Lose unique) its = absurd its

  all_unsubmitted : (w : World) (mover number : ℕ) → number ≢ mover → (list : List Move) → All (IsOfClient mover) list → (after_all w list).submitted number ≡ w.submitted number
  all_unsubmitted w mover number differs [] its = refl
  all_unsubmitted w mover number differs (move ∷ list) its =
      all_unsubmitted (after w move) mover number differs list (All-tail (IsOfClient mover) move list its)
      ∙ unsubmitted w mover number differs move (All-head (IsOfClient mover) move list its)

  pub nobody_by_client : (w : World) (mover number : ℕ) (list : List Move) → number ≢ mover → All (IsOfClient mover) list → IsNobody w number → IsNobody (after_all w list) number
  nobody_by_client w mover number list differs its h = record {
    parts = known.other_clients w mover number list its differs ∙ h.parts;
    submitted = all_unsubmitted w mover number differs list its ∙ h.submitted;
    calls = λ place. known.other_calls w mover (moves.call_at number place) list its differs ∙ h.calls place;
  }

  -- ---- servers move

  of_server : (P : Move → Type 0) → ((unique session : ℕ) → P (Make unique session)) → ((unique salt : ℕ) → P (Draw unique salt))
      → ((unique : ℕ) (message : moves.Message) (outcome : moves.Outcome) → P (Judge unique message outcome)) → ((unique number : ℕ) → P (Forget unique number))
      → ((unique number : ℕ) (body reply : moves.Text) → P (Answer unique number body reply)) → ((unique : ℕ) (items : List moves.Item) → P (Speak unique items))
      → ((unique : ℕ) → P (Lose unique)) → (unique : ℕ) (move : Move) → IsOfServer unique move → P move
  of_server P make draw judge forget answer speak lose unique (Own act) its = absurd its
  of_server P make draw judge forget answer speak lose unique (Send client parts) its = absurd its
  of_server P make draw judge forget answer speak lose unique (Make other session) its = make other session
  of_server P make draw judge forget answer speak lose unique (Draw other salt) its = draw other salt
  of_server P make draw judge forget answer speak lose unique (Judge other message outcome) its = judge other message outcome
  of_server P make draw judge forget answer speak lose unique (Forget other number) its = forget other number
  of_server P make draw judge forget answer speak lose unique (Answer other number body reply) its = answer other number body reply
  of_server P make draw judge forget answer speak lose unique (Speak other items) its = speak other items
  of_server P make draw judge forget answer speak lose unique (Hear client packet takes) its = absurd its
  of_server P make draw judge forget answer speak lose unique (Lose other) its = lose other

  each_so : (P : Move → Type 0) → ((move : Move) → IsOfServers move → P move) → (list : List Move) → All IsOfServers list → All P list
  each_so P so list its k d below = so _ (its k d below)

  leaves_clients : (move : Move) → IsOfServers move → LeavesClients move
  leaves_clients move of = of_server LeavesClients (λ _ _. tt) (λ _ _. tt) (λ _ _ _. tt) (λ _ _. tt) (λ _ _ _ _. tt) (λ _ _. tt) (λ _. tt) of.0 move of.1

  leaves_calls : (move : Move) → IsOfServers move → LeavesCalls move
  leaves_calls move of = of_server LeavesCalls (λ _ _. tt) (λ _ _. tt) (λ _ _ _. tt) (λ _ _. tt) (λ _ _ _ _. tt) (λ _ _. tt) (λ _. tt) of.0 move of.1

  leaves_submitted : (move : Move) → IsOfServers move → LeavesSubmitted move
  leaves_submitted move of = of_server LeavesSubmitted (λ _ _. tt) (λ _ _. tt) (λ _ _ _. tt) (λ _ _. tt) (λ _ _ _ _. tt) (λ _ _. tt) (λ _. tt) of.0 move of.1

  pub nobody_by_servers : (w : World) (number : ℕ) (list : List Move) → All IsOfServers list → IsNobody w number → IsNobody (after_all w list) number
  nobody_by_servers w number list its h = record {
    parts = ap (λ (f : ℕ → moves.Client). f number) (known.clients w list (each_so LeavesClients leaves_clients list its)) ∙ h.parts;
    submitted = ap (λ (f : ℕ → ℕ). f number) (known.submitted w list (each_so LeavesSubmitted leaves_submitted list its)) ∙ h.submitted;
    calls = λ place. ap (λ (f : moves.CallId → moves.Call). f (moves.call_at number place)) (known.calls w list (each_so LeavesCalls leaves_calls list its)) ∙ h.calls place;
  }
