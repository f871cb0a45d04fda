-- Any service: its replies are a function of its state and of the requests.
use Rattle.std.specs.Prelude.{◌≡◌, ◌≤◌, ◌%◌, ℕ, List, [], ◌∷◌, length, map}

-- the most bytes of a reply
abbrev pub reply_bytes_max : ℕ
reply_bytes_max = 262144

-- a reply is whole words of 4 bytes (core.telegram.org/mtproto/description, "Encrypted Message")
pub record IsReply (reply : List ℕ) : Type 0 where
  pub words : length reply % 4 ≡ 0
  pub short : length reply ≤ reply_bytes_max

-- the reply to a request in a state, and the state after it
abbrev pub Step : Type 0 → Type 0
Step S = S → List ℕ → List ℕ × S

-- the state after requests one after the other
abbrev pub state_after : {S : Type 0} → Step S → S → List (List ℕ) → S
state_after step state [] = state
state_after step state (request ∷ requests) = state_after step (step state request).1 requests

-- their replies
abbrev pub replies_to : {S : Type 0} → Step S → S → List (List ℕ) → List (List ℕ)
replies_to step state [] = []
replies_to step state (request ∷ requests) = (step state request).0 ∷ replies_to step (step state request).1 requests

-- a request that ran, and the reply that it has
pub record Ran : Type 0 where
  pub request : List ℕ
  pub reply : List ℕ

abbrev pub requests_of : List Ran → List (List ℕ)
requests_of runs = map (λ ran. ran.request) runs

abbrev pub replies_of : List Ran → List (List ℕ)
replies_of runs = map (λ ran. ran.reply) runs

-- what ran has the replies that the service gives to these requests, one after the other, from this state
abbrev pub Served : {S : Type 0} → Step S → S → List Ran → Type 0
Served step fresh runs = replies_of runs ≡ replies_to step fresh (requests_of runs)
