-- What the code keeps true beside the list of replies. Scaffolding for proofs: no public contract stands on it.
use Rattle.std.specs.Prelude.{◌≡◌, ℕ, ◌+◌, ◌-◌, ◌<◌, ◌^◌, nat_lt, nat_le, ◌==◌, Bool, true, if◌then◌else◌, Option, None, option_map, List, [], ◌∷◌, length, map, find}
use Rattle.outbox.specs.declared.rows.Answered.{Answered}
use Rattle.outbox.specs.Replies.{EachOnce, Replies, by_call, bytes_of, kept_replies_max, IsWithin}

-- each of these numbers is above this one
abbrev pub IsAbove : ℕ → List ℕ → Type 0
IsAbove floor [] = Unit {0}
IsAbove floor (number ∷ numbers) = (floor < number) × IsAbove floor numbers

-- each number is above those before it
abbrev pub Rises : List ℕ → Type 0
Rises [] = Unit {0}
Rises (number ∷ numbers) = IsAbove number numbers × Rises numbers

-- how many numbers stand before the first one that is at least this one
abbrev pub place : ℕ → List ℕ → ℕ
place number [] = 0
place number (first ∷ others) = if nat_lt first number then place number others + 1 else 0

-- put before the first one whose key isn't below its own
abbrev pub inserted : {X : Type 0} → (X → ℕ) → X → List X → List X
inserted key x [] = x ∷ []
inserted key x (y ∷ ys) = if nat_lt (key y) (key x) then y ∷ inserted key x ys else x ∷ (y ∷ ys)

-- the numbers of replies, in order of making, and the calls of an index
abbrev pub numbers_of : Replies → List ℕ
numbers_of replies = map (λ kept. kept.number) replies

abbrev pub calls_of : List Answered → List ℕ
calls_of answered = map (λ one. one.call) answered

-- the number that an index has for a call
abbrev pub number_answering : ℕ → List Answered → Option ℕ
number_answering call answered = option_map (λ one. one.number) (find (λ one. one.call == call) answered)

-- the number of the first reply to a call
abbrev pub number_to : ℕ → Replies → Option ℕ
number_to call replies = option_map (λ kept. kept.number) (by_call call replies)

-- the numbers rise in order of making, as those of a server session do, each call has one reply, and the index has
-- these calls in ascending order with the numbers of their replies
pub record AreInOrder (answered : List Answered) (replies : Replies) : Type 0 where
  pub numbers : Rises (numbers_of replies)
  pub calls : Rises (calls_of answered)
  pub once : EachOnce (λ kept. kept.call) replies
  pub same : (call : ℕ) → number_answering call answered ≡ number_to call replies
  pub count : length answered ≡ length replies

-- an index of replies that aren't in order is empty
abbrev pub IsIndex : Bool → List Answered → Replies → Type 0
IsIndex true answered replies = AreInOrder answered replies
IsIndex _ answered replies = answered ≡ []

-- each of these numbers is below this one
abbrev pub IsBelow : ℕ → List ℕ → Type 0
IsBelow number [] = Unit {0}
IsBelow number (first ∷ others) = (first < number) × IsBelow number others

-- a further reply leaves the replies in order
pub record GoesOn (one : Answered) (answered : List Answered) (replies : Replies) : Type 0 where
  pub order : AreInOrder answered replies
  pub above : IsBelow one.number (numbers_of replies)
  pub new : by_call one.call replies ≡ None

-- for how many more entries there is room: no end of them where all that an outbox can have find room
abbrev pub room_in : ℕ → ℕ → ℕ
room_in capacity count = if nat_le kept_replies_max capacity then 2 ^ 64 else capacity - count

-- what is kept beside the replies is theirs
pub record Holds (replies : Replies) (answered : List Answered) (in_order : Bool) (total : ℕ) : Type 0 where
  pub within : IsWithin replies
  pub bytes : total ≡ bytes_of replies
  pub index : IsIndex in_order answered replies
