-- All that a sender gives: numbers rise, seqs never fall, numbers are multiples of 4.
use Rattle.std.proofs.Common.{ℕ, ◌*◌, ◌<◌, ◌≤◌, Bool, true, false, cond, List, [], ◌∷◌, arith}
use Rattle.std.specs.Prelude.{All, AllPairs}
use Rattle.std.proofs.lemmas.List.Elements.{All-cons, All-nil}
use Rattle.std.proofs.lemmas.List.Kept.{AllPairs-cons}
use Rattle.msg_ids.specs.Counters.{Counters, next_number, seq_of, after_next}
use Rattle.msg_ids.specs.Run.{Asking, Given, IsBefore, IsFourfold, has_next, given}

-- a message that is given from these counters on: above the last number, and its seq no less than those before
abbrev pub IsAfter : Counters → Given → Type 0
IsAfter counters message =
    (counters.last < message.number) × (2 * counters.content_messages ≤ message.seq)

-- the message that is given at an asking
abbrev pub given_at : Counters → Asking → Given
given_at counters asking = record {
  number = next_number counters.last asking.now;
  seq = seq_of counters.content_messages asking.content;
}

pub IsAfter-given_at : (counters : Counters) (asking : Asking) → IsAfter counters (given_at counters asking)
IsAfter-given_at counters asking = (omega arith, omega arith)

-- what is after the counters of a message is after the counters before it, and after the message
pub IsAfter-later : (counters : Counters) (now : ℕ) (content : Bool) (message : Given)
    → IsAfter (after_next counters now content) message → IsAfter counters message
IsAfter-later counters now true message later = (omega arith, omega arith)
IsAfter-later counters now false message later = (omega arith, omega arith)

pub IsBefore-later : (counters : Counters) (now : ℕ) (content : Bool) (message : Given)
    → IsAfter (after_next counters now content) message
    → IsBefore (given_at counters record { now = now; content = content }) message
IsBefore-later counters now true message later = (omega arith, omega arith)
IsBefore-later counters now false message later = (omega arith, omega arith)

-- a fact about either list is one about the list that a test chooses
All-cond : (P : Given → Type 0) (b : Bool) (xs ys : List Given) → All P xs → All P ys → All P (cond b xs ys)
All-cond P true xs ys one other = one
All-cond P false xs ys one other = other

AllPairs-cond : (b : Bool) (xs ys : List Given) → AllPairs IsBefore xs → AllPairs IsBefore ys
    → AllPairs IsBefore (cond b xs ys)
AllPairs-cond true xs ys one other = one
AllPairs-cond false xs ys one other = other

-- each message that is given is after the counters
pub All-IsAfter : (counters : Counters) (askings : List Asking) → All (IsAfter counters) (given counters askings)
All-IsAfter counters [] = All-nil _
All-IsAfter counters (asking ∷ askings) =
    let next = after_next counters asking.now asking.content in
    All-cond (IsAfter counters) (has_next counters asking.now) _ _
    (All-cons (IsAfter counters) (given_at counters asking) _ (IsAfter-given_at counters asking)
    (λ k d inside. IsAfter-later counters asking.now asking.content _ (All-IsAfter next askings k d inside)))
    (All-IsAfter counters askings)

-- each message is before the later ones
pub AllPairs-IsBefore : (counters : Counters) (askings : List Asking) → AllPairs IsBefore (given counters askings)
AllPairs-IsBefore counters [] = λ i j d below inside. absurd (omega arith)
AllPairs-IsBefore counters (asking ∷ askings) =
    let next = after_next counters asking.now asking.content in
    AllPairs-cond (has_next counters asking.now) _ _
    (AllPairs-cons IsBefore (given_at counters asking) _
    (λ k d inside. IsBefore-later counters asking.now asking.content _ (All-IsAfter next askings k d inside))
    (AllPairs-IsBefore next askings))
    (AllPairs-IsBefore counters askings)

-- a number is a multiple of 4 where the last one is
pub IsFourfold-next_number : (last now : ℕ) → IsFourfold last → IsFourfold (next_number last now)
IsFourfold-next_number last now fourfold = omega arith

-- each number that is given is a multiple of 4 where the last one is
pub All-IsFourfold : (counters : Counters) (askings : List Asking) → IsFourfold counters.last
    → All (λ message. IsFourfold message.number) (given counters askings)
All-IsFourfold counters [] fourfold = All-nil _
All-IsFourfold counters (asking ∷ askings) fourfold =
    let next = after_next counters asking.now asking.content in
    let here = IsFourfold-next_number counters.last asking.now fourfold in
    All-cond (λ message. IsFourfold message.number) (has_next counters asking.now) _ _
    (All-cons (λ message. IsFourfold message.number) (given_at counters asking) _ here (All-IsFourfold next askings here))
    (All-IsFourfold counters askings fourfold)
