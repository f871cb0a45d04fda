-- Lawful runs like real ones, which show that the law has something to say.
use Rattle.std.specs.Prelude.{ℕ, ◌^◌, Bool, true, false, List, [], ◌∷◌, Some, None}
use Rattle.law_moves.specs.Table.{Text, Message, Item, Judged, Entry, call_at}
use Rattle.law_moves.specs.Table.Item.{NewSession, Result, Notice, WrongSalt}
use Rattle.law_moves.specs.Table.Outcome.{AcceptedCall, AcceptedOther, Noticed}
use Rattle.law_moves.specs.Move.{Move}
use Rattle.law_moves.specs.Move.OwnAct.{NewClient, Renew, Submit, GiveUp, End}
use Rattle.law_moves.specs.Move.Part.{First, Other, OtherAgain}
use Rattle.law_moves.specs.Move.Move.{Own, Send, Make, Draw, Judge, Forget, Answer, Speak, Hear, Lose}

-- what a call asks, and what it is answered
abbrev pub question : Text
question = 7 ∷ []

abbrev pub reply : Text
reply = 9 ∷ []

-- an execution of the question
abbrev pub entry_of : ℕ → ℕ → Entry
entry_of unique number = record { server = unique; number = number; request = question; reply = reply }

-- a packet of one server session, made, and heard by a client
abbrev pub told_to : ℕ → ℕ → List Item → List Bool → List Move → List Move
told_to client unique items takes rest = Speak unique items ∷ Hear client (record { server = unique; items = items }) takes ∷ rest

abbrev pub told : ℕ → List Item → List Bool → List Move → List Move
told = told_to 0

-- client 0 with session number 1 submits a call and hears of server session 11, whose salt is 21
abbrev pub opened : List Move → List Move
opened rest = Own (NewClient 0 1) ∷ Own (Submit 0 question) ∷ Make 11 1 ∷ Draw 11 21 ∷ told 11 (NewSession 11 21 ∷ []) [] rest

-- the message of the call, and one that is no call
abbrev pub asked : ℕ → ℕ → Message
asked salt number = record { session = 1; salt = salt; number = number; call = Some question; known = 11 ∷ [] }

abbrev pub no_call_of : ℕ → ℕ → Message
no_call_of salt number = record { session = 1; salt = salt; number = number; call = None; known = 11 ∷ [] }

-- the call is refused under number 4, since its salt is no longer good, gets number 8 and a new salt, runs and is done
abbrev pub resent : List Move
resent =
    opened (
    Send 0 (First 0 4 ∷ [])
    ∷ Judge 11 (asked 21 4) (Noticed 48)
    ∷ Draw 11 22
    ∷ told 11 (NewSession 11 22 ∷ WrongSalt 4 22 ∷ []) (false ∷ true ∷ []) (
    Send 0 (First 0 8 ∷ [])
    ∷ Judge 11 (asked 22 8) (AcceptedCall question)
    ∷ Answer 11 8 question reply
    ∷ told 11 (Result 8 reply ∷ []) [] []
    )
    )

-- what the server session decided on the call's first message
abbrev pub refusal : Judged
refusal = record { number = 4; outcome = Noticed 48 }

-- the call is sent under number 4, and runs
abbrev pub ran : List Move → List Move
ran rest = Send 0 (First 0 4 ∷ []) ∷ Judge 11 (asked 21 4) (AcceptedCall question) ∷ Answer 11 4 question reply ∷ rest

-- the server session is lost, and another one is made under its session number
abbrev pub replaced : List Move → List Move
replaced rest = Lose 11 ∷ Make 12 1 ∷ rest

-- the call runs, its server session is lost before the answer is heard, and the client hears of another one
abbrev pub lost : List Move
lost = opened (ran (replaced (Draw 12 22 ∷ told 12 (NewSession 12 22 ∷ []) [] [])))

-- A start under salt 0, in a container of number 8: the packet makes the server session, which refuses its messages. The client hears of that and
-- of the server session's birth; the call is queued again, sent, executed and heard
abbrev pub first_contact : List Move
first_contact =
    Own (NewClient 0 1)
    ∷ Own (Submit 0 question)
    ∷ Send 0 (First 0 4 ∷ Other 8 ∷ [])
    ∷ Make 11 1
    ∷ Draw 11 21
    ∷ Judge 11 (record { session = 1; salt = 0; number = 8; call = None; known = [] }) (Noticed 48)
    ∷ told 11 (NewSession 11 21 ∷ WrongSalt 8 21 ∷ []) (false ∷ true ∷ []) (
    Send 0 (First 0 12 ∷ [])
    ∷ Judge 11 (asked 21 12) (AcceptedCall question)
    ∷ Answer 11 12 question reply
    ∷ told 11 (Result 12 reply ∷ []) [] []
    )

-- two clients give the same number to their calls, each under its own session number, and each call runs at its own server session
abbrev pub two_clients : List Move
two_clients =
    opened (
    Own (NewClient 1 2)
    ∷ Own (Submit 1 question)
    ∷ Make 12 2
    ∷ Draw 12 22
    ∷ told_to 1 12 (NewSession 12 22 ∷ []) [] (
    Send 1 (First 0 4 ∷ [])
    ∷ ran (
    Judge 12 (record { session = 2; salt = 22; number = 4; call = Some question; known = 12 ∷ [] }) (AcceptedCall question)
    ∷ Answer 12 4 question reply
    ∷ told 11 (Result 4 reply ∷ []) [] (told_to 1 12 (Result 4 reply ∷ []) [] [])
    )
    )
    )

-- the call's number is refused as too high, so the call is held
abbrev pub too_high : List Move → List Move
too_high rest =
    opened (
    Send 0 (First 0 (2 ^ 40) ∷ [])
    ∷ Judge 11 (asked 21 (2 ^ 40)) (Noticed 17)
    ∷ told 11 (NewSession 11 21 ∷ Notice (2 ^ 40) 17 ∷ []) [] rest
    )

abbrev pub held_at_first : List Move
held_at_first = too_high []

-- then the client renews, and the call runs under the new session number
abbrev pub held : List Move
held =
    too_high (
    Own (Renew 0 2)
    ∷ Make 12 2
    ∷ Draw 12 22
    ∷ told 12 (NewSession 12 22 ∷ []) [] (
    Send 0 (First 0 4 ∷ [])
    ∷ Judge 12 (record { session = 2; salt = 22; number = 4; call = Some question; known = 12 ∷ [] }) (AcceptedCall question)
    ∷ Answer 12 4 question reply
    ∷ told 12 (Result 4 reply ∷ []) [] []
    )
    )

-- the client ends while its first call is sent and its second is queued
abbrev pub ended : List Move
ended = opened (ran (Own (Submit 0 question) ∷ Own (End 0) ∷ []))

-- a queued call is given up
abbrev pub given_up : List Move
given_up = opened (Own (GiveUp (call_at 0 0)) ∷ [])

-- the server session forgets the call's number before it judges it
abbrev pub forgotten : List Move
forgotten =
    opened (Send 0 (First 0 4 ∷ []) ∷ Forget 11 4 ∷ told 11 (NewSession 11 21 ∷ Notice 4 20 ∷ []) [] [])

-- a message that is no call is sent again under its number and a new salt, and accepted
abbrev pub sent_again : List Move
sent_again =
    opened (
    Send 0 (Other 4 ∷ [])
    ∷ Judge 11 (no_call_of 21 4) AcceptedOther
    ∷ Lose 11
    ∷ Make 12 1
    ∷ Draw 12 22
    ∷ told 12 (NewSession 12 22 ∷ []) [] (
    Send 0 (OtherAgain 4 ∷ [])
    ∷ Judge 12 (record { session = 1; salt = 22; number = 4; call = None; known = 12 ∷ 11 ∷ [] }) AcceptedOther
    ∷ []
    )
    )
