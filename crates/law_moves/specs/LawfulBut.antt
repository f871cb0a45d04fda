-- The conditions of a lawful move without one of them. A condition is told by its place among the move's conditions, from 0; where a place
-- has none, nothing is left out. The messages of a packet up share their places, and so do the items of a packet down
use Rattle.std.specs.Prelude.{ℕ, ◌≡◌, ◌≢◌, ◌==◌, List, [], ◌∷◌, Some, ◌⊎◌}
use Rattle.std.specs.List.{Contains, All}
use Rattle.std.specs.Bool.{OnFalse}
use Rattle.law_moves.specs.Table.{Message, Item, ServerSession, Outcome, call_at}
use Rattle.law_moves.specs.Table.State.{Queued, Sent}
use Rattle.law_moves.specs.Table.Status.{Unmade, Standing}
use Rattle.law_moves.specs.Table.Outcome.{AcceptedCall, AcceptedOther, Noticed}
use Rattle.law_moves.specs.Table.Item.{NewSession, Result, Notice, WrongSalt}
use Rattle.law_moves.specs.World.{World, Owns, HasAccepted, WasGiven}
use Rattle.law_moves.specs.Move.{OwnAct, Part, Move}
use Rattle.law_moves.specs.Move.OwnAct.{NewClient, Renew, Submit, GiveUp, End}
use Rattle.law_moves.specs.Move.Part.{First, Again, Other, OtherAgain}
use Rattle.law_moves.specs.Move.Move.{Own, Send, Make, Draw, Judge, Forget, Answer, Speak, Hear, Lose}
use Rattle.law_moves.specs.After.{after_part}
use Rattle.law_moves.specs.Lawful.{IsMadeClient, IsNewNumber, IsNewest, WasNoCall, HasReply, BeginsNew, IsUncalled}

-- the condition at this place, unless it is the one that is left out
abbrev pub At : ℕ → ℕ → Type 0 → Type 0
At place left_out Condition = OnFalse (place == left_out) Condition

abbrev pub IsOwnLawfulBut : ℕ → World → OwnAct → Type 0
IsOwnLawfulBut left_out w (NewClient client session) =
    At 0 left_out ((w.clients client).present ≡ 0)
    × At 1 left_out (session ≢ 0)
    × At 2 left_out ((other : ℕ) → Owns (w.clients other) session → ⊥)
IsOwnLawfulBut left_out w (Renew client session) =
    At 0 left_out (IsMadeClient w client)
    × At 1 left_out (session ≢ 0)
    × At 2 left_out ((other : ℕ) → Owns (w.clients other) session → ⊥)
IsOwnLawfulBut left_out w (Submit client body) = At 0 left_out (IsMadeClient w client)
IsOwnLawfulBut left_out w (GiveUp call) = At 0 left_out ((w.calls call).state ≡ Queued)
IsOwnLawfulBut left_out w (End client) = At 0 left_out (IsMadeClient w client)

-- the state of a call at place 1, the number at place 2
abbrev pub IsPartLawfulBut : ℕ → World → ℕ → Part → Type 0
IsPartLawfulBut left_out w client (First place number) =
    At 1 left_out ((w.calls (call_at client place)).state ≡ Queued) × At 2 left_out (IsNewNumber w client number)
IsPartLawfulBut left_out w client (Again place number) =
    At 1 left_out ((w.calls (call_at client place)).state ≡ Sent) × At 2 left_out (IsNewest (w.calls (call_at client place)).names number)
IsPartLawfulBut left_out w client (Other number) = At 2 left_out (IsNewNumber w client number)
IsPartLawfulBut left_out w client (OtherAgain number) = At 2 left_out (WasNoCall w.ups (w.clients client).present number)

abbrev pub ArePartsLawfulBut : ℕ → World → ℕ → List Part → Type 0
ArePartsLawfulBut left_out w client [] = Unit {0}
ArePartsLawfulBut left_out w client (part ∷ parts) =
    IsPartLawfulBut left_out w client part × ArePartsLawfulBut left_out (after_part w client part) client parts

-- that a call is the message's own at place 4, a salt at place 5, that it isn't notice 20 at place 6
abbrev pub MayDecideBut : ℕ → ServerSession → Message → Outcome → Type 0
MayDecideBut left_out server message (AcceptedCall body) =
    At 4 left_out (message.call ≡ Some body) × At 5 left_out (Contains server.salts message.salt)
MayDecideBut left_out server message AcceptedOther = At 5 left_out (Contains server.salts message.salt)
MayDecideBut left_out server message (Noticed code) = At 6 left_out (code ≢ 20)

-- what a `new_session_created` names at places 1 and 2, a result at place 3, a notice at place 4, a wrong salt's notice and salt at places 5 and 6
abbrev pub MaySayBut : ℕ → World → ℕ → Item → Type 0
MaySayBut left_out w unique (NewSession named salt) = At 1 left_out (named ≡ unique) × At 2 left_out (Contains (w.servers unique).salts salt)
MaySayBut left_out w unique (Result number reply) =
    At 3 left_out (
    HasReply w.entries unique number reply
    ⊎ IsUncalled w (w.servers unique).session number
    )
MaySayBut left_out w unique (Notice number code) =
    At 4 left_out (
    Contains (w.servers unique).judged (record { number = number; outcome = Noticed code })
    ⊎ ((code ≡ 20) × Contains (w.servers unique).forgotten number)
    ⊎ IsUncalled w (w.servers unique).session number
    )
MaySayBut left_out w unique (WrongSalt number salt) =
    At 5 left_out (Contains (w.servers unique).judged (record { number = number; outcome = Noticed 48 }))
    × At 6 left_out (Contains (w.servers unique).salts salt)

abbrev pub IsLawfulBut : ℕ → World → Move → Type 0
IsLawfulBut left_out w (Own act) = IsOwnLawfulBut left_out w act
IsLawfulBut left_out w (Send client parts) = At 0 left_out (IsMadeClient w client) × ArePartsLawfulBut left_out w client parts
IsLawfulBut left_out w (Make unique session) =
    At 0 left_out (unique ≢ 0)
    × At 1 left_out ((w.servers unique).status ≡ Unmade)
    × At 2 left_out ((client : ℕ) × Owns (w.clients client) session)
    × At 3 left_out ((other : ℕ) → (w.servers other).session ≡ session → (w.servers other).status ≡ Standing → ⊥)
IsLawfulBut left_out w (Draw unique salt) =
    At 0 left_out ((w.servers unique).status ≡ Standing)
    × At 1 left_out (salt ≢ 0)
    × At 2 left_out ((other : ℕ) → Contains (w.servers other).salts salt → ⊥)
IsLawfulBut left_out w (Judge unique message outcome) =
    At 0 left_out ((w.servers unique).status ≡ Standing)
    × At 1 left_out (Contains w.ups message)
    × At 2 left_out (message.session ≡ (w.servers unique).session)
    × At 3 left_out (All (λ judged. judged.number ≢ message.number) (w.servers unique).judged)
    × MayDecideBut left_out (w.servers unique) message outcome
IsLawfulBut left_out w (Forget unique number) =
    At 0 left_out ((w.servers unique).status ≡ Standing) × At 1 left_out (WasGiven w.ups (w.servers unique).session number)
IsLawfulBut left_out w (Answer unique number body reply) =
    At 0 left_out ((w.servers unique).status ≡ Standing)
    × At 1 left_out (Contains (w.servers unique).judged (record { number = number; outcome = AcceptedCall body }))
    × At 2 left_out (All (λ entry. entry.server ≡ unique → entry.number ≢ number) w.entries)
IsLawfulBut left_out w (Speak unique items) =
    At 0 left_out ((w.servers unique).status ≡ Standing)
    × All (MaySayBut left_out w unique) items
    × At 7 left_out (HasAccepted (w.servers unique) ⊎ BeginsNew items)
IsLawfulBut left_out w (Hear client packet takes) =
    At 0 left_out (Contains w.downs packet) × At 1 left_out ((w.servers packet.server).session ≡ (w.clients client).present)
IsLawfulBut left_out w (Lose unique) = At 0 left_out ((w.servers unique).status ≡ Standing)

-- a place that no condition has
abbrev pub NO_PLACE : ℕ
NO_PLACE = 8
