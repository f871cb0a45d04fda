-- Which moves are lawful in a world.
use Rattle.std.specs.Prelude.{ℕ, ◌≡◌, ◌≢◌, ◌<◌, List, [], ◌∷◌, Some, None, ◌⊎◌}
use Rattle.std.specs.List.{Contains, All}
use Rattle.law_moves.specs.Table.{Text, Name, Message, Item, ServerSession, Entry, Outcome, call_at}
use Rattle.law_moves.specs.Table.State.{Queued, Sent}
use Rattle.law_moves.specs.Table.Status.{Unmade, Standing}
use Rattle.law_moves.specs.Table.Outcome.{AcceptedCall, AcceptedOther, Noticed}
use Rattle.law_moves.specs.Table.Item.{NewSession, Result, Notice, WrongSalt}
use Rattle.law_moves.specs.World.{World, Owns, HasAccepted, WasGiven, IsName}
use Rattle.law_moves.specs.Move.{OwnAct, Part, Move}
use Rattle.law_moves.specs.Move.OwnAct.{NewClient, Renew, Submit, GiveUp, End}
use Rattle.law_moves.specs.Move.Part.{First, Again, Other, OtherAgain}
use Rattle.law_moves.specs.Move.Move.{Own, Send, Make, Draw, Judge, Forget, Answer, Speak, Hear, Lose}
use Rattle.law_moves.specs.After.{after_part}

-- no client has or had this session number
abbrev pub IsNewSession : World → ℕ → Type 0
IsNewSession w session = (session ≢ 0) × ((client : ℕ) → Owns (w.clients client) session → ⊥)

abbrev pub IsMadeClient : World → ℕ → Type 0
IsMadeClient w client = (w.clients client).present ≢ 0

abbrev pub IsOwnLawful : World → OwnAct → Type 0
IsOwnLawful w (NewClient client session) = ((w.clients client).present ≡ 0) × IsNewSession w session
IsOwnLawful w (Renew client session) = IsMadeClient w client × IsNewSession w session
IsOwnLawful w (Submit client body) = IsMadeClient w client
IsOwnLawful w (GiveUp call) = (w.calls call).state ≡ Queued
IsOwnLawful w (End client) = IsMadeClient w client

-- the message's number is below this one, if it is of this session number
abbrev pub IsBelow : ℕ → ℕ → Message → Type 0
IsBelow session number message = message.session ≡ session → message.number < number

-- the number is above all that the client gave under its present session number
abbrev pub IsNewNumber : World → ℕ → ℕ → Type 0
IsNewNumber w client number = All (IsBelow (w.clients client).present number) w.ups

-- the number was given under this session number to a message that is no call
abbrev pub WasNoCall : List Message → ℕ → ℕ → Type 0
WasNoCall ups session number =
    (message : Message)
    × Contains ups message
    × (message.session ≡ session)
    × (message.number ≡ number)
    × (message.call ≡ None)

-- the newest of these names has this number
abbrev pub IsNewest : List Name → ℕ → Type 0
IsNewest [] number = ⊥
IsNewest (name ∷ older) number = name.number ≡ number

abbrev pub IsPartLawful : World → ℕ → Part → Type 0
IsPartLawful w client (First place number) = ((w.calls (call_at client place)).state ≡ Queued) × IsNewNumber w client number
IsPartLawful w client (Again place number) =
    ((w.calls (call_at client place)).state ≡ Sent) × IsNewest (w.calls (call_at client place)).names number
IsPartLawful w client (Other number) = IsNewNumber w client number
IsPartLawful w client (OtherAgain number) = WasNoCall w.ups (w.clients client).present number

-- each message of the packet in its turn
abbrev pub ArePartsLawful : World → ℕ → List Part → Type 0
ArePartsLawful w client [] = Unit {0}
ArePartsLawful w client (part ∷ parts) = IsPartLawful w client part × ArePartsLawful (after_part w client part) client parts

-- The session may have this outcome for the message: it accepts only under a salt of its own, and what it accepts as a call is the call. Notice 20
-- is for forgotten numbers, and is never an outcome
abbrev pub MayDecide : ServerSession → Message → Outcome → Type 0
MayDecide server message (AcceptedCall body) = (message.call ≡ Some body) × Contains server.salts message.salt
MayDecide server message AcceptedOther = Contains server.salts message.salt
MayDecide server message (Noticed code) = code ≢ 20

-- there is such an entry
abbrev pub HasReply : List Entry → ℕ → ℕ → Text → Type 0
HasReply entries unique number reply =
    (entry : Entry) × Contains entries entry × (entry.server ≡ unique) × (entry.number ≡ number) × (entry.reply ≡ reply)

-- the number was given under this session number, and to no call
abbrev pub IsUncalled : World → ℕ → ℕ → Type 0
IsUncalled w session number = WasGiven w.ups session number × (IsName w.calls session number → ⊥)

-- A server session may say this: the salts and unique number that it names are its own, a notice is its outcome, or is 20 for a number that it
-- forgot, or is for a number that was given to no call, and a result is the reply of its entry, or is for such a number
abbrev pub MaySay : World → ℕ → Item → Type 0
MaySay w unique (NewSession named salt) = (named ≡ unique) × Contains (w.servers unique).salts salt
MaySay w unique (Result number reply) =
    HasReply w.entries unique number reply
    ⊎ IsUncalled w (w.servers unique).session number
MaySay w unique (Notice number code) =
    Contains (w.servers unique).judged (record { number = number; outcome = Noticed code })
    ⊎ ((code ≡ 20) × Contains (w.servers unique).forgotten number)
    ⊎ IsUncalled w (w.servers unique).session number
MaySay w unique (WrongSalt number salt) =
    Contains (w.servers unique).judged (record { number = number; outcome = Noticed 48 }) × Contains (w.servers unique).salts salt

-- the items begin with a `new_session_created`
abbrev pub BeginsNew : List Item → Type 0
BeginsNew [] = ⊥
BeginsNew (NewSession named salt ∷ items) = Unit {0}
BeginsNew (Result number reply ∷ items) = ⊥
BeginsNew (Notice number code ∷ items) = ⊥
BeginsNew (WrongSalt number salt ∷ items) = ⊥

abbrev pub IsLawful : World → Move → Type 0
IsLawful w (Own act) = IsOwnLawful w act
-- each new number is above all before it; a call in the packet was queued and gets a new number, or was sent and keeps its number; what is
-- no call gets a new number, or keeps its number
IsLawful w (Send client parts) = IsMadeClient w client × ArePartsLawful w client parts
-- under a session number of some client, where none stands under it
IsLawful w (Make unique session) =
    (unique ≢ 0)
    × ((w.servers unique).status ≡ Unmade)
    × ((client : ℕ) × Owns (w.clients client) session)
    × ((other : ℕ) → (w.servers other).session ≡ session → (w.servers other).status ≡ Standing → ⊥)
-- a salt that isn't 0 and that no server session has, so no packet has it either
IsLawful w (Draw unique salt) =
    ((w.servers unique).status ≡ Standing)
    × (salt ≢ 0)
    × ((other : ℕ) → Contains (w.servers other).salts salt → ⊥)
-- a message under its session number that has no outcome there
IsLawful w (Judge unique message outcome) =
    ((w.servers unique).status ≡ Standing)
    × Contains w.ups message
    × (message.session ≡ (w.servers unique).session)
    × All (λ judged. judged.number ≢ message.number) (w.servers unique).judged
    × MayDecide (w.servers unique) message outcome
-- a number that isn't above all that were given under its session number
IsLawful w (Forget unique number) =
    ((w.servers unique).status ≡ Standing) × WasGiven w.ups (w.servers unique).session number
-- the one entry of a call that it accepted
IsLawful w (Answer unique number body reply) =
    ((w.servers unique).status ≡ Standing)
    × Contains (w.servers unique).judged (record { number = number; outcome = AcceptedCall body })
    × All (λ entry. entry.server ≡ unique → entry.number ≢ number) w.entries
-- what it may say; while it has accepted nothing, its `new_session_created` first
IsLawful w (Speak unique items) =
    ((w.servers unique).status ≡ Standing)
    × All (MaySay w unique) items
    × (HasAccepted (w.servers unique) ⊎ BeginsNew items)
-- a packet that was made under its present session number
IsLawful w (Hear client packet takes) =
    Contains w.downs packet × ((w.servers packet.server).session ≡ (w.clients client).present)
IsLawful w (Lose unique) = (w.servers unique).status ≡ Standing
