-- A call that is to run after another one of its session (core.telegram.org/api/invoking, "Saving query order").
use Rattle.std.specs.Prelude.{◌≡◌, ◌==◌, ◌&&◌, ℕ, Bool, true, false, Some, List, [], ◌∷◌, ◌++◌, ⊤}
use Rattle.std.specs.Prelude.{◌⊎◌}
use Rattle.std.specs.List.{AllByRecursion, list_any}
use Rattle.service_tl.specs.declared.item.Item.{Item}
use Rattle.service_tl.specs.declared.item.Item.TheVariants.{RpcDropAnswer, InvokeAfterMsg, InvokeAfterMsgs, AuthBindTempAuthKey}
use Rattle.inbox.specs.Kinds.{item_told}
use Rattle.inbox.specs.Refusals.{Way}
use Rattle.waits.specs.declared.job.Unfinished.{Unfinished}
use Rattle.waits.specs.Jobs.{Queue, is_call}
use Rattle.server_rules.specs.Server.{Name, Reply, Session, name_of}
use Rattle.service_tl.specs.Results.{is_good}
use Rattle.server_rules.specs.Event.{Entry, Envelope}
use Rattle.server_rules.specs.Events.{Event, Packet}
use Rattle.server_rules.specs.Answer.{message_in, messages_judged, name_in}
use Rattle.law_server.specs.Order.{is_for_service}

-- two messages of a session by their numbers: a call, and the one after which it is to run
pub record Pair : Type 0 where
  pub name : Name
  pub call : ℕ
  pub earlier : ℕ

-- ---- what packets say

-- the numbers of the calls for which an item waits
abbrev pub awaited : Item → List ℕ
awaited (InvokeAfterMsg other query) = other ∷ []
awaited (InvokeAfterMsgs others query) = others
awaited _ = []

-- the number is among these
abbrev pub is_among : ℕ → List ℕ → Bool
is_among number numbers = list_any (λ other. other == number) numbers

-- It may be answered well without having run: a binding call, or a request to drop an answer.
abbrev pub is_aside : Item → Bool
is_aside (AuthBindTempAuthKey perm nonce expires message) = true
is_aside (RpcDropAnswer call) = true
is_aside _ = false

-- an item under this number: as the call it waits for the earlier one, as the earlier one it is answered well only by a run
pub record IsFor (pair : Pair) (number : ℕ) (item : Item) : Type 0 where
  pub waits : number ≡ pair.call → is_for_service item ≡ true → is_among pair.earlier (awaited item) ≡ true
  pub runs : number ≡ pair.earlier → is_aside item ≡ false

-- so are all messages that may be judged of a packet of the session
abbrev pub IsPacketFor : Pair → Envelope → Type 0
IsPacketFor pair envelope =
    name_in envelope ≡ pair.name → (way : Way) (session : Session)
    → AllByRecursion (λ message. IsFor pair message.number (item_told message.body)) (messages_judged way session (message_in envelope))

abbrev pub IsEventFor : Pair → Event → Type 0
IsEventFor pair (Packet moment (Some envelope)) = IsPacketFor pair envelope
IsEventFor pair _ = ⊤

-- ---- what ran

-- the entry is of this number in the session of this name, and ran
abbrev pub is_run : Name → ℕ → Entry → Bool
is_run name number entry = ((entry.key == name.key) && (entry.session == name.session)) && ((entry.number == number) && entry.ran)

-- and its reply begins with neither `rpc_error` nor `rpc_answer_dropped_running`
abbrev pub is_run_well : Name → ℕ → Entry → Bool
is_run_well name number entry = is_run name number entry && is_good entry.reply

-- the earlier call ran well, by these entries
abbrev pub HasRun : Pair → List Entry → Type 0
HasRun pair entries = list_any (is_run_well pair.name pair.earlier) entries ≡ true

-- an entry of the call that ran stands behind one of the earlier call that ran well
abbrev pub RanBehind : Pair → List Entry → Type 0
RanBehind pair entries =
    (before behind : List Entry) (entry : Entry) → entries ≡ before ++ entry ∷ behind → is_run pair.name pair.call entry ≡ true → HasRun pair before

-- what didn't run has a reply that isn't good
abbrev pub IsHonest : Entry → Type 0
IsHonest entry = entry.ran ≡ false → is_good entry.reply ≡ false

-- ---- what is kept

-- the call waits for the earlier one, unless that has run
abbrev pub IsWaiting : Pair → Type 0 → Unfinished → Type 0
IsWaiting pair has_run one =
    is_call pair.name.key pair.name.session pair.call one ≡ true → (is_among pair.earlier one.job.after ≡ true) ⊎ has_run

-- the earlier one has a good reply only where it has run
abbrev pub IsAnswer : Pair → Type 0 → Reply → Type 0
IsAnswer pair has_run reply = reply.call ≡ pair.earlier → is_good reply.content ≡ true → has_run

-- the sessions and jobs of a server, by all entries so far
pub record AreInTurn (pair : Pair) (sessions : List Session) (jobs : Queue) (entries : List Entry) : Type 0 where
  pub waiting : AllByRecursion (IsWaiting pair (HasRun pair entries)) jobs
  pub answers : AllByRecursion (λ session. name_of session ≡ pair.name → AllByRecursion (IsAnswer pair (HasRun pair entries)) session.replies) sessions
  pub behind : RanBehind pair entries
  pub honest : AllByRecursion IsHonest entries
