-- What the steps of calls come to. This is scaffolding: no public clause cites it.
use Rattle.std.specs.Prelude.{◌≡◌, ℕ, ◌≤◌, ◌%◌, List, [], ◌∷◌, ◌++◌, ◌⊎◌, length, take, drop, ⊤}
use Rattle.std.specs.Int.{w32, w64, to_le_bytes}
use Rattle.std.specs.List.{All}
use Rattle.mt_edge.specs.declared.act.Act.{Act}
use Rattle.mt_edge.specs.declared.act.Act.TheVariants.{Ready}
use Rattle.disks.specs.Crash.{Standing}
use Rattle.disks.specs.Told.{DiskTold, now}
use Rattle.sess_records.specs.declared.heads.Head.{Head}
use Rattle.sess_records.specs.declared.header.Front.{Front}
use Rattle.sess_records.specs.declared.records.Record.{Record}
use Rattle.sess_records.specs.declared.records.Event.{Event}
use Rattle.sess_records.specs.declared.records.Event.TheVariants.{Packet, Tick, Attach, Begin, Ran, Interrupted}
use Rattle.sess_records.specs.declared.fault.JournalFault.{JournalFault}
use Rattle.sess_records.specs.Format.{IsEvent, Reached, closed_gate, header_bytes, kind_of, magic, open_gate, rest_of, spelt}
use Rattle.sess_records.specs.Crashes.{Leaves}
use Rattle.sess_records.specs.Standing.{IsSure}
use Rattle.sess_records.specs.Calls.{IfNotJournal}

-- ---- events

-- the numbers of an event, as the first of 16 bytes
abbrev pub AreNumbers : Event (List ℕ) → List ℕ → Type 0
AreNumbers (Packet packet) numbers = ⊤
AreNumbers Tick numbers = ⊤
AreNumbers (Attach key session) numbers = numbers ≡ to_le_bytes w64 key ++ to_le_bytes w64 session
AreNumbers (Begin job) numbers = take 8 numbers ≡ to_le_bytes w64 job
AreNumbers (Ran reply) numbers = ⊤
AreNumbers Interrupted numbers = ⊤

-- no event has this kind and this rest
abbrev pub IsNoEvent : ℕ → List ℕ → Type 0
IsNoEvent kind rest = (event : Event (List ℕ)) → IsEvent event → kind ≡ kind_of event → rest ≡ rest_of event → ⊥

-- no event has this kind and a rest of so many bytes
abbrev pub HasNoEvent : ℕ → ℕ → Type 0
HasNoEvent kind count = (rest : List ℕ) → length rest ≡ count → IsNoEvent kind rest

-- an event of this kind may have a rest of so many bytes
pub record MayHave (kind count : ℕ) : Type 0 where
  pub known : (1 ≤ kind) × (kind ≤ 6)
  pub tick : kind ≡ 2 → count ≡ 0
  pub attach : kind ≡ 3 → count ≡ 16
  pub begin : kind ≡ 4 → count ≡ 8
  pub short : kind ≡ 5 → count ≤ 262144
  pub words : kind ≡ 5 → count % 4 ≡ 0
  pub interrupted : kind ≡ 6 → count ≡ 0

-- the event of this kind and this rest
abbrev pub IsOf : ℕ → List ℕ → Event (List ℕ) → Type 0
IsOf kind rest event = IsEvent event × (kind_of event ≡ kind) × (rest_of event ≡ rest)

-- ---- the front of a record

-- a length field, a kind, a moment and a place
unfoldable pub head_bytes : Head → List ℕ
head_bytes head = to_le_bytes w32 head.size ++ (head.kind ∷ (to_le_bytes w64 head.moment ++ to_le_bytes w64 head.place))

-- a record and the gate behind it stand at this place
abbrev pub IsAt : Record → ℕ → ℕ → List ℕ → Type 0
IsAt entry gate at file = (rest : List ℕ) × (drop at file ≡ spelt entry ++ gate ∷ rest)

-- ---- writes, by what they leave

-- these bytes, and whatever is behind them
abbrev pub StartsWith : List ℕ → List ℕ → Type 0
StartsWith front left = (rest : List ℕ) × (left ≡ front ++ rest)

-- these two parts, and one byte between them
abbrev pub HasGate : List ℕ → List ℕ → List ℕ → Type 0
HasGate front back left = (gate : ℕ) × (left ≡ front ++ gate ∷ back)

-- whatever was written since, a crash leaves at least these bytes, in front
pub record IsBase (base : List ℕ) (standing : Standing) : Type 0 where
  pub synced : standing.synced ≡ base
  pub least : standing.least ≡ length base
  pub behind : All (λ range. length base ≤ range.at) standing.written

-- a crash leaves at least what is in front, and a read gives these bytes behind it
pub record Staged (base tail : List ℕ) (told : DiskTold) : Type 0 where
  pub contents : told.contents ≡ base ++ tail
  pub base_stays : IsBase base (now told)

-- bytes behind the end were written
pub record Appends (answer : Act) (base tail : List ℕ) (before after : DiskTold) : Type 0 where
  pub done : answer ≡ Ready → Staged base tail after
  pub leaves : Leaves before after (StartsWith base)

-- a disk was made sure of as it stands
pub record Settles (answer : Act) (before after : DiskTold) : Type 0 where
  pub done : answer ≡ Ready → IsSure before.contents after
  pub leaves : Leaves before after (λ left. left ≡ before.contents)

-- bytes were written behind the end, and made sure of
pub record Stages (answer : Act) (base tail : List ℕ) (before after : DiskTold) : Type 0 where
  pub done : answer ≡ Ready → IsSure (base ++ tail) after
  pub leaves : Leaves before after (StartsWith base)

-- an open gate was written between two parts
pub record Opens (answer : Act) (front back : List ℕ) (before after : DiskTold) : Type 0 where
  pub done : answer ≡ Ready → after.contents ≡ front ++ open_gate ∷ back
  pub leaves : Leaves before after (HasGate front back)

-- what is behind the front was cut
pub record Shortens (answer : Act) (front : List ℕ) (before after : DiskTold) : Type 0 where
  pub done : answer ≡ Ready → after.contents ≡ front
  pub leaves : Leaves before after (StartsWith front)

-- that was made sure of too
pub record Turns (answer : Act) (front back : List ℕ) (before after : DiskTold) : Type 0 where
  pub done : answer ≡ Ready → IsSure (front ++ open_gate ∷ back) after
  pub leaves : Leaves before after (HasGate front back)

-- that was made sure of too
pub record Trims (answer : Act) (front : List ℕ) (before after : DiskTold) : Type 0 where
  pub done : answer ≡ Ready → IsSure front after
  pub leaves : Leaves before after (StartsWith front)

-- ---- files

-- the file isn't refused
abbrev pub IsNotRefused : JournalFault → Type 0
IsNotRefused cause = IfNotJournal cause (λ at. ⊥)

-- the front of a file was found, and a crash leaves the file as it is
pub record Finds (front : Front) (before after : DiskTold) : Type 0 where
  pub sure : IsSure before.contents after
  pub whole : front.len ≡ length before.contents
  pub reached : Reached front.seed [] front.gate header_bytes before.contents

-- a header of this seed, with a closed gate
unfoldable pub header_of : List ℕ → List ℕ
header_of seed = magic ++ (seed ++ closed_gate ∷ [])

-- a record was written behind a closed gate, and the gate was opened
pub record Adds (answer : Act) (front : List ℕ) (shut : ℕ) (spelling : List ℕ) (before after : DiskTold) : Type 0 where
  pub done : answer ≡ Ready → IsSure (front ++ open_gate ∷ (spelling ++ closed_gate ∷ [])) after
  pub leaves : Leaves before after (λ left. StartsWith (front ++ shut ∷ []) left ⊎ HasGate front (spelling ++ closed_gate ∷ []) left)
