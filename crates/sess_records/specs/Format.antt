-- The format of a journal: a header, and records behind gates. Numbers are little-endian.
use Rattle.std.specs.Prelude.{◌≡◌, ◌≢◌, ℕ, ◌+◌, ◌≤◌, ◌<◌, ◌%◌, ◌^◌, List, [], ◌∷◌, ◌++◌, ◌⊎◌, length, ⊤}
use Rattle.std.specs.Int.{w32, w64, to_le_bytes}
use Rattle.std.specs.List.{All}
use Rattle.sess_records.specs.declared.records.Record.{Record}
use Rattle.sess_records.specs.declared.records.Event.{Event}
use Rattle.sess_records.specs.declared.records.Event.TheVariants.{Packet, Tick, Attach, Begin, Ran, Interrupted}

-- ---- records

-- the first byte of a record says what it records
abbrev pub kind_of : Event (List ℕ) → ℕ
kind_of (Packet packet) = 1
kind_of Tick = 2
kind_of (Attach key session) = 3
kind_of (Begin job) = 4
kind_of (Ran reply) = 5
kind_of Interrupted = 6

-- and what stands behind the moment and the place says the rest
abbrev pub rest_of : Event (List ℕ) → List ℕ
rest_of (Packet packet) = packet
rest_of Tick = []
rest_of (Attach key session) = to_le_bytes w64 key ++ to_le_bytes w64 session
rest_of (Begin job) = to_le_bytes w64 job
rest_of (Ran reply) = reply
rest_of Interrupted = []

-- the bytes of a record: its kind, its moment, the draw's place before the event, and the rest
unfoldable pub body_of : Record → List ℕ
body_of entry = kind_of entry.event ∷ (to_le_bytes w64 entry.moment ++ (to_le_bytes w64 entry.place ++ rest_of entry.event))

-- a record as it stands behind its gate: how many bytes it has, and these
unfoldable pub spelt : Record → List ℕ
spelt entry = to_le_bytes w32 (length (body_of entry)) ++ body_of entry

-- a reply has at most 262,144 bytes, a multiple of 4
pub record IsReply (reply : List ℕ) : Type 0 where
  pub short : length reply ≤ 262144
  pub words : length reply % 4 ≡ 0

-- its numbers have 64 bits, and a reply is one
abbrev pub IsEvent : Event (List ℕ) → Type 0
IsEvent (Packet packet) = ⊤
IsEvent Tick = ⊤
IsEvent (Attach key session) = (key < 2 ^ 64) × (session < 2 ^ 64)
IsEvent (Begin job) = job < 2 ^ 64
IsEvent (Ran reply) = IsReply reply
IsEvent Interrupted = ⊤

-- What makes a record lawful by itself. What it may be behind the records before it isn't said here.
pub record IsRecord (entry : Record) : Type 0 where
  pub moment : entry.moment < 2 ^ 64
  pub place : entry.place < 2 ^ 64
  pub event : IsEvent entry.event
  -- the length field has 4 bytes
  pub short : length (body_of entry) < 2 ^ 32

-- ---- files

-- `mtpsess1`
unfoldable pub magic : List ℕ
magic = 109 ∷ 116 ∷ 112 ∷ 115 ∷ 101 ∷ 115 ∷ 115 ∷ 49 ∷ []

-- how many bytes a seed has, and a header with its gate
abbrev pub seed_bytes : ℕ
seed_bytes = 32

abbrev pub header_bytes : ℕ
header_bytes = 41

-- a gate that is open; any other byte is a closed one
abbrev pub open_gate : ℕ
open_gate = 1

-- as a closed gate is written
abbrev pub closed_gate : ℕ
closed_gate = 0

-- records, each behind an open gate
abbrev pub written : List Record → List ℕ
written [] = []
written (entry ∷ entries) = open_gate ∷ (spelt entry ++ written entries)

-- The file begins with a header of this seed, and with these records, each behind an open gate. The next gate is this, and
-- `at` is the place behind it.
pub record Reached (seed : List ℕ) (entries : List Record) (gate at : ℕ) (file : List ℕ) : Type 0 where
  pub seeded : length seed ≡ seed_bytes
  pub lawful : All IsRecord entries
  pub rest : List ℕ
  pub split : file ≡ magic ++ (seed ++ (written entries ++ gate ∷ rest))
  pub place : at ≡ header_bytes + length (written entries)

-- What a file spells: the records up to the first gate that isn't open. What is behind that gate says nothing.
pub record Spells (seed : List ℕ) (entries : List Record) (file : List ℕ) : Type 0 where
  pub gate : ℕ
  pub at : ℕ
  pub reached : Reached seed entries gate at file
  pub closed : gate ≢ open_gate

-- ---- what is no journal

-- the bytes begin with a header: the first letters, a seed and a gate
pub record HasHeader (file : List ℕ) : Type 0 where
  pub seed : List ℕ
  pub gate : ℕ
  pub rest : List ℕ
  pub seeded : length seed ≡ seed_bytes
  pub split : file ≡ magic ++ (seed ++ gate ∷ rest)

-- the bytes begin with a record and the next gate
pub record HasRecord (bytes : List ℕ) : Type 0 where
  pub entry : Record
  pub gate : ℕ
  pub rest : List ℕ
  pub lawful : IsRecord entry
  pub split : bytes ≡ spelt entry ++ gate ∷ rest

-- behind an open gate, at this place, no record begins
pub record NoRecord (at : ℕ) (file : List ℕ) : Type 0 where
  pub seed : List ℕ
  pub entries : List Record
  pub reached : Reached seed entries open_gate at file
  pub none : HasRecord reached.rest → ⊥

-- the first place where neither a header nor a record stands that is lawful by itself: that of its length field, or 0
abbrev pub IsFault : ℕ → List ℕ → Type 0
IsFault at file = ((at ≡ 0) × (HasHeader file → ⊥)) ⊎ NoRecord at file

-- ---- sizes

-- how many bytes the record of an event adds to a file, with the gate behind it
abbrev pub size_of : Event (List ℕ) → ℕ
size_of (Packet packet) = 22 + length packet
size_of Tick = 22
size_of (Attach key session) = 38
size_of (Begin job) = 30
size_of (Ran reply) = 22 + length reply
size_of Interrupted = 22

-- the most that a run adds with its begin
abbrev pub work_bytes : ℕ
work_bytes = 262196
