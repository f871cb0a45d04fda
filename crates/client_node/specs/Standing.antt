-- A client as it is kept, and the course that it stands for.
use Rattle.std.specs.Prelude.{◌≡◌, ℕ, Bool, true, false, Option, Some, None, Result, Ok, Err, List, length, ⊤}
use Rattle.std.specs.List.{list_any}
use Rattle.auth_keys.specs.declared.ring.RingKey.{RingKey}
use Rattle.call_table.specs.Kept.{state_of}
use Rattle.call_table.specs.Table.{is_open}
use Rattle.octets.specs.declared.memory.Memory.{Memory}
use Rattle.envelope.specs.declared.parts.Envelope.{Envelope}
use Rattle.envelope.specs.declared.parts.Dir.TheVariants.{Down}
use Rattle.envelope.specs.Opening.{Opens}
use Rattle.envelope.specs.Packet.{Lock}
use Rattle.client_rules.specs.Client.{Client}
use Rattle.client_rules.specs.Sending.{Setting}
use Rattle.client_core.specs.Keys.{HasKeys as HasKeysOf, keys_in}
use Rattle.client_core.specs.Kept.{Contents, Stands}
pub use Rattle.client_core.specs.Holding.{kept_of, phase_of}
use Rattle.client_core.specs.Flushed.{Leaves, TellsFlush}
use Rattle.client_core.specs.declared.flush.Flush.{Flush}
use Rattle.client_core.specs.declared.holder.Holder.{Holder}
use Rattle.client_core.specs.declared.holder.Holder.TheVariants as holder
use Rattle.client_node.specs.Course.{Phase, Opening, Open, Ended, Course, Reading, flush_of, is_decided, phase_after}
use Rattle.client_node.specs.declared.end.End.{End}
use Rattle.client_node.specs.declared.end.End.TheVariants as ends
use Rattle.client_node.specs.declared.plan.Batch.{Batch}
use Rattle.client_node.specs.declared.plan.Batch.TheVariants as batch

-- how many calls it has
abbrev pub count_of : Holder → ℕ
count_of kept = length (kept_of kept).calls.rows

-- it stands for this client
abbrev pub StandsFor : Holder → Client → Type 0
StandsFor kept client = Stands (kept_of kept) client

-- a client and a draw stand for a course
pub record StandsAs {S : Type 0} (kept : Holder) (drawn : S) (course : Course S) : Type 0 where
  pub phase : phase_of kept ≡ course.phase
  pub client : StandsFor kept course.client
  pub draw : drawn ≡ course.draw

-- the ring has the client's key, and the permanent one to which that is to be bound; an ended client needs none
abbrev pub HasKeys : List RingKey → Holder → Type 0
HasKeys keys (holder.Opening kept) = HasKeysOf keys (keys_in kept)
HasKeys keys (holder.Open kept) = HasKeysOf keys (keys_in kept)
HasKeys keys (holder.Ended kept) = Unit {0}

-- whatever ring had the keys of the client before, has those of the client after
abbrev pub KeepsKeys : Holder → Holder → Type 0
KeepsKeys before after = (ring : List RingKey) → HasKeys ring before → HasKeys ring after

-- of one of its calls it tells that it is queued, sent or held
abbrev pub has_undecided : Holder → Bool
has_undecided kept = list_any (λ row. is_open (state_of row.progress)) (kept_of kept).calls.rows

-- each call is decided, by what it tells of each, and of every client that it stands for
pub record AllDecided (kept : Holder) : Type 0 where
  pub told : has_undecided kept ≡ false
  pub stands : (whole : Client) → StandsFor kept whole → is_decided whole ≡ true

-- a call isn't decided
pub record IsUndecided (kept : Holder) : Type 0 where
  pub told : has_undecided kept ≡ true
  pub stands : (whole : Client) → StandsFor kept whole → is_decided whole ≡ false

-- a batch that ended otherwise than as `Decided` or for want of memory left a call undecided
abbrev pub LeavesUndecided : Batch → Holder → Type 0
LeavesUndecided batch.LinkLost kept = IsUndecided kept
LeavesUndecided batch.TurnsSpent kept = IsUndecided kept
LeavesUndecided batch.Spent kept = IsUndecided kept
LeavesUndecided batch.Decided kept = ⊤
LeavesUndecided batch.Memory kept = ⊤

-- it ended as `Decided` only where each call is
abbrev pub DecidedIn : End → Holder → Type 0
DecidedIn ends.Decided kept = AllDecided kept
DecidedIn ends.Lost kept = ⊤
DecidedIn ends.TurnsSpent kept = ⊤
DecidedIn ends.Spent kept = ⊤
DecidedIn ends.Memory kept = ⊤

abbrev pub DecidedBy : {X : Type 0} → Result X End → Holder → Type 0
DecidedBy (Ok done) kept = ⊤
DecidedBy (Err end) kept = DecidedIn end kept

-- ---- what a call of the client tells

-- a flush of a client in its state, that answers and leaves so
pub record FlushedAs {S : Type 0} (setting : Setting S) (lock : Lock) (keys : List RingKey) (now : ℕ) (course : Course S) (answer : Flush) (kept : Holder) (draw : S) : Type 0 where
  pub phase : phase_of kept ≡ course.phase
  pub told : TellsFlush lock keys (flush_of setting now course).answer answer
  pub leaves : Leaves answer (kept_of kept) draw course.client course.draw (flush_of setting now course)

-- a reading tells what each packet opens to, of those that come from a server
abbrev pub IsOpened : Lock → List RingKey → ℕ → List ℕ → Option Envelope → Type 0
IsOpened lock keys now packet (Some envelope) = Opens lock keys now Down packet envelope
IsOpened lock keys now packet None = (envelope : Envelope) → Opens lock keys now Down packet envelope → ⊥

abbrev pub IsReading : Lock → List RingKey → Reading → Type 0
IsReading lock keys reading = (now : ℕ) (packet : List ℕ) → IsOpened lock keys now packet (reading now packet)

-- a client that was in a state and heard a packet, or is as it was where memory ran out
abbrev pub HeardAs : Phase → Client → Client → Holder → Result Unit Memory → Type 0
HeardAs phase before after kept (Ok done) = (phase_of kept ≡ phase_after phase after) × StandsFor kept after
HeardAs phase before after kept (Err memory) = (phase_of kept ≡ phase) × StandsFor kept before
