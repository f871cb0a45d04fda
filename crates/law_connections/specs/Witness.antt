-- A joint run that shows what the definitions give: a connection is lost, and the server starts again. Packets are laid out as the
-- protocol lays them out, under a key of a ring, without a cipher; the service is that of the registers.
use Rattle.std.specs.Prelude.{ℕ, ◌==◌, false, if◌then◌else◌, Option, Some, None, List, [], ◌∷◌, replicate}
use Rattle.auth_keys.specs.declared.key.KeyKind.TheVariants.{Perm}
use Rattle.auth_keys.specs.declared.ring.RingKey.{RingKey}
use Rattle.draws.specs.Draws.{word_after}
use Rattle.envelope.specs.Lock.{clear_lock}
use Rattle.envelope.specs.Opening.{key_named}
use Rattle.envelope.specs.Packet.{packet_of}
use Rattle.regs_service.specs.Registers as registers
use Rattle.ring_rules.specs.Opening.{opened_under}
use Rattle.client_core.specs.Keys.{Keys}
use Rattle.server_node.specs.Trace.{Attach, Hear, Run, Tick}
use Rattle.world_rules.specs.Report.{report}
use Rattle.world_rules.specs.Setting.{Setting}
use Rattle.world_rules.specs.Witness.{add_x, drawn}
use Rattle.world_rules.specs.World.{Packet, bytes_of, counted}
use Rattle.law_connections.specs.Joint.{Joint, Step, Attaches, Begins, Does, Draws, Flushes, Hears, Serves, Starts, Submits, joint_of, nobody_yet, steps_on}

-- ---- in what it runs

-- the key's bytes, and the identifier by which packets name it
unfoldable pub key : List ℕ
key = replicate 256 7

abbrev pub key_number : ℕ
key_number = 6587356363582867870

abbrev pub entry : RingKey
entry = record { key = key; kind = Perm }

abbrev pub ring : List RingKey
ring = entry ∷ []

-- the key of the ring that has this identifier
abbrev pub entry_named : ℕ → Option RingKey
entry_named id = if key_number == id then Some entry else None

-- nothing in it is under a temporary key
abbrev pub setting : Setting ℕ registers.Sums
setting =
    record {
      step = drawn;
      sealed = λ dir envelope padding. packet_of clear_lock key dir envelope padding;
      opens = λ now dir packet. opened_under clear_lock now dir packet (entry_named (key_named packet));
      keys = record { permanent = key_number; temporary = key_number; expires = 0 };
      is_temporary = λ id. false;
      binding_message = λ perm random number inner padding. [];
      bound_by = λ now name call. None;
      serve = registers.step;
      fresh = registers.fresh;
    }

-- ---- steps that bring packets of the run

-- a step as it stands, or the packet of this number, counted from 1, comes to the server or to the first client
pub data Turn : Type 0 where
  Goes : Step ℕ → Turn
  Up : ℕ → Turn
  Down : ℕ → Turn

abbrev pub bytes_in : {S V : Type 0} → Setting S V → Option Packet → List ℕ
bytes_in setting None = []
bytes_in setting (Some packet) = bytes_of setting packet

abbrev pub packet_at : {V : Type 0} → Setting ℕ V → ℕ → Joint ℕ V → List ℕ
packet_at setting number joint = bytes_in setting (counted number joint.world.bag)

abbrev pub step_in : {V : Type 0} → Setting ℕ V → Joint ℕ V → Turn → Step ℕ
step_in setting joint (Goes step) = step
step_in setting joint (Up number) = Serves (Hear 0 (packet_at setting number joint))
step_in setting joint (Down number) = Does 1 (Hears 0 (packet_at setting number joint))

abbrev pub steps_in : {V : Type 0} → Setting ℕ V → Joint ℕ V → List Turn → List (Step ℕ)
steps_in setting joint [] = []
steps_in setting joint (turn ∷ turns) =
    let step = step_in setting joint turn in step ∷ steps_in setting (steps_on setting joint step) turns

-- ---- the run

-- the words of the client are drawn from here, and those of the server's second start
abbrev pub client_draw : ℕ
client_draw = 1000

abbrev pub second_draw : ℕ
second_draw = 5000

abbrev pub keys : Keys
keys = record { key = key_number; bound_to = None }

-- a connection is opened, and what is due goes
abbrev pub opens : List Turn → List Turn
opens turns = Goes (Does 1 (Draws 8)) ∷ Goes (Does 1 Attaches) ∷ Goes (Does 1 (Flushes 0)) ∷ turns

-- behind a first packet the connection is attached to the client's session, and there is a tick
abbrev pub goes_on : List Turn → List Turn
goes_on turns =
    Goes (Serves (Attach 0 (record { key = key_number; session = word_after setting.step 0 client_draw }))) ∷ Goes (Serves (Tick 0)) ∷ turns

-- A call is sent under salt 0, refused for that, goes again, runs and is answered. Another one runs, its answer is lost with the
-- connection, and the server starts again; over the next connection the call goes again, and its client is told of a new session.
abbrev pub lossy_turns : List Turn
lossy_turns =
    Goes (Begins keys client_draw) ∷ Goes (Does 1 (Submits (add_x 5) None))
    ∷ opens (Up 1 ∷ goes_on (Down 2 ∷ Down 3 ∷ Goes (Does 1 (Flushes 0)) ∷ Up 4 ∷ Goes (Serves (Tick 0)) ∷ Goes (Serves (Run 0)) ∷ Down 5 ∷ Down 6
    ∷ Goes (Does 1 (Submits (add_x 7) None)) ∷ Goes (Does 1 (Flushes 0)) ∷ Up 7 ∷ Goes (Serves (Tick 0)) ∷ Goes (Serves (Run 0))
    ∷ Goes (Starts second_draw) ∷ opens (Up 10 ∷ goes_on (Down 11 ∷ []))))

unfoldable pub lossy : List (Step ℕ)
lossy = steps_in setting (nobody_yet setting 0) lossy_turns

-- what is told of its world
abbrev pub told : List (Step ℕ) → List ℕ
told steps = report (joint_of setting 0 steps).world
