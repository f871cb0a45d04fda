-- Scaffolding of proofs, and no promise: what goes on of a text that stands behind whole frames.
use Rattle.std.specs.Prelude.{◌≡◌, ◌≤◌, ◌*◌, ◌⊎◌, ℕ, List, ◌++◌, length, take, slice_range, Option, None, Some}
use Rattle.std.specs.List.{All}
use Rattle.framing.specs.Payload.{IsPayload}
use Rattle.framing.specs.Streams.{Frame, Frames, IsBegun, Shows}
use Rattle.transport.specs.Forms.{framing_of}
use Rattle.transport.specs.declared.form.Form.{Form}
use Rattle.secret_relay.specs.declared.fault.RelayFault.{RelayFault}
use Rattle.secret_relay.specs.declared.fault.RelayFault.TheVariants as faults
use Rattle.secret_relay.specs.declared.look.Look.{Look}
use Rattle.secret_relay.specs.declared.look.Look.TheVariants as looks
use Rattle.secret_relay.specs.Written.{frames_of, CanGoOut}

-- a whole frame stands at the front, and its packet can't go out
pub record BeginsMisfit (from to : Form) (len : ℕ) (text : List ℕ) : Type 0 where
  pub packet : List ℕ
  pub front : List ℕ
  pub back : List ℕ
  pub frame : Frame (framing_of from) 0 packet front
  pub whole : text ≡ front ++ back
  pub misfit : CanGoOut to packet → ⊥
  pub size : len ≡ length packet

-- the front of a text has this fault
abbrev pub Shown : Form → Form → RelayFault → List ℕ → Type 0
Shown from to faults.Early text = ⊥
Shown from to (faults.Start found) text = ⊥
Shown from to (faults.Frame fault) text = Shows (framing_of from) 0 fault text
Shown from to (faults.Length len) text = BeginsMisfit from to len text
Shown from to faults.Memory text = ⊥

-- the first `size` bytes are a whole frame, whose packet stands from `start` to `end` and can go out
pub record BeginsPacket (from to : Form) (text : List ℕ) (start end size : ℕ) : Type 0 where
  pub packet_start : start ≤ end
  pub packet_end : end ≤ size
  pub there : size ≤ length text
  pub frame : Frame (framing_of from) 0 (slice_range text start end) (take size text)
  pub payload : IsPayload (slice_range text start end)
  pub goes_out : CanGoOut to (slice_range text start end)

-- what stands at the front
abbrev pub Sees : Form → Form → List ℕ → Look → Type 0
Sees from to text (looks.Packet start end size) = BeginsPacket from to text start end size
Sees from to text looks.More = IsBegun (framing_of from) text
Sees from to text (looks.Fault fault) = Shown from to fault text

-- a proper prefix of a frame is left, or a text with this fault
abbrev pub IsLeft : Form → Form → Option RelayFault → List ℕ → Type 0
IsLeft from to None left = IsBegun (framing_of from) left
IsLeft from to (Some fault) left = Shown from to fault left

-- nothing of the text goes out, or there is room for all of it, twice
abbrev pub HasRoom : Form → List ℕ → ℕ → Type 0
HasRoom from text room = IsBegun (framing_of from) text ⊎ (2 * length text ≤ room)

-- the text is one frame for each packet, each of which can go out, and what is left
pub record Takes (from to : Form) (packets : List (List ℕ)) (text left : List ℕ) : Type 0 where
  pub frames : List ℕ
  pub each : Frames (framing_of from) 0 packets frames
  pub whole : text ≡ frames ++ left
  pub go_out : All (CanGoOut to) packets

-- and these packets were written
pub record PassesOn (from to : Form) (fault : Option RelayFault) (text left old new : List ℕ) : Type 0 where
  pub packets : List (List ℕ)
  pub takes : Takes from to packets text left
  pub ends : IsLeft from to fault left
  pub written : new ≡ old ++ frames_of to packets
