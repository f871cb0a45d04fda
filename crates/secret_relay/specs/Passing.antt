-- A stream in one form, whose packets go out in another (core.telegram.org/mtproto/mtproto-transports).
use Rattle.std.specs.Prelude.{◌≡◌, ℕ, List, [], ◌∷◌, ◌++◌, length}
use Rattle.std.specs.List.{All}
use Rattle.tl_codec.specs.declared.fault.FrameFault.{FrameFault}
use Rattle.framing.specs.Streams.{Stream, Faulty, Begins}
use Rattle.transport.specs.Forms.{framing_of}
use Rattle.transport.specs.declared.form.Form.{Form}
use Rattle.secret_relay.specs.declared.fault.RelayFault.{RelayFault}
use Rattle.secret_relay.specs.declared.fault.RelayFault.TheVariants as faults
use Rattle.secret_relay.specs.Written.{CanGoOut}

-- The stream is these packets, each of which can go out, and then a proper prefix of a frame.
pub record Passes (from to : Form) (packets : List (List ℕ)) (text : List ℕ) : Type 0 where
  pub rest : List ℕ
  pub stream : Stream (framing_of from) packets rest text
  pub go_out : All (CanGoOut to) packets

-- behind these packets, each of which can go out, the stream shows a fault
pub record HasFault (from to : Form) (packets : List (List ℕ)) (fault : FrameFault) (stream : List ℕ) : Type 0 where
  pub faulty : Faulty (framing_of from) packets fault stream
  pub go_out : All (CanGoOut to) packets

-- behind these packets, each of which can go out, stands one of so many bytes that can't
pub record HasMisfit (from to : Form) (packets : List (List ℕ)) (len : ℕ) (stream : List ℕ) : Type 0 where
  pub packet : List ℕ
  pub begins : Begins (framing_of from) (packets ++ packet ∷ []) stream
  pub go_out : All (CanGoOut to) packets
  pub misfit : CanGoOut to packet → ⊥
  pub size : len ≡ length packet

-- this fault stands behind these packets
abbrev pub Halts : Form → Form → List (List ℕ) → RelayFault → List ℕ → Type 0
Halts from to packets faults.Early stream = ⊥
Halts from to packets (faults.Start found) stream = ⊥
Halts from to packets (faults.Frame fault) stream = HasFault from to packets fault stream
Halts from to packets (faults.Length len) stream = HasMisfit from to packets len stream
Halts from to packets faults.Memory stream = ⊥
