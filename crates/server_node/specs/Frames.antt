-- The frames that go out over a connection, as the writer of its form spells them
-- (core.telegram.org/mtproto/mtproto-transports).
use Rattle.std.specs.Prelude.{◌≡◌, ℕ, List, Option}
use Rattle.cipher_modes.specs.CounterMode.{CtrState}
use Rattle.framing.specs.Streams.{Frames}
use Rattle.transport.specs.Directions.{through}
use Rattle.transport.specs.Forms.{framing_of}
use Rattle.transport.specs.Spelt.{frames_of}
use Rattle.transport.specs.declared.form.Form.{Form}

-- These bytes behind a start are these packets in this form: they read as the packets, and are the writer's frames.
pub record AreFramesOf (form : Form) (to : Option CtrState) (packets : List (List ℕ)) (bytes : List ℕ) : Type 0 where
  pub reads : Frames (framing_of form) 0 packets (through to bytes)
  pub spelt : through to bytes ≡ frames_of form 0 packets
