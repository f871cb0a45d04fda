-- What a wire keeps, and which bytes and packets it stands for.
use Rattle.std.specs.Prelude.{◌≡◌, ⊤, ℕ, List, [], ◌++◌, length, Option, IfNone}
use Rattle.cipher_modes.specs.CounterMode.{CtrState}
use Rattle.framing.specs.Held.{Held}
use Rattle.framing.specs.Holding.{Stands}
use Rattle.framing.specs.Streams.{Frames, number_after}
use Rattle.transport.specs.Forms.{framing_of}
use Rattle.transport.specs.Directions.{through, behind}
use Rattle.transport.specs.Starts.{Opening, Starts, IsTold}
use Rattle.transport.specs.declared.form.Form.{Form}
use Rattle.transport.specs.declared.form.Form.TheVariants.{Abridged, Intermediate, Padded, Full}

-- a framed wire: its form, what it holds of what came in, where its two key streams stand, and the number of the next
-- full frame that it writes
pub record Line : Type 0 where
  pub form : Form
  pub held : Held
  pub reading : Option CtrState
  pub writing : Option CtrState
  pub number : ℕ

-- These bytes came in behind the start, and these packets were taken of them. The stream is what they are deciphered.
pub record Hears (line : Line) (from : Option CtrState) (packets : List (List ℕ)) (bytes : List ℕ) : Type 0 where
  pub stands : Stands (framing_of line.form) line.held packets (through from bytes)
  pub place : IfNone line.held.fault (line.reading ≡ behind from (length bytes))

-- full frames are numbered
abbrev pub IsNumbered : Form → ℕ → ℕ → Type 0
IsNumbered Abridged number count = ⊤
IsNumbered Intermediate number count = ⊤
IsNumbered Padded number count = ⊤
IsNumbered Full number count = number ≡ number_after count

-- These bytes went out behind the start, and they are these packets.
pub record Tells (line : Line) (to : Option CtrState) (packets : List (List ℕ)) (bytes : List ℕ) : Type 0 where
  pub frames : Frames (framing_of line.form) 0 packets (through to bytes)
  pub number : IsNumbered line.form line.number (length packets)
  pub place : line.writing ≡ behind to (length bytes)

-- The wire of a server's end, once its first bytes are a start and what is behind it. What comes in goes through the
-- stream from the client, what goes out through the one to it.
pub record HasStarted (line : Line) (bytes : List ℕ) : Type 0 where
  pub opening : Opening
  pub rest : List ℕ
  pub starts : Starts bytes opening rest
  pub form : line.form ≡ opening.form
  pub hears : Hears line opening.up [] rest
  pub tells : Tells line opening.down [] []

-- A client's end of a form that has sent these bytes and no packet yet. Whatever follows them, the server takes them for a
-- start of that form.
pub record HasBegun (line : Line) (its : Form) (start : List ℕ) : Type 0 where
  pub opening : Opening
  pub opens : opening.form ≡ its
  pub form : line.form ≡ its
  pub hears : Hears line opening.down [] []
  pub tells : Tells line opening.up [] []
  pub starts : (rest : List ℕ) → IsTold its (start ++ rest) → Starts (start ++ rest) opening rest
