-- Streams of frames (core.telegram.org/mtproto/mtproto-transports). They speak of all bytes so far, and
-- know no pieces.
use Rattle.std.specs.Prelude.{◌≡◌, ◌<◌, ◌+◌, ◌%◌, ◌^◌, ◌⊎◌, ℕ, List, [], ◌∷◌, ◌++◌, length}
use Rattle.tl_codec.specs.declared.fault.FrameFault.{FrameFault}

-- A form of framing.
pub record Form : Type 1 where
  -- the bytes spell this packet as frame number i
  pub frame : ℕ → List ℕ → List ℕ → Type 0
  -- the bytes are fewer than their length field has
  pub cut : List ℕ → Type 0
  -- the length field stands at the front, it shows no fault, and the frame that it begins has so many bytes
  pub sized : ℕ → List ℕ → Type 0
  -- the length field stands at the front and is no frame's, and this is its first fault
  pub wrong : FrameFault → List ℕ → Type 0
  -- these bytes, as many as their length field says, aren't frame number i, and this is their first fault
  pub spoilt : ℕ → FrameFault → List ℕ → Type 0

-- the bytes spell this packet as frame number i of the form
abbrev pub Frame : Form → ℕ → List ℕ → List ℕ → Type 0
Frame form = form.frame

-- the bytes are as many as their length field says, and that shows no fault
abbrev pub IsOutline : Form → List ℕ → Type 0
IsOutline form bytes = form.sized (length bytes) bytes

-- the bytes are fewer than their length field says, and that shows no fault
pub record IsShort (form : Form) (bytes : List ℕ) : Type 0 where
  pub size : ℕ
  pub sized : form.sized size bytes
  pub short : length bytes < size

-- A frame that isn't whole yet, the empty text among them. It is judged by its length field alone, as soon as that
-- is there.
abbrev pub IsBegun : Form → List ℕ → Type 0
IsBegun form bytes = form.cut bytes ⊎ IsShort form bytes

-- the bytes at the front, as many as their length field says, show the fault, as soon as they are all there
pub record ShowsWhole (form : Form) (i : ℕ) (fault : FrameFault) (bytes : List ℕ) : Type 0 where
  pub front : List ℕ
  pub rest : List ℕ
  pub outline : IsOutline form front
  pub spoilt : form.spoilt i fault front
  pub whole : bytes ≡ front ++ rest

-- No frame number i goes on with these bytes, and this is their first fault. The length field shows one as soon
-- as it is there.
abbrev pub Shows : Form → ℕ → FrameFault → List ℕ → Type 0
Shows form i fault bytes = form.wrong fault bytes ⊎ ShowsWhole form i fault bytes

-- a count that reaches 2 ^ 32 wraps to 0
abbrev pub number_after : ℕ → ℕ
number_after count = count % 2 ^ 32

-- one frame for each packet in order, the first of them behind so many others
abbrev pub Frames : Form → ℕ → List (List ℕ) → List ℕ → Type 0
Frames form count [] bytes = bytes ≡ []
Frames form count (packet ∷ packets) bytes =
    (front back : List ℕ) × Frame form (number_after count) packet front × Frames form (count + 1) packets back × (bytes ≡ front ++ back)

-- the bytes are one frame for each packet in order, and then a proper prefix of a frame
pub record Stream (form : Form) (packets : List (List ℕ)) (rest bytes : List ℕ) : Type 0 where
  pub frames : List ℕ
  pub each : Frames form 0 packets frames
  pub begun : IsBegun form rest
  pub whole : bytes ≡ frames ++ rest

-- the bytes are one frame for each packet in order, and what stands behind them shows the fault
pub record Faulty (form : Form) (packets : List (List ℕ)) (fault : FrameFault) (bytes : List ℕ) : Type 0 where
  pub frames : List ℕ
  pub rest : List ℕ
  pub each : Frames form 0 packets frames
  pub shown : Shows form (number_after (length packets)) fault rest
  pub whole : bytes ≡ frames ++ rest

-- The bytes begin with one frame for each packet in order. Anything may follow.
pub record Begins (form : Form) (packets : List (List ℕ)) (bytes : List ℕ) : Type 0 where
  pub frames : List ℕ
  pub rest : List ℕ
  pub each : Frames form 0 packets frames
  pub whole : bytes ≡ frames ++ rest
