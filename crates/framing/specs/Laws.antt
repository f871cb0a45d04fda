-- What makes a form one that can be read: its length field is read in one way, a frame has the outline that
-- its length field says, and what isn't a frame shows one fault. Each form proves it of itself, and the laws
-- of streams follow.
use Rattle.std.specs.Prelude.{◌≡◌, ◌<◌, ◌≤◌, ℕ, List, [], ◌++◌, length, take}
use Rattle.tl_codec.specs.declared.fault.FrameFault.{FrameFault}
use Rattle.framing.specs.Streams.{Form, Frame, IsOutline}

pub record IsForm (form : Form) : Type 0 where
  -- no byte begins a frame, and a length field that is cut says nothing
  pub empty : form.cut []
  pub unsized : (size : ℕ) (bytes : List ℕ) → form.cut bytes → form.sized size bytes → ⊥
  pub unfaulted : (fault : FrameFault) (bytes : List ℕ) → form.cut bytes → form.wrong fault bytes → ⊥
  -- a length field says one thing, and a frame has bytes
  pub some : (size : ℕ) (bytes : List ℕ) → form.sized size bytes → 0 < size
  pub one_size : (size other : ℕ) (bytes : List ℕ) → form.sized size bytes → form.sized other bytes → size ≡ other
  pub one_wrong : (one other : FrameFault) (bytes : List ℕ) → form.wrong one bytes → form.wrong other bytes → one ≡ other
  pub apart : (size : ℕ) (fault : FrameFault) (bytes : List ℕ) → form.sized size bytes → form.wrong fault bytes → ⊥
  -- whatever follows it
  pub sized_on : (size : ℕ) (bytes rest : List ℕ) → form.sized size bytes → form.sized size (bytes ++ rest)
  pub wrong_on : (fault : FrameFault) (bytes rest : List ℕ) → form.wrong fault bytes → form.wrong fault (bytes ++ rest)
  -- and it is a part of its frame
  pub within : (size : ℕ) (bytes : List ℕ) → form.sized size bytes → size ≤ length bytes → form.sized size (take size bytes)
  -- a frame has as many bytes as its length field says
  pub outlined : (i : ℕ) (packet bytes : List ℕ) → Frame form i packet bytes → IsOutline form bytes
  -- it has one packet
  pub one_packet : (i : ℕ) (one other bytes : List ℕ) → Frame form i one bytes → Frame form i other bytes → one ≡ other
  -- and isn't spoilt
  pub sound : (i : ℕ) (packet bytes : List ℕ) (fault : FrameFault) → Frame form i packet bytes → form.spoilt i fault bytes → ⊥
  -- there is one first fault
  pub one_spoilt : (i : ℕ) (one other : FrameFault) (bytes : List ℕ) → form.spoilt i one bytes → form.spoilt i other bytes → one ≡ other
