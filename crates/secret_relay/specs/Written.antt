-- What goes out of packets (core.telegram.org/mtproto/mtproto-transports).
use Rattle.std.specs.Prelude.{ℕ, List, [], ◌∷◌, ◌++◌, length}
use Rattle.std.specs.Bool.{OnTrue}
use Rattle.frame_len.specs.Lengths.{IsPaddedSize}
use Rattle.transport.specs.Forms.{frame_of, is_padded}
use Rattle.transport.specs.Starts.{start_of}
use Rattle.transport.specs.declared.form.Form.{Form}

-- The frames of these packets as the writer of the form makes them, one after the other. The forms that go through a relay
-- number no frame.
abbrev pub frames_of : Form → List (List ℕ) → List ℕ
frames_of form [] = []
frames_of form (packet ∷ packets) = frame_of form 0 packet ++ frames_of form packets

-- the start bytes of the form, and the frames of these packets
abbrev pub written : Form → List (List ℕ) → List ℕ
written form packets = start_of form ++ frames_of form packets

-- A packet can go out in the form. The padded form has packets of 4 bytes, and of 24 and a multiple of 16 more, alone.
abbrev pub CanGoOut : Form → List ℕ → Type 0
CanGoOut form packet = OnTrue (is_padded form) (IsPaddedSize (length packet))
