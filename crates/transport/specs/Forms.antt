-- The forms of framing (core.telegram.org/mtproto/mtproto-transports).
use Rattle.std.specs.Prelude.{ℕ, ◌+◌, Bool, true, false, List}
use Rattle.framing.specs.Streams as streams
use Rattle.frame_short.specs.Abridged as short
use Rattle.frame_len.specs.Lengths as len
use Rattle.frame_full.specs.Full as full
use Rattle.transport.specs.declared.form.Form.{Form}
use Rattle.transport.specs.declared.form.Form.TheVariants.{Abridged, Intermediate, Padded, Full}

-- what the frames of a form are
abbrev pub framing_of : Form → streams.Form
framing_of Abridged = short.abridged
framing_of Intermediate = len.form_of false
framing_of Padded = len.form_of true
framing_of Full = full.full

abbrev pub is_padded : Form → Bool
is_padded Abridged = false
is_padded Intermediate = false
is_padded Padded = true
is_padded Full = false

-- what may be put: a payload, in the padded form one of 4 bytes, or of 24 and a multiple of 16 more
abbrev pub IsSent : Form → List ℕ → Type 0
IsSent form packet = len.IsWritten (is_padded form) packet

-- the frame of a packet as it is written, behind so many others
abbrev pub frame_of : Form → ℕ → List ℕ → List ℕ
frame_of Abridged number packet = short.frame_of packet
frame_of Intermediate number packet = len.frame_of packet
frame_of Padded number packet = len.frame_of packet
frame_of Full number packet = full.frame_of number packet

-- the number behind that of a frame: full frames alone are numbered
abbrev pub next_number : Form → ℕ → ℕ
next_number Abridged number = number
next_number Intermediate number = number
next_number Padded number = number
next_number Full number = streams.number_after (number + 1)
