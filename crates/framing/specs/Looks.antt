-- What is told of the front of a text.
use Rattle.std.specs.Prelude.{◌≤◌, ℕ, List, length, take, slice_range}
use Rattle.framing.specs.Streams.{Form, Frame, IsBegun, Shows}
use Rattle.framing.specs.declared.form.Length as lengths
use Rattle.framing.specs.declared.form.Length.TheVariants as told
use Rattle.framing.specs.declared.form.Span.{Span}
use Rattle.framing.specs.declared.look.Look as looks
use Rattle.framing.specs.declared.look.Look.TheVariants as seen

-- what the length field at the front tells
abbrev pub TellsLength : Form → List ℕ → lengths.Length → Type 0
TellsLength form text (told.Size size) = form.sized size text
TellsLength form text told.Awaited = form.cut text
TellsLength form text (told.Wrong fault) = form.wrong fault text

-- the bytes are frame number i, whose packet stands there
pub record IsFrameAt (form : Form) (i : ℕ) (bytes : List ℕ) (span : Span) : Type 0 where
  pub start : span.start ≤ span.end
  pub end : span.end ≤ length bytes
  pub frame : Frame form i (slice_range bytes span.start span.end) bytes

-- the first `size` bytes are a whole frame, whose packet stands from `start` to `end`
pub record IsWholeFrame (form : Form) (i : ℕ) (text : List ℕ) (start end size : ℕ) : Type 0 where
  pub packet_start : start ≤ end
  pub packet_end : end ≤ size
  pub there : size ≤ length text
  pub frame : Frame form i (slice_range text start end) (take size text)

-- what stands at the front, where frame number i is due
abbrev pub Tells : Form → ℕ → List ℕ → looks.Look → Type 0
Tells form i text (seen.Whole start end size) = IsWholeFrame form i text start end size
Tells form i text seen.More = IsBegun form text
Tells form i text (seen.Fault fault) = Shows form i fault text
