-- A line that takes pieces, gives packets and sends others.
use Rattle.std.proofs.Common.{◌≡◌, ◌≤◌, ℕ, List, [], ◌++◌, length, Option, Some, None, ◌⊎◌, inl, inr, refl, sym, ap, subst, ◌∙◌, append-nil, length-append, arith}
use Rattle.cipher_modes.specs.CounterMode.{CtrState}
use Rattle.framing.specs.Streams.{Begins, Faulty, Stream}
use Rattle.tl_codec.specs.declared.fault.FrameFault.{FrameFault}
use Rattle.transport.specs.Directions.{through}
use Rattle.transport.specs.Forms.{framing_of}
use Rattle.transport.specs.Starts.{IsAwaited, Opening, Starts}
use Rattle.transport.specs.Wires.{Hears, Line}
use Rattle.server_node.specs.Coming.{Fed, HeardAll, packets_max}
use Rattle.server_node.specs.Connection.{AreFirst, AreWhole, IsFaulty, IsStream, IsText, IsTextOfFront, OwesBy}
use Rattle.server_node.specs.Frames.{AreFramesOf}
use Rattle.transport.specs.Spelt.{Spells}
use Rattle.server_node.specs.Steps.{HearsAlike, LineFront, LineTells, SentBy}
use Rattle.server_node.specs.Turns.{IsFramed, IsLine, IsRaw, came_max}
use Rattle.server_node.specs.declared.conn.ConnEnd.{ConnEnd}
use Rattle.server_node.specs.declared.conn.ConnEnd.TheVariants as ends
use Rattle.server_node.specs.declared.line.Line.{Line as Ends}
use Rattle.server_node.specs.declared.line.Line.TheVariants.{Raw, Framed}
use Rattle.server_node.proofs.Answering.{hears_same}
use Rattle.server_node.proofs.Hearing.{tells_same}
use Rattle.server_node.proofs.Spelling.{frames_in, none_spelt}
use Rattle.server_node.proofs.Starting.{begins_heard, packets_fit, rest_fits, starts_on}

-- ---- a piece

still_raw : (wire other came piece : List ℕ) (packets sent : List (List ℕ)) (bytes : List ℕ) → other ≡ wire ++ piece → IsAwaited (wire ++ piece) → IsRaw wire came packets sent bytes
    → IsRaw other (came ++ piece) packets sent bytes
still_raw wire other came piece packets sent bytes same awaited raw = record {
  wire_is = same ∙ ap (λ some. some ++ piece) raw.wire_is;
  awaited = subst (λ some. IsAwaited (some ++ piece)) raw.wire_is awaited;
  none = raw.none;
  unsent = raw.unsent;
  unwritten = raw.unwritten;
}

pub fed_line : (line after : Ends) (came piece : List ℕ) (packets sent : List (List ℕ)) (bytes : List ℕ) → Fed line piece after → IsLine line came packets sent bytes → IsLine after (came ++ piece) packets sent bytes
fed_line (Raw wire) (Raw other) came piece packets sent bytes fed raw = still_raw wire other came piece packets sent bytes fed.0 fed.1 raw
fed_line (Raw wire) (Framed other) came piece packets sent bytes fed raw = record {
  opening = fed.opening;
  rest = fed.rest;
  starts = subst (λ (some : List ℕ). Starts (some ++ piece) fed.opening fed.rest) raw.wire_is fed.starts;
  form = fed.form;
  hears = subst (λ (some : List (List ℕ)). Hears other fed.opening.up some fed.rest) (sym raw.none) fed.hears;
  tells = subst (λ (some : List (List ℕ)). Spells other fed.opening.down some bytes) (sym raw.unsent)
      (subst (λ (some : List ℕ). Spells other fed.opening.down [] some) (sym raw.unwritten) (none_spelt other fed.opening.down fed.tells));
}
fed_line (Framed wire) (Raw other) came piece packets sent bytes fed framed = absurd fed
fed_line (Framed wire) (Framed other) came piece packets sent bytes fed framed = record {
  opening = framed.opening;
  rest = framed.rest ++ piece;
  starts = starts_on came framed.opening framed.rest piece framed.starts;
  form = fed.1.0 ∙ framed.form;
  hears = fed.0 framed.opening.up packets framed.rest framed.hears;
  tells = tells_same wire other framed.opening.down sent bytes fed.1 framed.tells;
}

-- ---- what was sent

pub text_of : (line : Ends) (came : List ℕ) (packets sent : List (List ℕ)) (bytes : List ℕ) → IsLine line came packets sent bytes → IsText came sent bytes
text_of (Raw wire) came packets sent bytes raw = inl (raw.unsent, raw.unwritten)
text_of (Framed wire) came packets sent bytes framed = inr (record {
  opening = framed.opening;
  rest = framed.rest;
  starts = framed.starts;
  frames = subst (λ form. AreFramesOf form framed.opening.down sent bytes) framed.form (frames_in wire framed.opening.down sent bytes framed.tells);
})

-- the form of a line that is known stays
abbrev pub SameForm : Ends → Ends → Type 0
SameForm (Raw wire) after = after ≡ Raw wire
SameForm (Framed wire) (Raw other) = ⊥
SameForm (Framed wire) (Framed other) = other.form ≡ wire.form

pub alike_form : (line after : Ends) → HearsAlike line after → SameForm line after
alike_form (Raw wire) after same = same
alike_form (Framed wire) (Raw other) same = absurd same
alike_form (Framed wire) (Framed other) same = same.0

raw_text : (wire came : List ℕ) (packets sent sent_then : List (List ℕ)) (bytes bytes_then : List ℕ) (after : Ends) → after ≡ Raw wire → IsRaw wire came packets sent bytes
    → ((to : Option CtrState) → LineTells (Raw wire) to sent bytes → LineTells after to sent_then bytes_then)
    → (sent_then ≡ []) × (bytes_then ≡ [])
raw_text wire came packets sent sent_then bytes bytes_then after same raw sends =
    subst (λ (some : Ends). LineTells some None sent_then bytes_then) same (sends None (raw.unsent, raw.unwritten))

pub text_then : (line after : Ends) (came : List ℕ) (packets sent sent_then : List (List ℕ)) (bytes bytes_then : List ℕ) → SameForm line after → IsLine line came packets sent bytes
    → ((to : Option CtrState) → LineTells line to sent bytes → LineTells after to sent_then bytes_then)
    → IsText came sent_then bytes_then
text_then (Raw wire) after came packets sent sent_then bytes bytes_then same raw sends = inl (raw_text wire came packets sent sent_then bytes bytes_then after same raw sends)
text_then (Framed wire) (Raw other) came packets sent sent_then bytes bytes_then same framed sends = absurd same
text_then (Framed wire) (Framed other) came packets sent sent_then bytes bytes_then same framed sends = inr (record {
  opening = framed.opening;
  rest = framed.rest;
  starts = framed.starts;
  frames = subst (λ form. AreFramesOf form framed.opening.down sent_then bytes_then) (same ∙ framed.form)
      (frames_in other framed.opening.down sent_then bytes_then (sends framed.opening.down framed.tells));
})

raw_front : (wire came : List ℕ) (packets sent sent_then : List (List ℕ)) (bytes bytes_then : List ℕ) (after : Ends) → after ≡ Raw wire → IsRaw wire came packets sent bytes
    → ((to : Option CtrState) → LineTells (Raw wire) to sent bytes → LineFront after to sent_then bytes_then)
    → bytes_then ≡ []
raw_front wire came packets sent sent_then bytes bytes_then after same raw sends =
    subst (λ (some : Ends). LineFront some None sent_then bytes_then) same (sends None (raw.unsent, raw.unwritten))

front_then : (line after : Ends) (came : List ℕ) (packets sent sent_then : List (List ℕ)) (bytes bytes_then : List ℕ) → SameForm line after → IsLine line came packets sent bytes
    → ((to : Option CtrState) → LineTells line to sent bytes → LineFront after to sent_then bytes_then)
    → IsTextOfFront came sent_then bytes_then
front_then (Raw wire) after came packets sent sent_then bytes bytes_then same raw sends =
    record { front = []; rest = sent_then; whole = refl; text = inl (refl, raw_front wire came packets sent sent_then bytes bytes_then after same raw sends) }
front_then (Framed wire) (Raw other) came packets sent sent_then bytes bytes_then same framed sends = absurd same
front_then (Framed wire) (Framed other) came packets sent sent_then bytes bytes_then same framed sends =
    let front = sends framed.opening.down framed.tells in
    record {
      front = front.front;
      rest = front.rest;
      whole = front.whole;
      text = inr (record {
        opening = framed.opening;
        rest = framed.rest;
        starts = framed.starts;
        frames = subst (λ form. AreFramesOf form framed.opening.down front.front bytes_then) (same ∙ framed.form) front.frames;
      });
    }

-- what is owed then, by how it ended
pub owes_then : (end : ConnEnd) (line after : Ends) (came : List ℕ) (packets sent sent_then : List (List ℕ)) (bytes bytes_then : List ℕ) → SameForm line after → IsLine line came packets sent bytes
    → ((to : Option CtrState) → LineTells line to sent bytes → SentBy (Some end) after to sent_then bytes_then)
    → OwesBy end came sent_then bytes_then
owes_then ends.Memory = front_then
owes_then ends.Ended = text_then
owes_then ends.LinkFault = text_then
owes_then (ends.Frame fault) = text_then
owes_then ends.Start = text_then
owes_then ends.TurnsSpent = text_then
owes_then ends.Stopped = text_then
owes_then (ends.Journal fault) = text_then

pub owes_text : (end : ConnEnd) (came : List ℕ) (sent : List (List ℕ)) (bytes : List ℕ) → IsText came sent bytes → OwesBy end came sent bytes
owes_text ends.Memory came sent bytes text = record { front = sent; rest = []; whole = sym (append-nil sent); text = text }
owes_text ends.Ended came sent bytes text = text
owes_text ends.LinkFault came sent bytes text = text
owes_text (ends.Frame fault) came sent bytes text = text
owes_text ends.Start came sent bytes text = text
owes_text ends.TurnsSpent came sent bytes text = text
owes_text ends.Stopped came sent bytes text = text
owes_text (ends.Journal fault) came sent bytes text = text

-- the bytes that came behind it change nothing
pub text_on : (came piece : List ℕ) (sent : List (List ℕ)) (bytes : List ℕ) → IsText came sent bytes → IsText (came ++ piece) sent bytes
text_on came piece sent bytes (inl none) = inl none
text_on came piece sent bytes (inr frames) = inr (record {
  opening = frames.opening;
  rest = frames.rest ++ piece;
  starts = starts_on came frames.opening frames.rest piece frames.starts;
  frames = frames.frames;
})

-- a line that hears as it did
pub line_alike : (line after : Ends) (came : List ℕ) (packets sent sent_then : List (List ℕ)) (bytes bytes_then : List ℕ) → HearsAlike line after → IsLine line came packets sent bytes
    → ((to : Option CtrState) → LineTells line to sent bytes → LineTells after to sent_then bytes_then)
    → IsLine after came packets sent_then bytes_then
line_alike (Raw wire) after came packets sent sent_then bytes bytes_then same raw sends =
    let none = raw_text wire came packets sent sent_then bytes bytes_then after same raw sends in
    subst (λ (some : Ends). IsLine some came packets sent_then bytes_then) (sym same) (record { wire_is = raw.wire_is; awaited = raw.awaited; none = raw.none; unsent = none.0; unwritten = none.1 })
line_alike (Framed wire) (Raw other) came packets sent sent_then bytes bytes_then same framed sends = absurd same
line_alike (Framed wire) (Framed other) came packets sent sent_then bytes bytes_then same framed sends = record {
  opening = framed.opening;
  rest = framed.rest;
  starts = framed.starts;
  form = same.0 ∙ framed.form;
  hears = hears_same wire other framed.opening.up packets framed.rest same framed.hears;
  tells = sends framed.opening.down framed.tells;
}

-- ---- packets

-- all of them came: there aren't more of them than bytes
stream_by : (wire wire_then : Line) (opening : Opening) (came rest : List ℕ) (packets heard : List (List ℕ)) → Starts came opening rest → wire.form ≡ opening.form
    → length came ≤ came_max
    → ((left : List ℕ) × Stream (framing_of wire.form) (packets ++ heard) left (through opening.up rest)) ⊎ (length heard ≡ packets_max)
    → Hears wire_then opening.up (packets ++ heard) rest → IsStream came (packets ++ heard)
stream_by wire wire_then opening came rest packets heard starts form few (inl (left, stream)) hears = record {
  opening = opening;
  rest = rest;
  left = left;
  starts = starts;
  stream = subst (λ some. Stream (framing_of some) (packets ++ heard) left (through opening.up rest)) form stream;
}
stream_by wire wire_then opening came rest packets heard starts form few (inr count) hears =
    absurd (omega (arith, packets_fit wire_then opening.up (packets ++ heard) rest hears, length-append packets heard, rest_fits came opening rest starts, few, count))

pub whole_by : (wire wire_then : Line) (came : List ℕ) (packets heard sent : List (List ℕ)) (bytes : List ℕ) → length came ≤ came_max → IsFramed wire came packets sent bytes → HeardAll None wire heard wire_then
    → AreWhole came (packets ++ heard)
whole_by wire wire_then came packets heard sent bytes few framed all =
    let both = all framed.opening.up packets framed.rest framed.hears in
    inr (stream_by wire wire_then framed.opening came framed.rest packets heard framed.starts framed.form few both.0 both.1)

pub faulty_by : (wire wire_then : Line) (came : List ℕ) (packets heard sent : List (List ℕ)) (bytes : List ℕ) (fault : FrameFault) → IsFramed wire came packets sent bytes → HeardAll (Some (ends.Frame fault)) wire heard wire_then
    → IsFaulty came (packets ++ heard) fault
faulty_by wire wire_then came packets heard sent bytes fault framed all = record {
  opening = framed.opening;
  rest = framed.rest;
  starts = framed.starts;
  shown = subst (λ some. Faulty (framing_of some) (packets ++ heard) fault (through framed.opening.up framed.rest)) framed.form (all framed.opening.up packets framed.rest framed.hears);
}

pub first_by : (wire wire_then : Line) (came : List ℕ) (packets heard sent : List (List ℕ)) (bytes : List ℕ) → wire_then.form ≡ wire.form → IsFramed wire came packets sent bytes → HeardAll (Some ends.Stopped) wire heard wire_then
    → AreFirst came (packets ++ heard)
first_by wire wire_then came packets heard sent bytes form framed all = record {
  opening = framed.opening;
  rest = framed.rest;
  starts = framed.starts;
  begins = subst (λ some. Begins (framing_of some) (packets ++ heard) (through framed.opening.up framed.rest)) (form ∙ framed.form)
      (begins_heard wire_then framed.opening.up (packets ++ heard) framed.rest (all framed.opening.up packets framed.rest framed.hears));
}
