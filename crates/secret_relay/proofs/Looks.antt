-- From what a form tells of the front of a text to one look, and from looks to what goes on of a text.
use Rattle.std.proofs.Common.{◌≡◌, ◌≢◌, ℕ, ◌+◌, ◌-◌, ◌*◌, ◌<◌, ◌≤◌, List, [], ◌∷◌, ◌++◌, length, min, take, drop, sym, ap, ap₂, subst, ◌∙◌, arith, inl, inr, append_assoc, length-append}
use Rattle.std.specs.Prelude.{slice_range}
use Rattle.std.proofs.lemmas.List.{drop-take, drop-drop, take-take, take-append-drop, take_all, length-take, length-take-le, length-drop}
use Rattle.std.proofs.lemmas.List.Elements.{All-append}
use Rattle.tl_codec.specs.declared.fault.FrameFault.{FrameFault}
use Rattle.framing.specs.declared.form.Span.{Span}
use Rattle.framing.specs.Looks.{IsFrameAt}
use Rattle.framing.specs.Streams.{Frame, IsBegun, IsOutline, Shows}
use Rattle.transport.specs.Forms.{framing_of, frame_of}
use Rattle.transport.specs.Lawful.{lawful}
use Rattle.transport.specs.declared.form.Form.{Form}
use Rattle.transport.specs.declared.form.Form.TheVariants.{Full}
use Rattle.secret_relay.specs.Written.{frames_of, CanGoOut}
use Rattle.secret_relay.specs.Going.{BeginsMisfit, BeginsPacket, HasRoom, Takes}
use Rattle.secret_relay.proofs.Plain.{payload_in, frames-append, frames_of-append, frames_of-one, one_frame_of}
use Rattle.secret_relay.proofs.Every.{all_one}
use Rattle.secret_relay.proofs.Readings.{not_begun}

same_part : (text : List ℕ) (start end size : ℕ) → start ≤ end → end ≤ size → slice_range (take size text) start end ≡ slice_range text start end
same_part text start end size h k =
    let e : size ≡ start + (size - start) = omega arith in
    let le : end - start ≤ size - start = omega arith in
    ap (λ (n : ℕ). take (end - start) (drop start (take n text))) e
    ∙ ap (take (end - start)) (drop-take start (size - start) text)
    ∙ take-take (end - start) (size - start) (drop start text) le

frame_here : (form : Form) (text : List ℕ) (size : ℕ) (span : Span) → size ≤ length text → IsFrameAt (framing_of form) 0 (take size text) span
    → (span.end ≤ size) × Frame (framing_of form) 0 (slice_range text span.start span.end) (take size text)
frame_here form text size span there at =
    let long : length (take size text) ≡ size = length-take-le size text there in
    let end : span.end ≤ size = omega (arith, at.end) in
    (end, subst (λ (p : List ℕ). Frame (framing_of form) 0 p (take size text)) (same_part text span.start span.end size at.start end) at.frame)

-- a whole frame, whose packet can go out or can't
pub packet_here : (from to : Form) (text : List ℕ) (size : ℕ) (span : Span) → size ≤ length text → IsFrameAt (framing_of from) 0 (take size text) span
    → CanGoOut to (slice_range text span.start span.end) → BeginsPacket from to text span.start span.end size
packet_here from to text size span there at goes =
    let frame = frame_here from text size span there at in
    record {
      packet_start = at.start;
      packet_end = frame.0;
      there = there;
      frame = frame.1;
      payload = payload_in from 0 (slice_range text span.start span.end) (take size text) frame.1;
      goes_out = goes;
    }

pub misfit_here : (from to : Form) (text : List ℕ) (size len : ℕ) (span : Span) → size ≤ length text → IsFrameAt (framing_of from) 0 (take size text) span
    → (CanGoOut to (slice_range text span.start span.end) → ⊥) → len ≡ length (slice_range text span.start span.end) → BeginsMisfit from to len text
misfit_here from to text size len span there at not is =
    let frame = frame_here from text size span there at in
    record {
      packet = slice_range text span.start span.end;
      front = take size text;
      back = drop size text;
      frame = frame.1;
      whole = sym (take-append-drop size text);
      misfit = not;
      size = is;
    }

pub outline_of : (form : Form) (text : List ℕ) (size : ℕ) → (framing_of form).sized size text → size ≤ length text → IsOutline (framing_of form) (take size text)
outline_of form text size h there =
    subst (λ (n : ℕ). (framing_of form).sized n (take size text)) (sym (length-take-le size text there)) ((lawful form).within size text h there)

pub spoilt_front : (form : Form) (i : ℕ) (text : List ℕ) (size : ℕ) (fault : FrameFault) → (framing_of form).sized size text → size ≤ length text
    → (framing_of form).spoilt i fault (take size text) → Shows (framing_of form) i fault text
spoilt_front form i text size fault h there spoilt = inr (record {
  front = take size text;
  rest = drop size text;
  outline = outline_of form text size h there;
  spoilt = spoilt;
  whole = sym (take-append-drop size text);
})

-- ---- one packet after the other

pub takes_one : (from to : Form) → from ≢ Full → (packets : List (List ℕ)) (text left : List ℕ) (start end size : ℕ)
    → Takes from to packets text left → BeginsPacket from to left start end size
    → Takes from to (packets ++ slice_range left start end ∷ []) text (drop size left)
takes_one from to plain packets text left start end size t b = record {
  frames = t.frames ++ take size left;
  each = frames-append from plain 0 0 packets (slice_range left start end ∷ []) t.frames (take size left) t.each
      (one_frame_of from plain 0 0 (slice_range left start end) (take size left) b.frame);
  whole = t.whole ∙ ap (λ (l : List ℕ). t.frames ++ l) (sym (take-append-drop size left)) ∙ sym (append_assoc t.frames (take size left) (drop size left));
  go_out = All-append (CanGoOut to) packets (slice_range left start end ∷ []) t.go_out (all_one (CanGoOut to) (slice_range left start end) b.goes_out);
}

-- what is left from a place on, and a packet in it, as slices have them
pub rest_is : (text : List ℕ) (at : ℕ) → take (length text - at) (drop at text) ≡ drop at text
rest_is text at =
    let long : length (drop at text) ≤ length text - at = omega (arith, length-drop at text) in
    take_all (length text - at) (drop at text) long

pub lent_is : (text : List ℕ) (at start end : ℕ) → take (at + end - (at + start)) (drop (at + start) text) ≡ slice_range (drop at text) start end
lent_is text at start end =
    let count : at + end - (at + start) ≡ end - start = omega arith in
    ap (λ (n : ℕ). take n (drop (at + start) text)) count ∙ ap (take (end - start)) (sym (drop-drop start at text))

-- the text is frames of packets, each of which was written, and what is left
pub record SoFar (from to : Form) (text left old new : List ℕ) : Type 0 where
  pub packets : List (List ℕ)
  pub takes : Takes from to packets text left
  pub written : new ≡ old ++ frames_of to packets

pub one_more : (from to : Form) → from ≢ Full → (text : List ℕ) (taken start end size : ℕ) (rest packet old before after : List ℕ)
    → rest ≡ drop taken text → packet ≡ slice_range rest start end
    → SoFar from to text (drop taken text) old before → BeginsPacket from to rest start end size → after ≡ before ++ frame_of to 0 packet
    → SoFar from to text (drop (taken + size) text) old after
one_more from to plain text taken start end size rest packet old before after is packet_is so_far begins written =
    let takes = takes_one from to plain so_far.packets text rest start end size
    (subst (λ (l : List ℕ). Takes from to so_far.packets text l) (sym is) so_far.takes) begins in
    let left : drop size rest ≡ drop (taken + size) text = ap (drop size) is ∙ drop-drop size taken text in
    let p : List ℕ = slice_range rest start end in
    record {
      packets = so_far.packets ++ p ∷ [];
      takes = subst (λ (l : List ℕ). Takes from to (so_far.packets ++ p ∷ []) text l) left takes;
      written =
          written ∙ ap₂ (λ (l k : List ℕ). l ++ frame_of to 0 k) so_far.written packet_is
          ∙ append_assoc old (frames_of to so_far.packets) (frame_of to 0 p)
          ∙ ap (λ (l : List ℕ). old ++ l)
          (ap (λ (l : List ℕ). frames_of to so_far.packets ++ l) (sym (frames_of-one to p)) ∙ sym (frames_of-append to so_far.packets (p ∷ [])));
    }

-- ---- room

-- the frame that the first bytes begin isn't whole yet, whatever follows them
pub begun_on : (form : Form) (text tail : List ℕ) (known size : ℕ) → (framing_of form).sized size (take known text) → known ≤ length text
    → known + length tail ≡ length text → length text < size → IsBegun (framing_of form) (take known text ++ tail)
begun_on form text tail known size sized within same short =
    let front : length (take known text) ≡ known = length-take-le known text within in
    let whole : length (take known text ++ tail) ≡ length (take known text) + length tail = length-append (take known text) tail in
    let less : length (take known text ++ tail) < size = omega arith in
    inr (record { size = size; sized = (lawful form).sized_on size (take known text) tail sized; short = less })

-- a text that begins with a packet has room for it
pub room_there : (from to : Form) (rest : List ℕ) (start end size room : ℕ) → BeginsPacket from to rest start end size → HasRoom from rest room
    → 2 * length rest ≤ room
room_there from to rest start end size room begins (inl begun) =
    absurd (not_begun (framing_of from) (lawful from) 0 (slice_range rest start end) (take size rest) (drop size rest) rest begins.frame
    (take-append-drop size rest) begun)
room_there from to rest start end size room begins (inr enough) = enough

-- a frame has twice the room that its packet takes in another form
pub room_now : (from to : Form) (rest packet : List ℕ) (start end size room : ℕ) → packet ≡ slice_range rest start end
    → BeginsPacket from to rest start end size → HasRoom from rest room → 4 + length packet ≤ room
room_now from to rest packet start end size room packet_is begins has =
    let enough : 2 * length rest ≤ room = room_there from to rest start end size room begins has in
    let slice : List ℕ = slice_range rest start end in
    let least : 4 ≤ length slice = begins.payload.some in
    let most : length slice ≡ min (end - start) (length (drop start rest)) = length-take (end - start) (drop start rest) in
    let same : length packet ≡ length slice = ap length packet_is in
    let there : size ≤ length rest = begins.there in
    let inner : end ≤ size = begins.packet_end in
    omega (arith, least, most, same, there, inner, enough)

pub room_left : (from to : Form) (text : List ℕ) (taken start end size room after : ℕ) (rest packet : List ℕ)
    → rest ≡ drop taken text → packet ≡ slice_range rest start end → taken ≤ length text → BeginsPacket from to rest start end size
    → HasRoom from rest room → room ≤ after + (4 + length packet)
    → (taken + size ≤ length text) × HasRoom from (drop (taken + size) text) after
room_left from to text taken start end size room after rest packet is packet_is within begins has used =
    let enough : 2 * length rest ≤ room = room_there from to rest start end size room begins has in
    let long : length rest ≡ length text - taken = ap length is ∙ length-drop taken text in
    let slice : List ℕ = slice_range rest start end in
    let least : 4 ≤ length slice = begins.payload.some in
    let most : length slice ≡ min (end - start) (length (drop start rest)) = length-take (end - start) (drop start rest) in
    let same : length packet ≡ length slice = ap length packet_is in
    let there : size ≤ length rest = begins.there in
    let inner : end ≤ size = begins.packet_end in
    let left : length (drop (taken + size) text) ≡ length text - (taken + size) = length-drop (taken + size) text in
    (omega (arith, long, there, within), inr (omega (arith, long, least, most, same, there, inner, within, enough, used, left)))
