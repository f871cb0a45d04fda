-- A wire that tells packets tells one more.
use Rattle.std.proofs.Common.{◌≡◌, ℕ, suc, ◌+◌, ◌^◌, ◌<◌, List, [], ◌∷◌, ◌++◌, length, refl, sym, ap, subst, ◌∙◌, arith, length-append, Option, None, Some, true, false, Bool}
use Rattle.cipher_modes.specs.CounterMode.{CtrState, applied, xor_stream}
use Rattle.framing.specs.Payload.{IsPayload}
use Rattle.framing.specs.Streams.{Frame, Frames, number_after}
use Rattle.frame_short.specs.Abridged as short
use Rattle.frame_len.specs.Lengths as len
use Rattle.frame_full.specs.Full as full
use Rattle.transport.specs.Forms.{framing_of, frame_of, next_number, IsSent}
use Rattle.transport.specs.Directions.{through, behind}
use Rattle.transport.specs.Wires.{Line, Tells, IsNumbered}
use Rattle.transport.specs.declared.form.Form.{Form}
use Rattle.transport.specs.declared.form.Form.TheVariants.{Abridged, Intermediate, Padded, Full}
use Rattle.transport.proofs.Hearing.{PiecesEqualTheWhole, through-append, behind-add}

length-xor_stream : (stream : ℕ → ℕ) (k : ℕ) (xs : List ℕ) → length (xor_stream stream k xs) ≡ length xs
length-xor_stream stream k [] = refl
length-xor_stream stream k (x ∷ xs) = ap suc (length-xor_stream stream (k + 1) xs)

length-through : (stream : Option CtrState) (text : List ℕ) → length (through stream text) ≡ length text
length-through None text = refl
length-through (Some s) text = length-xor_stream _ _ text

through-twice : ((stream : CtrState) (text : List ℕ) → applied stream (applied stream text) ≡ text)
    → (stream : Option CtrState) (text : List ℕ) → through stream (through stream text) ≡ text
through-twice undone None text = refl
through-twice undone (Some s) text = undone s text

-- what the crates below promise
pub record TellLaws : Type 0 where
  pub pieces : PiecesEqualTheWhole
  pub undone : (stream : CtrState) (text : List ℕ) → applied stream (applied stream text) ≡ text
  pub short : (i : ℕ) (packet : List ℕ) → IsPayload packet → Frame short.abridged i packet (short.frame_of packet)
  pub len : (padded : Bool) (i : ℕ) (packet : List ℕ) → len.IsWritten padded packet → Frame (len.form_of padded) i packet (len.frame_of packet)
  pub full : (i : ℕ) (packet : List ℕ) → i < 2 ^ 32 → IsPayload packet → Frame full.full i packet (full.frame_of i packet)
  pub next : (packets : List (List ℕ)) (packet : List ℕ)
      → number_after (number_after (length packets) + 1) ≡ number_after (length (packets ++ packet ∷ []))
  pub frame : (form : Form) (packets : List (List ℕ)) (packet frames front : List ℕ)
      → Frames (framing_of form) 0 packets frames → Frame (framing_of form) (number_after (length packets)) packet front
      → Frames (framing_of form) 0 (packets ++ packet ∷ []) (frames ++ front)

framed : TellLaws → (form : Form) (number count : ℕ) (packet : List ℕ) → IsSent form packet → IsNumbered form number count
    → Frame (framing_of form) (number_after count) packet (frame_of form number packet)
framed laws Abridged number count packet sent is = laws.short (number_after count) packet sent.fits
framed laws Intermediate number count packet sent is = laws.len false (number_after count) packet sent
framed laws Padded number count packet sent is = laws.len true (number_after count) packet sent
framed laws Full number count packet sent is =
    subst (λ (n : ℕ). Frame full.full (number_after count) packet (full.frame_of n packet)) (sym is)
    (laws.full (number_after count) packet (omega arith) sent.fits)

numbered : TellLaws → (form : Form) (number : ℕ) (packets : List (List ℕ)) (packet : List ℕ) → IsNumbered form number (length packets)
    → IsNumbered form (next_number form number) (length (packets ++ packet ∷ []))
numbered laws Abridged number packets packet is = tt
numbered laws Intermediate number packets packet is = tt
numbered laws Padded number packets packet is = tt
numbered laws Full number packets packet is = ap (λ (n : ℕ). number_after (n + 1)) is ∙ laws.next packets packet

pub told : TellLaws → (old new : Line) (packet : List ℕ) → IsSent old.form packet → new.form ≡ old.form
    → new.number ≡ next_number old.form old.number → new.writing ≡ behind old.writing (length (frame_of old.form old.number packet))
    → (to : Option CtrState) (packets : List (List ℕ)) (bytes : List ℕ) → Tells old to packets bytes
    → Tells new to (packets ++ packet ∷ []) (bytes ++ through old.writing (frame_of old.form old.number packet))
told laws old new packet sent form number writing to packets bytes tells =
    let front : List ℕ = frame_of old.form old.number packet in
    let more : List ℕ = bytes ++ through old.writing front in
    let whole = packets ++ packet ∷ [] in
    let text : through to more ≡ through to bytes ++ front =
    through-append laws.pieces to bytes (through old.writing front)
    ∙ ap (λ (s : Option CtrState). through to bytes ++ through s (through old.writing front)) (sym tells.place)
    ∙ ap (λ (l : List ℕ). through to bytes ++ l) (through-twice laws.undone old.writing front) in
    let frames = laws.frame old.form packets packet (through to bytes) front tells.frames
    (framed laws old.form old.number (length packets) packet sent tells.number) in
    let size : length bytes + length front ≡ length more =
    omega (arith, length-append bytes (through old.writing front), length-through old.writing front) in
    record {
      frames = subst (λ (f : Form). Frames (framing_of f) 0 whole (through to more)) (sym form)
          (subst (λ (t : List ℕ). Frames (framing_of old.form) 0 whole t) (sym text) frames);
      number = subst (λ (f : Form). IsNumbered f new.number (length whole)) (sym form)
          (subst (λ (n : ℕ). IsNumbered old.form n (length whole)) (sym number) (numbered laws old.form old.number packets packet tells.number));
      place = writing ∙ ap (λ (s : Option CtrState). behind s (length front)) tells.place ∙ behind-add to (length bytes) (length front)
          ∙ ap (λ (n : ℕ). behind to n) size;
    }
