-- Frames that have no number: those of every form but the full one.
use Rattle.std.proofs.Common.{◌≡◌, ◌≢◌, ℕ, ◌+◌, List, [], ◌∷◌, ◌++◌, refl, sym, ap, ◌∙◌, append_assoc, append-nil, inl, inr}
use Rattle.tl_codec.specs.declared.fault.FrameFault.{FrameFault}
use Rattle.framing.specs.Payload.{IsPayload}
use Rattle.framing.specs.Streams.{Frame, Frames, Shows, number_after}
use Rattle.transport.specs.Forms.{framing_of, frame_of}
use Rattle.transport.specs.declared.form.Form.{Form}
use Rattle.transport.specs.declared.form.Form.TheVariants.{Abridged, Intermediate, Padded, Full}
use Rattle.secret_relay.specs.Written.{frames_of}

pub plain_frame : (form : Form) → form ≢ Full → (i j : ℕ) (packet bytes : List ℕ) → Frame (framing_of form) i packet bytes → Frame (framing_of form) j packet bytes
plain_frame Abridged plain i j packet bytes frame = frame
plain_frame Intermediate plain i j packet bytes frame = frame
plain_frame Padded plain i j packet bytes frame = frame
plain_frame Full plain i j packet bytes frame = absurd (plain refl)

pub plain_shows : (form : Form) → form ≢ Full → (i j : ℕ) (fault : FrameFault) (bytes : List ℕ) → Shows (framing_of form) i fault bytes → Shows (framing_of form) j fault bytes
plain_shows Abridged plain i j fault bytes (inl shown) = inl shown
plain_shows Abridged plain i j fault bytes (inr shown) = absurd shown.spoilt
plain_shows Intermediate plain i j fault bytes (inl shown) = inl shown
plain_shows Intermediate plain i j fault bytes (inr shown) = absurd shown.spoilt
plain_shows Padded plain i j fault bytes (inl shown) = inl shown
plain_shows Padded plain i j fault bytes (inr shown) = absurd shown.spoilt
plain_shows Full plain i j fault bytes shown = absurd (plain refl)

pub payload_in : (form : Form) (i : ℕ) (packet bytes : List ℕ) → Frame (framing_of form) i packet bytes → IsPayload packet
payload_in Abridged i packet bytes frame = frame.payload
payload_in Intermediate i packet bytes frame = frame.payload
payload_in Padded i packet bytes frame = frame.payload
payload_in Full i packet bytes frame = frame.payload

plain_frames : (form : Form) → form ≢ Full → (i j : ℕ) (packets : List (List ℕ)) (bytes : List ℕ)
    → Frames (framing_of form) i packets bytes → Frames (framing_of form) j packets bytes
plain_frames form plain i j [] bytes f = f
plain_frames form plain i j (packet ∷ packets) bytes f =
    (f.0, f.1, plain_frame form plain (number_after i) (number_after j) packet f.0 f.2, plain_frames form plain (i + 1) (j + 1) packets f.1 f.3, f.4)

-- frames behind frames
pub frames-append : (form : Form) → form ≢ Full → (i j : ℕ) (packets more : List (List ℕ)) (front back : List ℕ)
    → Frames (framing_of form) i packets front → Frames (framing_of form) j more back → Frames (framing_of form) i (packets ++ more) (front ++ back)
frames-append form plain i j [] more front back f g =
    let only : front ++ back ≡ back = ap (λ (xs : List ℕ). xs ++ back) f in
    let P : List ℕ → Type 0 = λ (xs : List ℕ). Frames (framing_of form) i more xs in
    rw only (plain_frames form plain j i more back g)
frames-append form plain i j (packet ∷ packets) more front back f g =
    let whole : front ++ back ≡ f.0 ++ (f.1 ++ back) = ap (λ (xs : List ℕ). xs ++ back) f.4 ∙ append_assoc f.0 f.1 back in
    (f.0, f.1 ++ back, f.2, frames-append form plain (i + 1) j packets more f.1 back f.3 g, whole)

-- one frame
pub one_frame_of : (form : Form) → form ≢ Full → (i j : ℕ) (packet front : List ℕ) → Frame (framing_of form) i packet front
    → Frames (framing_of form) j (packet ∷ []) front
one_frame_of form plain i j packet front frame = (front, [], plain_frame form plain i (number_after j) packet front frame, refl, sym (append-nil front))

pub frames_of-append : (form : Form) (packets more : List (List ℕ)) → frames_of form (packets ++ more) ≡ frames_of form packets ++ frames_of form more
frames_of-append form [] more = refl
frames_of-append form (packet ∷ packets) more =
    ap (λ (xs : List ℕ). frame_of form 0 packet ++ xs) (frames_of-append form packets more)
    ∙ sym (append_assoc (frame_of form 0 packet) (frames_of form packets) (frames_of form more))

pub frames_of-one : (form : Form) (packet : List ℕ) → frames_of form (packet ∷ []) ≡ frame_of form 0 packet
frames_of-one form packet = append-nil (frame_of form 0 packet)
