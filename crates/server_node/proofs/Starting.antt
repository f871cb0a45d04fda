-- The bytes that come behind a start, and how many packets they may be.
use Rattle.std.proofs.Common.{◌≡◌, ◌≤◌, ◌<◌, ◌+◌, ℕ, suc, true, List, [], ◌∷◌, ◌++◌, length, take, drop, append_assoc, length-append, length-drop, inl, inr, None, Some, Option, refl, sym, subst, ap, ap₂, ◌∙◌, arith}
use Rattle.std.specs.Prelude.{◌||◌, Bool, MatchOption, nat_eq, replicate}
use Rattle.std.specs.List.{starts_with}
use Rattle.std.proofs.lemmas.List.{drop-append-le, take-append-drop, take-append-le}
use lib.Pointwise.{pointwise, pointwise_long}
use Rattle.cipher_modes.specs.CounterMode.{CtrState, xor_stream}
use Rattle.framing.specs.Holding.{IsBehind}
use Rattle.framing.specs.Streams.{Begins, Faulty, Form, Frame, Frames}
use Rattle.obfus.specs.Starts.{abridged_start, begins_full, begins_plain, intermediate_start, padded_start}
use Rattle.server_core.specs.Desks.{frame_bytes_max}
use Rattle.tl_codec.specs.declared.fault.FrameFault.{FrameFault}
use Rattle.transport.specs.Directions.{through}
use Rattle.transport.specs.Forms.{framing_of}
use Rattle.transport.specs.Lawful.{lawful}
use Rattle.transport.specs.Starts.{IsTold, Opening, Starts, start_of}
use Rattle.transport.specs.Wires.{Hears, Line}
use Rattle.transport.specs.declared.form.Form as forms_of
use Rattle.transport.specs.declared.form.Form.TheVariants as forms

-- ---- a start, with more behind it

same_word : (n : ℕ) (word bytes more : List ℕ) → n ≡ length word → n ≤ length bytes → starts_with nat_eq (bytes ++ more) word ≡ starts_with nat_eq bytes word
same_word n word bytes more is long = ap (λ (l : List ℕ). pointwise nat_eq word l) (take-append-le (length word) bytes more (omega (arith, is, long)))

same_full : (bytes more : List ℕ) → 8 ≤ length bytes → begins_full (bytes ++ more) ≡ begins_full bytes
same_full bytes more long =
    ap (λ (l : List ℕ). starts_with nat_eq l (replicate 4 0)) (drop-append-le 4 bytes more (omega arith))
    ∙ same_word 4 (replicate 4 0) (drop 4 bytes) more refl (omega (arith, length-drop 4 bytes))

same_plain : (bytes more : List ℕ) → 8 ≤ length bytes → begins_plain (bytes ++ more) ≡ begins_plain bytes
same_plain bytes more long =
    ap₂ (λ (x y : Bool). x || y)
    (ap₂ (λ (x y : Bool). x || y)
    (ap₂ (λ (x y : Bool). x || y) (same_word 1 abridged_start bytes more refl (omega arith)) (same_word 4 intermediate_start bytes more refl (omega arith)))
    (same_word 4 padded_start bytes more refl (omega arith)))
    (same_full bytes more long)

full_long : (bytes : List ℕ) → begins_full bytes ≡ true → 8 ≤ length bytes
full_long bytes is =
    let tail : List ℕ = drop 4 bytes in
    let four = pointwise_long nat_eq (replicate 4 0) (take 4 tail) is in
    let whole : length tail ≡ length (take 4 tail) + length (drop 4 tail) =
    sym (ap length (take-append-drop 4 tail)) ∙ length-append (take 4 tail) (drop 4 tail) in
    omega (arith, four, whole, length-drop 4 bytes)

told_on : (form : forms_of.Form) (bytes more : List ℕ) → IsTold form bytes → IsTold form (bytes ++ more)
told_on forms.Abridged bytes more told = tt
told_on forms.Intermediate bytes more told = tt
told_on forms.Padded bytes more told = tt
told_on forms.Full bytes more told =
    let long = full_long bytes told.numbered in
    record {
      numbered = same_full bytes more long ∙ told.numbered;
      not_abridged = same_word 1 abridged_start bytes more refl (omega arith) ∙ told.not_abridged;
      not_intermediate = same_word 4 intermediate_start bytes more refl (omega arith) ∙ told.not_intermediate;
      not_padded = same_word 4 padded_start bytes more refl (omega arith) ∙ told.not_padded;
    }

pub starts_on : (bytes : List ℕ) (opening : Opening) (rest more : List ℕ) → Starts bytes opening rest → Starts (bytes ++ more) opening (rest ++ more)
starts_on bytes opening rest more (inl s) =
    inl (record {
      form = s.form;
      whole = ap (λ (l : List ℕ). l ++ more) s.whole ∙ append_assoc (start_of s.form) rest more;
      told = told_on s.form bytes more s.told;
      opens = s.opens;
    })
starts_on bytes opening rest more (inr s) =
    inr (record {
      wire = s.wire;
      pair = s.pair;
      size = s.size;
      whole = ap (λ (l : List ℕ). l ++ more) s.whole ∙ append_assoc s.wire rest more;
      not_plain = same_plain bytes more (omega (arith, ap length s.whole, length-append s.wire rest, s.size)) ∙ s.not_plain;
      reads = s.reads;
      opens = s.opens;
    })

-- what is behind a start is no longer than all
pub rest_fits : (bytes : List ℕ) (opening : Opening) (rest : List ℕ) → Starts bytes opening rest → length rest ≤ length bytes
rest_fits bytes opening rest (inl s) = omega (arith, ap length s.whole, length-append (start_of s.form) rest)
rest_fits bytes opening rest (inr s) = omega (arith, ap length s.whole, length-append s.wire rest)

-- ---- frames have bytes

length_xored : (stream : ℕ → ℕ) (k : ℕ) (text : List ℕ) → length (xor_stream stream k text) ≡ length text
length_xored stream k [] = refl
length_xored stream k (x ∷ xs) = ap suc (length_xored stream (k + 1) xs)

length_through : (stream : Option CtrState) (text : List ℕ) → length (through stream text) ≡ length text
length_through None text = refl
length_through (Some s) text = length_xored _ _ text

some_bytes : (form : forms_of.Form) (i : ℕ) (packet bytes : List ℕ) → Frame (framing_of form) i packet bytes → 0 < length bytes
some_bytes form i packet bytes frame = (lawful form).some (length bytes) bytes ((lawful form).outlined i packet bytes frame)

frames_fit : (form : forms_of.Form) (count : ℕ) (packets : List (List ℕ)) (bytes : List ℕ) → Frames (framing_of form) count packets bytes → length packets ≤ length bytes
frames_fit form count [] bytes frames = omega arith
frames_fit form count (packet ∷ packets) bytes (front, back, frame, frames, whole) =
    omega (arith, some_bytes form _ packet front frame, frames_fit form (count + 1) packets back frames, ap length whole, length-append front back)

pub begins_by : (form : Form) (fault : Option FrameFault) (packets : List (List ℕ)) (left bytes : List ℕ)
    → MatchOption fault (IsBehind form packets left bytes) (λ fault. Faulty form packets fault bytes) → Begins form packets bytes
begins_by form None packets left bytes stands = record { frames = stands.frames; rest = left; each = stands.each; whole = stands.whole }
begins_by form (Some fault) packets left bytes stands = record { frames = stands.frames; rest = stands.rest; each = stands.each; whole = stands.whole }

pub begins_heard : (wire : Line) (from : Option CtrState) (packets : List (List ℕ)) (bytes : List ℕ) → Hears wire from packets bytes → Begins (framing_of wire.form) packets (through from bytes)
begins_heard wire from packets bytes hears = begins_by (framing_of wire.form) wire.held.fault packets wire.held.left (through from bytes) hears.stands.text

-- there are no more packets than bytes
pub packets_fit : (wire : Line) (from : Option CtrState) (packets : List (List ℕ)) (bytes : List ℕ) → Hears wire from packets bytes → length packets ≤ length bytes
packets_fit wire from packets bytes hears =
    let begins = begins_heard wire from packets bytes hears in
    omega (arith, frames_fit wire.form 0 packets begins.frames begins.each, ap length begins.whole, length-append begins.frames begins.rest, length_through from bytes)

-- ---- a packet of a frame is short

payload_fits : (form : forms_of.Form) (i : ℕ) (packet bytes : List ℕ) → Frame (framing_of form) i packet bytes → length packet ≤ frame_bytes_max
payload_fits forms.Abridged i packet bytes frame = frame.payload.most
payload_fits forms.Intermediate i packet bytes frame = frame.payload.most
payload_fits forms.Padded i packet bytes frame = frame.payload.most
payload_fits forms.Full i packet bytes frame = frame.payload.most

last_short : (form : forms_of.Form) (count : ℕ) (earlier : List (List ℕ)) (packet bytes : List ℕ) → Frames (framing_of form) count (earlier ++ packet ∷ []) bytes → length packet ≤ frame_bytes_max
last_short form count [] packet bytes (front, back, frame, frames, whole) = payload_fits form _ packet front frame
last_short form count (one ∷ earlier) packet bytes (front, back, frame, frames, whole) = last_short form (count + 1) earlier packet back frames

-- and so is one that comes behind others
pub begun_short : (form : forms_of.Form) (earlier packets : List (List ℕ)) (packet bytes : List ℕ) → Begins (framing_of form) (earlier ++ (packets ++ packet ∷ [])) bytes → length packet ≤ frame_bytes_max
begun_short form earlier packets packet bytes begins =
    last_short form 0 (earlier ++ packets) packet begins.frames
    (subst (λ (all : List (List ℕ)). Frames (framing_of form) 0 all begins.frames) (sym (append_assoc earlier packets (packet ∷ []))) begins.each)
