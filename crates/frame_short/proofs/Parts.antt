-- The parts of a frame, and how a length field that is cut goes on.
use Rattle.std.proofs.Common.{◌≡◌, ℕ, suc, ◌-◌, ◌*◌, ◌/◌, ◌<◌, ◌≤◌, List, [], ◌∷◌, ◌++◌, length, take, drop, get_or, sym, ap, ap₂, subst, ◌∙◌, arith, inl, inr}
use Rattle.std.specs.Prelude.{slice_range}
use Rattle.std.proofs.lemmas.List.{take-append-drop, take_rest, length-drop}
use Rattle.byteorder.specs.Endian.{little_bytes, little_number}
use Rattle.byteorder.specs.Numbers.{little_from-lt}
use Rattle.octets.specs.Bytes.{IsBytes}
use Rattle.framing.specs.Looks.{IsFrameAt}
use Rattle.framing.specs.Fields.{field-spelled}
use Rattle.frame_short.specs.Abridged.{IsHead, SaysWords, AbridgedSize, abridged}

-- the head of a frame, as its first bytes
head_is : (head words : ℕ) (bytes : List ℕ) → IsBytes bytes → SaysWords head words bytes → IsHead words (take head bytes)
head_is head words [] fits (inl f) = absurd (omega (arith, f.2))
head_is head words [] fits (inr f) = absurd (omega (arith, f.2))
head_is head words (b ∷ bytes) fits (inl f) =
    let e : take head (b ∷ bytes) ≡ words ∷ [] = ap (λ (n : ℕ). take n (b ∷ bytes)) f.0 ∙ ap (λ (x : ℕ). x ∷ []) f.3 in
    inl (f.1, e)
head_is head words (b ∷ bytes) fits (inr f) =
    let enough : 3 ≤ length bytes = omega (arith, f.2) in
    let behind : IsBytes bytes = λ i. fits (suc i) in
    let spelled : take 3 bytes ≡ little_bytes 3 words = sym (field-spelled 3 bytes enough behind) ∙ ap (little_bytes 3) f.3 in
    let e : take head (b ∷ bytes) ≡ 127 ∷ little_bytes 3 words =
    ap (λ (n : ℕ). take n (b ∷ bytes)) f.0 ∙ ap₂ (λ (x : ℕ) (xs : List ℕ). x ∷ xs) f.1 spelled in
    inr e

-- what stands behind the head of a whole frame is its packet
pub frame_at : (bytes : List ℕ) → IsBytes bytes → (f : AbridgedSize (length bytes) bytes) → IsFrameAt abridged 0 bytes (record { start = f.head; end = length bytes })
frame_at bytes fits f =
    let packet = slice_range bytes f.head (length bytes) in
    let is : packet ≡ drop f.head bytes = take_rest bytes f.head in
    let long : length packet ≡ length bytes - f.head = ap length is ∙ length-drop f.head bytes in
    let count : length packet ≡ 4 * f.words = omega (arith, long, f.whole) in
    let words : f.words ≡ length packet / 4 = omega (arith, count) in
    record {
      start = omega (arith, f.whole);
      end = omega arith;
      frame = record {
        payload = record {
          some = omega (arith, count, f.some);
          most = omega (arith, count, f.most);
          words = omega (arith, count);
        };
        head = take f.head bytes;
        says = subst (λ (n : ℕ). IsHead n (take f.head bytes)) words (head_is f.head f.words bytes fits f.says);
        whole = sym (take-append-drop f.head bytes) ∙ ap (λ (xs : List ℕ). take f.head bytes ++ xs) (sym is);
      };
    }

short_start : (head words : ℕ) (bytes : List ℕ) → SaysWords head words bytes → get_or bytes 0 0 < 127 → head ≡ 1
short_start head words bytes (inl f) h = f.0
short_start head words bytes (inr f) h = absurd (omega (arith, f.1))

long_start : (head words : ℕ) (bytes : List ℕ) → SaysWords head words bytes → 127 ≤ get_or bytes 0 0 → head ≡ 4
long_start head words bytes (inl f) h = absurd (omega (arith, f.1, f.3))
long_start head words bytes (inr f) h = f.0

pub short_frame : (i : ℕ) (bytes : List ℕ) → IsBytes bytes → AbridgedSize (length bytes) bytes → get_or bytes 0 0 < 127
    → IsFrameAt abridged i bytes (record { start = 1; end = length bytes })
short_frame i bytes fits f h =
    let at = frame_at bytes fits f in
    subst (λ (n : ℕ). IsFrameAt abridged i bytes (record { start = n; end = length bytes })) (short_start f.head f.words bytes f.says h)
    (record { start = at.start; end = at.end; frame = at.frame })

pub long_frame : (i : ℕ) (bytes : List ℕ) → IsBytes bytes → AbridgedSize (length bytes) bytes → 127 ≤ get_or bytes 0 0
    → IsFrameAt abridged i bytes (record { start = 4; end = length bytes })
long_frame i bytes fits f h =
    let at = frame_at bytes fits f in
    subst (λ (n : ℕ). IsFrameAt abridged i bytes (record { start = n; end = length bytes })) (long_start f.head f.words bytes f.says h)
    (record { start = at.start; end = at.end; frame = at.frame })

bytes_behind : (text : List ℕ) → IsBytes text → IsBytes (drop 1 text)
bytes_behind [] fits i = omega arith
bytes_behind (a ∷ text) fits i = fits (suc i)

-- three bytes are a number below 2 ^ 24
pub read_fits : (text : List ℕ) → IsBytes text → little_number 3 (take (length text - 1) (drop 1 text)) < 16777216
read_fits text fits =
    let P : List ℕ → Type 0 = λ xs. little_number 3 xs < 16777216 in
    subst P (sym (take_rest text 1)) (little_from-lt 0 3 (drop 1 text) (bytes_behind text fits))
