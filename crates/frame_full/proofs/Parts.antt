-- The parts of a whole frame whose sum and number are right.
use Rattle.std.proofs.Common.{◌≡◌, ℕ, ◌+◌, ◌-◌, ◌<◌, ◌^◌, List, [], ◌∷◌, ◌++◌, length, take, drop, zero, suc, sym, ap, ap₂, ◌∙◌, arith}
use Rattle.std.proofs.Math.Seq.{take-add}
use Rattle.std.proofs.lemmas.List.{take-append-drop, drop-drop, length-drop, length-take-le, take_rest}
use Rattle.byteorder.specs.Endian.{little_bytes, little_number}
use Rattle.octets.specs.Bytes.{IsBytes}
use Rattle.framing.specs.Looks.{IsFrameAt}
use Rattle.framing.specs.Fields.{field-spelled}
use Rattle.crc_core.specs.Crc32.{crc32}
use Rattle.frame_full.specs.Full.{overhead, body_of, FullSize, sum_in, sum_due, number_in, full}

pub bytes_behind : (n : ℕ) (text : List ℕ) → IsBytes text → IsBytes (drop n text)
bytes_behind zero text fits = fits
bytes_behind (suc n) [] fits = fits
bytes_behind (suc n) (a ∷ text) fits = bytes_behind n text (λ i. fits (suc i))

-- length, number and packet are all before the sum
body_is : (i m : ℕ) (bytes : List ℕ) → IsBytes bytes → length bytes ≡ 8 + m + 4 → length bytes ≡ little_number 4 bytes → number_in bytes ≡ i
    → body_of i (take m (drop 8 bytes)) ≡ take (8 + m) bytes
body_is i m bytes fits count says number =
    let behind : length (drop 8 bytes) ≡ m + 4 = omega (arith, length-drop 8 bytes) in
    let long : length (take m (drop 8 bytes)) ≡ m = length-take-le m (drop 8 bytes) (omega arith) in
    let size : length (take m (drop 8 bytes)) + overhead ≡ little_number 4 bytes = omega arith in
    let first : little_bytes 4 (length (take m (drop 8 bytes)) + overhead) ≡ take 4 bytes =
    ap (little_bytes 4) size ∙ field-spelled 4 bytes (omega arith) fits in
    let second : little_bytes 4 i ≡ take 4 (drop 4 bytes) =
    ap (little_bytes 4) (sym number) ∙ field-spelled 4 (drop 4 bytes) (omega (arith, length-drop 4 bytes)) (bytes_behind 4 bytes fits) in
    let third : take m (drop 8 bytes) ≡ take m (drop 4 (drop 4 bytes)) = ap (take m) (sym (drop-drop 4 4 bytes)) in
    let e : 8 + m ≡ 4 + (4 + m) = omega arith in
    ap₂ (λ (xs ys : List ℕ). xs ++ ys) first
    (ap₂ (λ (xs ys : List ℕ). xs ++ ys) second third ∙ sym (take-add 4 m (drop 4 bytes)))
    ∙ sym (take-add 4 (4 + m) bytes) ∙ ap (λ (n : ℕ). take n bytes) (sym e)

pub full_frame : (i : ℕ) (bytes : List ℕ) → IsBytes bytes → i < 2 ^ 32 → FullSize (length bytes) bytes
    → sum_in bytes ≡ sum_due bytes → number_in bytes ≡ i
    → IsFrameAt full i bytes (record { start = 8; end = length bytes - 4 })
full_frame i bytes fits small f checked number =
    let m = length bytes - 4 - 8 in
    let count : length bytes ≡ 8 + m + 4 = omega (arith, f.least) in
    let at : 8 + m ≡ length bytes - 4 = omega (arith, f.least) in
    let packet = take m (drop 8 bytes) in
    let behind : length (drop 8 bytes) ≡ m + 4 = omega (arith, length-drop 8 bytes) in
    let long : length packet ≡ m = length-take-le m (drop 8 bytes) (omega arith) in
    let body : body_of i packet ≡ take (length bytes - 4) bytes =
    body_is i m bytes fits count f.says number ∙ ap (λ (n : ℕ). take n bytes) at in
    record {
      start = omega (arith, f.least);
      end = omega arith;
      frame = record {
        payload = record {
          some = omega (arith, f.least);
          most = omega (arith, f.most);
          words = omega (arith, f.words);
        };
        number = small;
        sum = drop (length bytes - 4) bytes;
        four = omega (arith, f.least, length-drop (length bytes - 4) bytes);
        checked = checked ∙ ap crc32 (sym body);
        whole = sym (take-append-drop (length bytes - 4) bytes) ∙ ap (λ (xs : List ℕ). xs ++ drop (length bytes - 4) bytes) (sym body);
      };
    }

-- a slice to the end of the bytes
pub to_the_end : (bytes : List ℕ) (n : ℕ) → little_number 4 (take (length bytes - n) (drop n bytes)) ≡ little_number 4 (drop n bytes)
to_the_end bytes n = ap (little_number 4) (take_rest bytes n)
