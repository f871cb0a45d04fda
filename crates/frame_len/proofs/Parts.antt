-- The parts of a frame whose length is right.
use Rattle.std.proofs.Common.{◌≡◌, ℕ, ◌+◌, ◌-◌, ◌%◌, ◌≤◌, Bool, true, false, List, ◌++◌, length, take, drop, sym, ap, ap₂, subst, ◌∙◌, arith}
use Rattle.std.proofs.lemmas.List.{take-append-drop, length-drop, length-take-le, take_all}
use Rattle.byteorder.specs.Endian.{little_bytes, little_number}
use Rattle.octets.specs.Bytes.{IsBytes}
use Rattle.framing.specs.Looks.{IsFrameAt}
use Rattle.framing.specs.Fields.{field-spelled}
use Rattle.framing.specs.Payload.{payload_max}
use Rattle.frame_len.specs.Lengths.{IsBad, IsPaddedSize, length_max, padding_max, padded_payload, payload_of, LenFrame, LenSize, form_of}

-- a length that is right has a payload
payload_there : (padded : Bool) (len : ℕ) → len ≤ length_max padded → (IsBad padded len → ⊥)
    → (4 ≤ payload_of padded len) × (payload_of padded len ≤ len) × (payload_of padded len ≤ payload_max) × (payload_of padded len % 4 ≡ 0)
payload_there false len most good =
    let words : len % 4 ≡ 0 = grind (arith, good) in
    let some : 4 ≤ len = grind (arith, good, words) in
    (some, omega arith, most, words)
payload_there true len most good =
    let some : 4 ≤ len = grind (arith, good) in
    (grind arith, grind (arith, some), grind (arith, most), grind arith)

-- in the padded form one of its own, and little is left behind it
padded_there : (len : ℕ) → 4 ≤ len
    → IsPaddedSize (padded_payload len) × (len - padded_payload len ≤ padding_max (padded_payload len))
padded_there len some = grind arith

module _ (bytes : List ℕ) (fits : IsBytes bytes) (len : ℕ) (there : 4 ≤ length bytes) (is : len ≡ little_number 4 bytes) (whole : length bytes ≡ 4 + len) where
  head_is : bytes ≡ little_bytes 4 len ++ drop 4 bytes
  head_is =
      sym (take-append-drop 4 bytes)
      ∙ ap (λ (xs : List ℕ). xs ++ drop 4 bytes) (sym (ap (little_bytes 4) is ∙ field-spelled 4 bytes there fits))

  -- the payload and what is left behind it
  parts_are : (n : ℕ) → n ≤ len
      → (bytes ≡ little_bytes 4 (length (take n (drop 4 bytes)) + length (drop n (drop 4 bytes))) ++ (take n (drop 4 bytes) ++ drop n (drop 4 bytes)))
      × (length (take n (drop 4 bytes)) ≡ n) × (length (drop n (drop 4 bytes)) ≡ len - n)
  parts_are n le =
      let behind : length (drop 4 bytes) ≡ len = omega (arith, length-drop 4 bytes) in
      let front : length (take n (drop 4 bytes)) ≡ n = length-take-le n (drop 4 bytes) (omega arith) in
      let back : length (drop n (drop 4 bytes)) ≡ len - n = omega (arith, length-drop n (drop 4 bytes)) in
      let all : len ≡ length (take n (drop 4 bytes)) + length (drop n (drop 4 bytes)) = omega arith in
      (head_is ∙ ap₂ (λ (k : ℕ) (xs : List ℕ). little_bytes 4 k ++ xs) all (sym (take-append-drop n (drop 4 bytes))), front, back)

pub packet_there : (padded : Bool) (bytes : List ℕ) → IsBytes bytes → (f : LenSize padded (length bytes) bytes)
    → LenFrame padded (take (payload_of padded f.len) (drop 4 bytes)) bytes
packet_there false bytes fits f =
    let there = payload_there false f.len f.most f.good in
    let behind : length (drop 4 bytes) ≡ f.len = omega (arith, f.whole, length-drop 4 bytes) in
    let all : take f.len (drop 4 bytes) ≡ drop 4 bytes = take_all f.len (drop 4 bytes) (omega arith) in
    let long : length (take f.len (drop 4 bytes)) ≡ f.len = ap length all ∙ behind in
    record {
      payload = record {
        some = omega (arith, there.0, long);
        most = omega (arith, there.2, long);
        words = omega (arith, there.3, long);
      };
      whole = head_is bytes fits f.len f.says.there f.says.is f.whole ∙ ap₂ (λ (k : ℕ) (xs : List ℕ). little_bytes 4 k ++ xs) (sym long) (sym all);
    }
packet_there true bytes fits f =
    let there = payload_there true f.len f.most f.good in
    let kind = padded_there f.len (omega (arith, there.0, there.1)) in
    let parts = parts_are bytes fits f.len f.says.there f.says.is f.whole (padded_payload f.len) there.1 in
    record {
      payload = record {
        some = omega (arith, there.0, parts.1);
        most = omega (arith, there.2, parts.1);
        words = omega (arith, there.3, parts.1);
      };
      size = subst IsPaddedSize (sym parts.1) kind.0;
      padding = drop (padded_payload f.len) (drop 4 bytes);
      few = subst (λ (n : ℕ). length (drop (padded_payload f.len) (drop 4 bytes)) ≤ padding_max n) (sym parts.1) (omega (arith, parts.2, kind.1));
      whole = parts.0;
    }

-- what stands behind the length is a packet, and maybe padding
pub frame_at : (padded : Bool) (i : ℕ) (bytes : List ℕ) → IsBytes bytes → (f : LenSize padded (length bytes) bytes) (n : ℕ) → n ≡ payload_of padded (length bytes - 4)
    → IsFrameAt (form_of padded) i bytes (record { start = 4; end = 4 + n })
frame_at padded i bytes fits f n e =
    let len : length bytes - 4 ≡ f.len = omega (arith, f.whole) in
    let is : n ≡ payload_of padded f.len = e ∙ ap (payload_of padded) len in
    let there = payload_there padded f.len f.most f.good in
    let size : 4 + n - 4 ≡ payload_of padded f.len = omega arith in
    record {
      start = omega arith;
      end = omega (arith, is, there.1, f.whole);
      frame = subst (λ (k : ℕ). LenFrame padded (take k (drop 4 bytes)) bytes) (sym size) (packet_there padded bytes fits f);
    }
