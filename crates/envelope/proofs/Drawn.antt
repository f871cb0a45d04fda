-- The padding that is drawn is lawful.
use Rattle.std.proofs.Common.{◌≡◌, ℕ, zero, suc, ◌*◌, length, refl, arith}
use Rattle.std.specs.Int.{to_le_bytes, w64}
use Rattle.std.specs.List.{flat_map}
use Rattle.std.proofs.lemmas.List.{length-append, length-take-le}
use Rattle.byteorder.specs.Numbers.{length-bytes_low_first}
use Rattle.octets.specs.Bytes.{IsBytes}
use Rattle.draws.specs.Draws.{next_bytes, next_words, words_for}
use Rattle.envelope.specs.Packet.{IsPadding, least_padding}
use Rattle.envelope.proofs.Bytes.{bytes-append, bytes-nil, bytes-take, low-bytes}

module _ {S : Type 0} (step : S → ℕ × S) where
  words-bytes : (n : ℕ) (draw : S) → IsBytes (flat_map (to_le_bytes w64) (next_words step n draw))
  words-bytes zero draw = bytes-nil
  words-bytes (suc n) draw =
      bytes-append (to_le_bytes w64 (step draw).0) (flat_map (to_le_bytes w64) (next_words step n (step draw).1)) (low-bytes 0 8 (step draw).0) (words-bytes n (step draw).1)

  words-length : (n : ℕ) (draw : S) → length (flat_map (to_le_bytes w64) (next_words step n draw)) ≡ 8 * n
  words-length zero draw = refl
  words-length (suc n) draw =
      let rest = words-length n (step draw).1 in
      let both = length-append (to_le_bytes w64 (step draw).0) (flat_map (to_le_bytes w64) (next_words step n (step draw).1)) in
      let one = length-bytes_low_first 0 8 (step draw).0 in
      omega (arith, rest, both, one)

  next-length : (n : ℕ) (draw : S) → length (next_bytes step n draw) ≡ n
  next-length n draw =
      let all = words-length (words_for n) draw in
      length-take-le n (flat_map (to_le_bytes w64) (next_words step (words_for n) draw)) (omega (arith, all))

  pub drawn-padding : (body : ℕ) (draw : S) → IsPadding body (next_bytes step (least_padding body) draw)
  drawn-padding body draw =
      let n = least_padding body in
      let same = next-length n draw in
      record {
        least = omega (arith, same);
        most = omega (arith, same);
        bytes = bytes-take n (flat_map (to_le_bytes w64) (next_words step (words_for n) draw)) (words-bytes (words_for n) draw);
        blocks = omega (arith, same);
      }
