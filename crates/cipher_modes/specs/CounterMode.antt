-- Counter mode (NIST SP 800-38A, 6.5): a text is xored with a key stream, which is the counter
-- blocks enciphered. The counter blocks are those of the standard's incrementing function over all
-- 128 bits (appendix B.1): the initialisation vector as a big-endian number, plus 0, 1, 2 .., modulo
-- 2^128.
use Rattle.std.specs.Prelude.{ℕ, ◌+◌, ◌/◌, ◌%◌, ◌^◌, List, [], ◌∷◌, ◌++◌, length, bit_xor, slice_index}
use Rattle.std.specs.Int.{w128, from_be_bytes, to_be_bytes}
use Rattle.aes_core.specs.Cipher.{aes}

-- counter block i, counted from 0
unfoldable pub counter_block : List ℕ → ℕ → List ℕ
counter_block iv i = to_be_bytes w128 ((from_be_bytes w128 iv + i) % 2 ^ 128)

-- byte k of the key stream, counted from 0
unfoldable pub ctr_stream : List ℕ → List ℕ → ℕ → ℕ
ctr_stream key iv k = slice_index (aes key (counter_block iv (k / 16))) (k % 16)

-- a text xored with a stream, from place k of the stream on
abbrev pub xor_stream : (ℕ → ℕ) → ℕ → List ℕ → List ℕ
xor_stream stream k [] = []
xor_stream stream k (x ∷ xs) = bit_xor x (stream k) ∷ xor_stream stream (k + 1) xs

-- a key stream and the place in it where the next text begins, in bytes; the stream repeats after
-- 2^132 bytes, so the place is counted modulo that
pub record CtrState : Type 0 where
  pub key : List ℕ
  pub iv : List ℕ
  pub place : ℕ

-- a text xored with the stream from where it stands
abbrev pub applied : CtrState → List ℕ → List ℕ
applied s text = xor_stream (ctr_stream s.key s.iv) s.place text

-- the stream n bytes on
abbrev pub advanced : CtrState → ℕ → CtrState
advanced s n = record s { place = (s.place + n) % 2 ^ 132 }

-- pieces of text, each from where the piece before it left the stream
abbrev pub applied_in_turn : CtrState → List (List ℕ) → List ℕ
applied_in_turn s [] = []
applied_in_turn s (piece ∷ pieces) =
    applied s piece ++ applied_in_turn (advanced s (length piece)) pieces
