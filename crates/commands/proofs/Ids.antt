-- Identifiers as hexadecimal digits.
use Rattle.std.proofs.Common.{◌≡◌, ◌∙◌, ℕ, zero, suc, ◌<◌, ◌^◌, List, Result, Ok, Err, MatchResult, ap, refl, subst, arith}
use Rattle.std.specs.Int.{w64, byte_at, bytes_low_first, to_le_bytes, from_le_bytes}
use Rattle.std.proofs.lemmas.Nat.{from_le_bytes-to_le_bytes_8}
use Rattle.hex.specs.Hex.{IsBytes, decode_sized, encode_lower}
use Rattle.hex.specs.declared.error.FromHexError.{FromHexError}
use Rattle.hex.proofs.HexLemmas.{decode_sized-encode_lower}
use Rattle.commands.specs.Values.{id_text}

byte_at-lt : (i x : ℕ) → byte_at i x < 256
byte_at-lt zero x = omega arith
byte_at-lt (suc i) x = omega arith

IsBytes-low_first : (i n x : ℕ) → IsBytes (bytes_low_first i n x)
IsBytes-low_first i zero x k = omega arith
IsBytes-low_first i (suc n) x zero = byte_at-lt i x
IsBytes-low_first i (suc n) x (suc k) = IsBytes-low_first (suc i) n x k

-- the digits of an identifier are read as its bytes
pub decoded : (text : List ℕ) (id : ℕ) → text ≡ id_text id → decode_sized text 8 ≡ Ok (to_le_bytes w64 id)
unfolding id_text
decoded text id e = ap (λ t. decode_sized t 8) e ∙ decode_sized-encode_lower (to_le_bytes w64 id) 8 refl (IsBytes-low_first 0 8 id)

-- what was read of them gives the identifier again
pub read_back : (bytes : List ℕ) (read id : ℕ) → id < 2 ^ 64 → bytes ≡ to_le_bytes w64 id → read ≡ from_le_bytes w64 bytes → read ≡ id
read_back bytes read id fits same is = is ∙ (ap (from_le_bytes w64) same ∙ from_le_bytes-to_le_bytes_8 id fits)

-- the digits of an identifier fill its 8 bytes
pub filled : {U : Type 0} (u : U) (text : List ℕ) (room : ℕ) (r : Result U FromHexError) (out : List ℕ) (id : ℕ) → room ≡ 8 → text ≡ id_text id
    → MatchResult (decode_sized text room) (λ bytes. (r ≡ Ok u) × (out ≡ bytes)) (λ e. r ≡ Err e) → (r ≡ Ok u) × (out ≡ to_le_bytes w64 id)
filled u text room r out id eight e h =
    subst (λ d. MatchResult d (λ bytes. (r ≡ Ok u) × (out ≡ bytes)) (λ e. r ≡ Err e)) (ap (decode_sized text) eight ∙ decoded text id e) h

pub id_text-bytes : (id : ℕ) (bytes : List ℕ) → bytes ≡ to_le_bytes w64 id → encode_lower bytes ≡ id_text id
unfolding id_text
id_text-bytes id bytes e = ap encode_lower e
