-- What is less than its length says goes on as a frame.
use Rattle.std.proofs.Common.{◌≡◌, ℕ, zero, suc, ◌-◌, ◌<◌, Bool, List, [], ◌∷◌, ◌++◌, length, take, drop, subst, arith, length-append}
use Rattle.std.specs.Prelude.{replicate}
use Rattle.std.proofs.lemmas.List.{length-replicate}
use Rattle.octets.specs.Bytes.{IsBytes}
use Rattle.framing.specs.Streams.{IsShort}
use Rattle.frame_len.specs.Lengths.{LenFrame, LenSize, payload_of, form_of}
use Rattle.frame_len.specs.Lawful.{lawful}
use Rattle.frame_len.proofs.Parts.{packet_there}

zero_bytes : (n : ℕ) → IsBytes (replicate n 0)
zero_bytes zero i = omega arith
zero_bytes (suc n) zero = omega arith
zero_bytes (suc n) (suc i) = zero_bytes n i

with_zeros : (bytes : List ℕ) (n : ℕ) → IsBytes bytes → IsBytes (bytes ++ replicate n 0)
with_zeros [] n fits i = zero_bytes n i
with_zeros (b ∷ bytes) n fits zero = fits 0
with_zeros (b ∷ bytes) n fits (suc i) = with_zeros bytes n (λ j. fits (suc j)) i

zeros_go_on : (padded : Bool) (bytes zeros : List ℕ) (size : ℕ) → IsBytes (bytes ++ zeros) → 0 < length zeros → LenSize padded size bytes → size ≡ length (bytes ++ zeros)
    → (packet more : List ℕ) × (0 < length more) × LenFrame padded packet (bytes ++ more)
zeros_go_on padded bytes zeros size fits some f e =
    let whole : LenSize padded (length (bytes ++ zeros)) (bytes ++ zeros) =
    subst (λ (n : ℕ). LenSize padded n (bytes ++ zeros)) e ((lawful padded).sized_on size bytes zeros f) in
    (take (payload_of padded whole.len) (drop 4 (bytes ++ zeros)), zeros, some, packet_there padded (bytes ++ zeros) fits whole)

pub short_goes_on : (padded : Bool) (bytes : List ℕ) → IsBytes bytes → IsShort (form_of padded) bytes
    → (packet more : List ℕ) × (0 < length more) × LenFrame padded packet (bytes ++ more)
short_goes_on padded bytes fits short =
    let n = short.size - length bytes in
    let zeros : List ℕ = replicate n 0 in
    let count : length zeros ≡ n = length-replicate n 0 in
    zeros_go_on padded bytes zeros short.size (with_zeros bytes n fits) (omega (arith, count, short.short)) short.sized
    (omega (arith, count, short.short, length-append bytes zeros))
