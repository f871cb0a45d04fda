-- Numbers of 8 bytes each, one after the other.
use Rattle.std.proofs.Common.{◌≡◌, ℕ, zero, suc, ◌+◌, ◌-◌, ◌<◌, List, [], ◌∷◌, ◌++◌, take, drop, sym, append_assoc, arith}
use Rattle.byteorder.specs.Endian.{little_number}
use Rattle.byteorder.specs.Numbers.{little_from-take, little_from-lt}
use Rattle.octets.specs.Bytes.{IsBytes, AreLongs}
use Rattle.tl_codec.specs.Reading.{longs_in}
use Rattle.tl_codec.proofs.Texts.{IsBytes-drop}

-- one number more was read
pub longs_more : (numbers : List ℕ) (left : List ℕ) (count i : ℕ) → i < count
    → numbers ++ longs_in (count - i) left ≡ (numbers ++ little_number 8 (take 8 left) ∷ []) ++ longs_in (count - (i + 1)) (drop 8 left)
longs_more numbers left count i lt =
    let more : count - i ≡ suc (count - (i + 1)) = omega arith in
    let same : little_number 8 (take 8 left) ≡ little_number 8 left = little_from-take 0 8 8 left (omega arith) in
    rw (more, same) (sym (append_assoc numbers (little_number 8 left ∷ []) (longs_in (count - (i + 1)) (drop 8 left))))

-- what 8 bytes hold is a `long`
pub AreLongs-longs_in : (count : ℕ) (bytes : List ℕ) → IsBytes bytes → AreLongs (longs_in count bytes)
AreLongs-longs_in zero bytes fits i = omega arith
AreLongs-longs_in (suc count) bytes fits zero = little_from-lt 0 8 bytes fits
AreLongs-longs_in (suc count) bytes fits (suc i) = AreLongs-longs_in count (drop 8 bytes) (IsBytes-drop 8 bytes fits) i
