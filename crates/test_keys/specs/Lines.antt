-- The key `00` to `ff`, the line of a key file that says it, and the lines of a second key beside it. They stay closed, so
-- that no proof of a caller works with their hundreds of digits.
use Rattle.std.specs.Prelude.{ℕ, List, [], ◌∷◌, ◌++◌, codes, reverse}
use Rattle.std.specs.List.{range_with_len}
use Rattle.hex.specs.Hex.{encode_lower}

-- the bytes 0 to 255, in order
unfoldable pub from_0_to_255 : List ℕ
from_0_to_255 = range_with_len 0 256

-- these words, a blank, and the digits of the key
unfoldable pub line_of : List ℕ → List ℕ
line_of words = words ++ 32 ∷ encode_lower from_0_to_255

-- the line of the permanent key, and that of the temporary key `ff` to `00`, which expires at the moment 7,200
unfoldable pub both_lines : List ℕ
both_lines = line_of (codes "perm") ++ 10 ∷ (codes "temp 7200 " ++ (encode_lower (reverse from_0_to_255) ++ 10 ∷ []))
