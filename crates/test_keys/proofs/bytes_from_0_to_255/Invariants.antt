use Rattle.std.proofs.Common.{◌≡◌, ◌<◌, ◌≤◌, ℕ, length, slice_index}
use Rattle.test_keys.proofs.bytes_from_0_to_255.Given as goal

-- the bytes so far stand at their places, and the others are 255
abbrev pub invariant-loop-byte : goal.invariant-loop-byte
invariant-loop-byte l =
    (length l.bytes ≡ 256)
    × ((k : ℕ) → k < l.byte → slice_index l.bytes k ≡ k)
    × ((k : ℕ) → l.byte ≤ k → k < 256 → slice_index l.bytes k ≡ 255)
