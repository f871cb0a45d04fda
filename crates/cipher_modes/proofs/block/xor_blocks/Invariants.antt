use Rattle.std.proofs.Common.{◌≡◌, ◌<◌, ◌≤◌, ℕ, length, slice_index}
use Rattle.std.specs.Prelude.{bit_xor}
use Rattle.cipher_modes.proofs.block.xor_blocks.Given as goal

abbrev pub invariant-bytes : goal.invariant-bytes
invariant-bytes l =
    (length l.x ≡ 16)
    × ((k : ℕ) → k < l.i → slice_index l.x k ≡ bit_xor (slice_index l.fn.x k) (slice_index l.y k))
    × ((k : ℕ) → l.i ≤ k → slice_index l.x k ≡ slice_index l.fn.x k)
