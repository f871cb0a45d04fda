-- The words of the generator have 64 bits.
use Rattle.std.proofs.Common.{ℕ, ◌+◌, ◌*◌, ◌<◌, ◌^◌, List, arith}
use Rattle.std.proofs.Math.Nat.{mod-lt}
use Rattle.draws.specs.ChaChaWords.{chacha_word, half_word}
use Rattle.rand_chacha.specs.Block.{block_word}

half-small : (key : List ℕ) (place : ℕ) → half_word key place < 4294967296
unfolding block_word
half-small key place = mod-lt _ (omega arith)

pub word-small : (key : List ℕ) (place : ℕ) → chacha_word key place < 2 ^ 64
word-small key place =
    let low = half-small key (2 * place) in
    let high = half-small key (2 * place + 1) in
    omega (arith, low, high)
