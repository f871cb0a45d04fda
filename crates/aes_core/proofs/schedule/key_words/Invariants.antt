use Rattle.std.proofs.Common.{◌≡◌, ◌*◌, take, length}
use Rattle.aes_core.specs.Words.{bytes_of}
use Rattle.aes_core.proofs.schedule.key_words.Given as goal

abbrev pub invariant-words : goal.invariant-words
invariant-words l = (length l.words ≡ 8) × (bytes_of (take l.i l.words) ≡ take (4 * l.i) l.key)
