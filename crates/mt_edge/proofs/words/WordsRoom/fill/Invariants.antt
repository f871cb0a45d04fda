use Rattle.std.proofs.Common.{◌≡◌, map, take, string_bytes}
use Rattle.mt_edge.proofs.words.WordsRoom.fill.Given as goal

-- the words that were passed are copied
abbrev pub invariant-loop-word : goal.invariant-loop-word
invariant-loop-word l = l.copy.items ≡ map string_bytes (take l.word-index l.words)
