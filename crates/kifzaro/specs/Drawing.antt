-- What an end draws from: the stream of ChaCha of its seed, and what a step of it gives.
use Rattle.std.specs.Prelude.{ℕ, ◌+◌, ◌%◌, ◌^◌, List}
use Rattle.rand_chacha.specs.ChaCha.{key_of}
use Rattle.draws.specs.ChaChaWords.{ChaChaPlace, chacha_word}

-- the draw of a seed that has given no word
abbrev pub drawn_from : List ℕ → ChaChaPlace
drawn_from seed = record { key = key_of seed; place = 0 }

-- its next word, and the draw after it
abbrev pub drawing : ChaChaPlace → ℕ × ChaChaPlace
drawing draw = (chacha_word draw.key draw.place, record draw { place = (draw.place + 1) % 2 ^ 64 })
