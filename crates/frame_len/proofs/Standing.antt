-- Which stream a reader stands for.
use Rattle.std.proofs.Common.{List, ℕ, Bool}
use Rattle.framing.specs.Held.{Held}
use Rattle.framing.specs.Holding.{Stands}
use Rattle.frame_len.specs.Lengths.{form_of}
use Rattle.frame_len.specs.Reading.{Reading, StandsFor}

pub stands_of : (reading : Reading) (packets : List (List ℕ)) (bytes : List ℕ) → StandsFor reading packets bytes → Stands (form_of reading.padded) reading.stream packets bytes
unfolding StandsFor
stands_of reading packets bytes stands = stands

pub stands_for : (padded : Bool) (held : Held) (packets : List (List ℕ)) (bytes : List ℕ) → Stands (form_of padded) held packets bytes
    → StandsFor (record { padded = padded; stream = held }) packets bytes
unfolding StandsFor
stands_for padded held packets bytes stands = stands
