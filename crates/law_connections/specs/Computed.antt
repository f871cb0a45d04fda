-- What is computed of the words and packets of a run that is shown: for the laws that show one, and no promise.
use Rattle.std.specs.Prelude.{ℕ, Bool, true, false, not, ◌==◌, ◌&&◌, Option, Some, None, List, [], ◌∷◌}
use Rattle.std.specs.List.{list_any}
use Rattle.envelope.specs.declared.parts.Dir.{Dir}
use Rattle.envelope.specs.declared.parts.Dir.TheVariants as way
use Rattle.world_rules.specs.World.{Packet}

-- no word is 0, and none stands twice
abbrev pub are_new : List ℕ → Bool
are_new [] = true
are_new (word ∷ words) = not (word == 0) && (not (list_any (λ other. word == other) words) && are_new words)

-- the packet is there, and goes this way
abbrev pub is_way : Dir → Dir → Bool
is_way way.Up way.Up = true
is_way way.Up way.Down = false
is_way way.Down way.Up = false
is_way way.Down way.Down = true

abbrev pub is_made : Dir → Option Packet → Bool
is_made dir None = false
is_made dir (Some packet) = is_way packet.dir dir
