use Rattle.std.proofs.Common.{refl, sym}
use Rattle.std.proofs.lemmas.List.{length-map}
use Rattle.std.proofs.lemmas.List.Folds.{flat_map-map}
use Rattle.world_rules.specs.World.{bytes_of}
use Rattle.sim_text.proofs.laws.lines_of_packets.Goals as goal

pub returns-clause-bytes : goal.returns-clause-bytes
returns-clause-bytes g c setting world = sym (flat_map-map (λ packet. packet) (bytes_of setting) world.bag)

pub returns-clause-line : goal.returns-clause-line
returns-clause-line g c setting world =
    rw (flat_map-map (λ packet. packet) (bytes_of setting) world.bag, length-map world.bag (bytes_of setting)) refl
