-- What some words say that are written out.
use Rattle.std.proofs.Common.{◌≡◌, [], ◌∷◌, Some, true, false, refl, codes}
use Rattle.clap.proofs.OnLiterals.{clap_on_literals}
use Rattle.commands.specs.Simple.{sim, faults, rows}
use Rattle.commands.specs.Values.{text_of}
use Rattle.commands.specs.Says.{Says}
use Rattle.commands.specs.declared.command.Command.TheVariants.{Sim, Version}

taken-alone : faults sim (codes "sim" ∷ []) ≡ []
unfolding sim faults clap_on_literals
taken-alone = refl

text-alone : text_of (codes "wire") (rows sim (codes "sim" ∷ [])) ≡ Some (codes "false")
unfolding sim rows text_of clap_on_literals
text-alone = refl

taken-wire : faults sim (codes "sim" ∷ codes "--wire" ∷ []) ≡ []
unfolding sim faults clap_on_literals
taken-wire = refl

text-wire : text_of (codes "wire") (rows sim (codes "sim" ∷ codes "--wire" ∷ [])) ≡ Some (codes "true")
unfolding sim rows text_of clap_on_literals
text-wire = refl

pub sim_alone : Says (codes "sim" ∷ []) (Sim false)
sim_alone = record {
  first = refl;
  means = (record { plain = refl; taken = taken-alone }, ((λ e. cc), (λ e. let f = text-alone in cc)));
}

pub sim_wire : Says (codes "sim" ∷ codes "--wire" ∷ []) (Sim true)
sim_wire = record {
  first = refl;
  means = (record { plain = refl; taken = taken-wire }, ((λ e. text-wire), (λ e. refl)));
}

pub version_alone : Says (codes "--version" ∷ []) Version
version_alone = record { first = refl; means = refl }
