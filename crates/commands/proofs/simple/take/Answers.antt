use Rattle.std.proofs.Common.{◌∙◌}
use Rattle.clap.proofs.WalkLemmas.{both}
use Rattle.commands.specs.Simple.{faults, rows}
use Rattle.commands.proofs.Takings.{some_kind}
use Rattle.commands.proofs.simple.take.Goals as goal

pub returns-in-Ok-clause-taken : goal.returns-in-Ok-clause-taken
unfolding faults
returns-in-Ok-clause-taken c = c.in-Ok.ensures.kinds c.requires

pub returns-in-Ok-clause-rows : goal.returns-in-Ok-clause-rows
unfolding rows
returns-in-Ok-clause-rows c = (c.in-Ok.ensures.matches (both _ _ c.requires).0).0

pub returns : goal.returns
unfolding faults
returns c = record {
  taken = tt;
  rows = tt;
  refused = λ _ none. some_kind _ c.in-Err.error (c.in-Err.ensures.kinds c.requires) (λ out. c.in_default.not-OutOfMemory (c.kind.ensures ∙ out)) none;
}
