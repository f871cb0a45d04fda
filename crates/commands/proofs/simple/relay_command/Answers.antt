use Rattle.std.proofs.Common.{◌∙◌, ap₂}
use Rattle.clap.specs.Words.{with_rule}
use Rattle.commands.specs.Simple.{relay}
use Rattle.commands.proofs.simple.relay_command.Goals as goal

pub returns : goal.returns
unfolding relay
returns c =
    let one = c.in_ok-arg.ensures.shape c.needed.ensures.own ∙ ap₂ with_rule c.new.ensures.app c.needed.ensures.rule in
    c.in_ok-command.ensures.shape c.needed-2.ensures.own ∙ ap₂ with_rule one c.needed-2.ensures.rule
