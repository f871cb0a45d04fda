use Rattle.std.proofs.Common.{◌∙◌, ap₂}
use Rattle.clap.specs.Words.{with_rule}
use Rattle.commands.specs.Simple.{call}
use Rattle.commands.proofs.simple.call_command.Goals as goal

pub returns : goal.returns
unfolding call
returns c =
    let one = c.in_ok-arg.ensures.shape c.needed.ensures.own ∙ ap₂ with_rule c.new.ensures.app c.needed.ensures.rule in
    let two = c.in_ok-arg-2.ensures.shape c.needed-2.ensures.own ∙ ap₂ with_rule one c.needed-2.ensures.rule in
    let three = c.in_ok-arg-3.ensures.shape c.needed-3.ensures.own ∙ ap₂ with_rule two c.needed-3.ensures.rule in
    let four = c.in_ok-arg-4.ensures.shape c.needed-4.ensures.own ∙ ap₂ with_rule three c.needed-4.ensures.rule in
    let five = c.in_ok-arg-5.ensures.shape c.flag.ensures.own ∙ ap₂ with_rule four c.flag.ensures.rule in
    let six = c.in_ok-arg-6.ensures.shape c.defaulted.ensures.own ∙ ap₂ with_rule five c.defaulted.ensures.rule in
    c.in_ok-command.ensures.shape c.option.ensures.own ∙ ap₂ with_rule six c.option.ensures.rule
