use Rattle.commands.specs.Says.{SaysRelay}
use Rattle.commands.specs.declared.command.RelayOptions.{RelayOptions}
use Rattle.commands.proofs.Numbers.{if_err}
use Rattle.commands.proofs.reading.relay_options.Goals as goal

pub returns-in_err-secret-clause-refused : goal.returns-in_err-secret-clause-refused
returns-in_err-secret-clause-refused c =
    let none : (options : RelayOptions) → SaysRelay c.args.taken.now options → ⊥ =
    λ options says. c.in_err-secret.ensures.refused options.secret says.secret in
    if_err c.from_residual.result _ none
