use Rattle.commands.specs.Says.{SaysServe}
use Rattle.commands.specs.declared.command.ServeOptions.{ServeOptions}
use Rattle.commands.proofs.Numbers.{if_err}
use Rattle.commands.proofs.reading.serve_options.Goals as goal

pub returns-in_err-stop_after-clause-refused : goal.returns-in_err-stop_after-clause-refused
returns-in_err-stop_after-clause-refused c =
    let none : (options : ServeOptions) → SaysServe c.args.taken.now options → ⊥ =
    λ options says. c.in_err-stop_after.ensures.refused options.stop_after says.stop_after in
    if_err c.from_residual-in_err-stop_after.result _ none
