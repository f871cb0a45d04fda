use Rattle.std.proofs.Common.{◌∙◌, ap, sym}
use Rattle.std.specs.Fmt.{decimal}
use Rattle.commands.proofs.Numbers.{parsed-decimal, same_number, if_other, differs}
use Rattle.commands.proofs.values.number_of.Goals as goal

pub returns-in_err-number-clause-none : goal.returns-in_err-number-clause-none
returns-in_err-number-clause-none c =
    rw c.from_residual.ensures (λ number fits e. let parsed = parsed-decimal c.args.text.now c.parse.result number fits e c.parse.ensures.value.0 in let none = c.in_err-number.ensures.value in cc)

pub returns-clause-none : goal.returns-clause-none
returns-clause-none c =
    if_other c.eq.result c.in_ok-number.number _ _ c.then_some.ensures (λ other number fits e.
    let parsed = parsed-decimal c.args.text.now c.parse.result number fits e c.parse.ensures.value.0 in
    let own = same_number c.in_ok-number.number number _ c.in_ok-number.ensures.value parsed in
    differs c.eq.result c.format.result.now c.args.text.now c.eq.ensures other (c.format.ensures.text ∙ ap decimal own ∙ sym e))
