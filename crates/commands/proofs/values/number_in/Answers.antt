use Rattle.std.proofs.Common.{◌≡◌, ◌∙◌, ◌<◌, ◌^◌, sym, arith}
use Rattle.std.proofs.lemmas.Fmt.{decimal_injective}
use Rattle.commands.proofs.values.number_in.Goals as goal

pub returns-in_default-clause-refused : goal.returns-in_default-clause-refused
returns-in_default-clause-refused c = λ number least most e.
    let own = c.in-Some.ensures.found in
    let fits : number < 2 ^ 64 = omega arith in
    let same : c.in-Some.number ≡ number = decimal_injective _ _ own.0 fits (sym own.1 ∙ e) in
    omega arith

pub returns-in_default-2-clause-refused : goal.returns-in_default-2-clause-refused
returns-in_default-2-clause-refused c = λ number least most e.
    let own = c.in-Some.ensures.found in
    let fits : number < 2 ^ 64 = omega arith in
    let same : c.in-Some.number ≡ number = decimal_injective _ _ own.0 fits (sym own.1 ∙ e) in
    omega arith
