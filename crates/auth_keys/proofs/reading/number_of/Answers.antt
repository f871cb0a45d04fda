use Rattle.std.proofs.Common.{◌∙◌, ap, sym}
use Rattle.std.specs.Fmt.{decimal}
use Rattle.auth_keys.proofs.NumberLemmas.{not_from_err, text_from_ok, text-decimal, parsed-decimal, same_number, if_other, differs}
use Rattle.auth_keys.proofs.reading.number_of.Goals as goal

pub returns-in_err-text-clause-none : goal.returns-in_err-text-clause-none
returns-in_err-text-clause-none c =
    rw c.from_residual.ensures (λ number fits e. not_from_err c.from_utf8.result _ _ _ (sym c.in_err-text.ensures.value) c.from_utf8.ensures.cases (text-decimal c.args.word.now number fits e))

pub returns-in_err-number-clause-none : goal.returns-in_err-number-clause-none
returns-in_err-number-clause-none c =
    let same = text_from_ok c.from_utf8.result c.args.word.now _ _ c.in_ok-text.text c.in_ok-text.ensures.value c.from_utf8.ensures.cases in
    rw c.from_residual-in_err-number.ensures (λ number fits e. let parsed = parsed-decimal c.args.word.now c.in_ok-text.text.now c.parse.result number fits same e c.parse.ensures.value.0 in let none = c.in_err-number.ensures.value in cc)

pub returns-clause-none : goal.returns-clause-none
returns-clause-none c =
    let same = text_from_ok c.from_utf8.result c.args.word.now _ _ c.in_ok-text.text c.in_ok-text.ensures.value c.from_utf8.ensures.cases in
    if_other c.eq.result c.in_ok-number.number _ _ c.then_some.ensures (λ other number fits e.
    let parsed = parsed-decimal c.args.word.now c.in_ok-text.text.now c.parse.result number fits same e c.parse.ensures.value.0 in
    let own = same_number c.in_ok-number.number number _ c.in_ok-number.ensures.value parsed in
    differs c.eq.result c.as_bytes.result.now c.args.word.now c.eq.ensures other (c.as_bytes.ensures.value ∙ c.format.ensures.text ∙ ap decimal own ∙ sym e))
