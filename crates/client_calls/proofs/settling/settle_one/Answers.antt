use Rattle.std.proofs.Common.{◌∙◌, Some, ap, refl, sym}
use Rattle.client_calls.proofs.RuleLemmas.{calls_settle, calls_stay, rows_settle, rows_stay}
use Rattle.client_calls.proofs.settling.settle_one.Goals as goal

pub returns-in-Some-clause-kept : goal.returns-in-Some-clause-kept
returns-in-Some-clause-kept c =
    rw (sym (rows_settle c.args.rule c.args.call _ _ (c.fate.ensures.kept ∙ ap Some c.in-Some.is))) c.settle.ensures.kept

pub returns-in-Some-clause-stands : goal.returns-in-Some-clause-stands
returns-in-Some-clause-stands c table stands =
    rw (sym (calls_settle c.args.rule c.args.call table.calls _ (c.fate.ensures.told table stands ∙ ap Some c.in-Some.is))) (c.settle.ensures.stands table stands)

pub returns-in_default-clause-kept : goal.returns-in_default-clause-kept
returns-in_default-clause-kept c = rw (rows_stay c.args.rule c.args.call _ (c.fate.ensures.kept ∙ ap Some c.in_default.is)) refl

pub returns-in_default-clause-stands : goal.returns-in_default-clause-stands
returns-in_default-clause-stands c table stands =
    rw (calls_stay c.args.rule c.args.call table.calls (c.fate.ensures.told table stands ∙ ap Some c.in_default.is)) stands
