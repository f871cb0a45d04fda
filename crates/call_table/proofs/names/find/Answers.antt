use Rattle.std.proofs.Common.{◌≡◌, ◌≢◌, ◌∙◌, Some, get_or, ap, sym, subst, arith}
use Rattle.call_table.specs.declared.names.Named.{Named}
use Rattle.call_table.proofs.PlaceLemmas.{none_found_past, none_found_at, found_at}
use Rattle.call_table.proofs.names.find.Goals as goal

pub returns-then-at-len : goal.returns-then-at-len
returns-then-at-len c = sym (none_found_past c.args.number c.args.names.now.items (omega (arith, c.args.names.now.ok.0, c.place_of-at.ensures.place)))

pub returns-then-one-number : goal.returns-then-one-number
returns-then-one-number c =
    let names = c.args.names.now.items in
    let other : (get_or names c.place_of-at.result c.index-one.result.now).number ≢ c.args.number = subst (λ (one : Named). one.number ≢ c.args.number) c.index-one.ensures c.if-one-number.true in
    sym (none_found_at c.args.number names c.place_of-at.result c.index-one.result.now c.place_of-at.ensures.place (omega (arith, c.args.names.now.ok.0, c.place_of-at.ensures.within)) other c.requires)

pub returns : goal.returns
returns c =
    let names = c.args.names.now.items in
    let same : (get_or names c.place_of-at.result c.index-one.result.now).number ≡ c.args.number = subst (λ (one : Named). one.number ≡ c.args.number) c.index-one.ensures c.if-one-number.false in
    ap (λ (one : Named). Some one.place) c.index-one.ensures
    ∙ sym (found_at c.args.number names c.place_of-at.result c.index-one.result.now c.place_of-at.ensures.place (omega (arith, c.args.names.now.ok.0, c.place_of-at.ensures.within)) same)
