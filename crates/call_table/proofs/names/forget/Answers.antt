use Rattle.std.proofs.Common.{◌≡◌, ◌≢◌, ◌∙◌, get_or, ap, sym, subst, arith}
use Rattle.std.specs.List.{remove}
use Rattle.call_table.specs.declared.names.Named.{Named}
use Rattle.call_table.specs.Held.{without_own}
use Rattle.call_table.proofs.PlaceLemmas.{none_found_past, none_found_at, without_at, without_none}
use Rattle.call_table.proofs.names.forget.Goals as goal

pub returns-then-at-len-clause-left : goal.returns-then-at-len-clause-left
returns-then-at-len-clause-left c =
    let names = c.args.names.now.items in
    let number = c.in-Some.number in
    sym (ap (λ own. without_own own names) c.in-Some.is ∙ without_none number names (none_found_past number names (omega (arith, c.args.names.now.ok.0, c.place_of-at.ensures.place))))

pub returns-then-index-number-clause-left : goal.returns-then-index-number-clause-left
returns-then-index-number-clause-left c =
    let names = c.args.names.now.items in
    let number = c.in-Some.number in
    let d = c.index.result.now in
    let same : (get_or names c.place_of-at.result d).number ≡ number = subst (λ (one : Named). one.number ≡ number) c.index.ensures c.if-index-number.true in
    let done : c.remove.new.self.items ≡ remove names c.place_of-at.result = rw (c.remove.ensures.succeeds d (omega (arith, c.args.names.now.ok.0, c.place_of-at.ensures.within))) at c.remove.ensures.items in
    done ∙ (without_at number names c.place_of-at.result d c.place_of-at.ensures.place (omega (arith, c.args.names.now.ok.0, c.place_of-at.ensures.within)) same ∙ sym (ap (λ own. without_own own names) c.in-Some.is))

pub returns-else-index-number-clause-left : goal.returns-else-index-number-clause-left
returns-else-index-number-clause-left c =
    let names = c.args.names.now.items in
    let number = c.in-Some.number in
    let d = c.index.result.now in
    let other : (get_or names c.place_of-at.result d).number ≢ number = subst (λ (one : Named). one.number ≢ number) c.index.ensures c.if-index-number.false in
    sym (ap (λ own. without_own own names) c.in-Some.is ∙ without_none number names (none_found_at number names c.place_of-at.result d c.place_of-at.ensures.place (omega (arith, c.args.names.now.ok.0, c.place_of-at.ensures.within)) other c.requires))
