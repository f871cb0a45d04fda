use Rattle.std.proofs.Common.{◌≡◌, ◌≢◌, ◌∙◌, Some, get_or, ap, sym, subst, arith}
use Rattle.id_window.specs.declared.rows.Row.{Row}
use Rattle.id_window.proofs.PlaceLemmas.{no_mark_past, no_mark_at, mark_at}
use Rattle.id_window.proofs.WindowLemmas.{found_is}
use Rattle.id_window.specs.Window.{Stands}
use Rattle.id_window.proofs.window.Window.find.Goals as goal

pub place_of-place-requires : goal.place_of-place-requires
place_of-place-requires c = c.self.invariant.0.rising.1

pub returns-then-place-len-clause-value : goal.returns-then-place-len-clause-value
returns-then-place-len-clause-value c =
    rw (← c.self.view_is) (sym (no_mark_past c.args.number c.self.inside.rows.items (omega (arith, c.self.inside.rows.ok.0, c.place_of-place.ensures.place))))

pub returns-then-place-len-clause-stands : goal.returns-then-place-len-clause-stands
unfolding Stands
returns-then-place-len-clause-stands c history marks stands = returns-then-place-len-clause-value c ∙ found_is _ history marks stands c.args.number

pub returns-then-row-number-clause-value : goal.returns-then-row-number-clause-value
returns-then-row-number-clause-value c =
    let rows = c.self.inside.rows.items in
    let read = c.index-row.ensures in
    let same : (get_or rows c.place_of-place.result c.index-row.result.now).number ≡ c.args.number = subst (λ (row : Row). row.number ≡ c.args.number) read c.if-row-number.true in
    let found = mark_at c.args.number rows c.place_of-place.result c.index-row.result.now c.place_of-place.ensures.place (omega (arith, c.self.inside.rows.ok.0, c.place_of-place.ensures.within)) same in
    rw (← c.self.view_is) (ap (λ (row : Row). Some row.mark) read ∙ sym found)

pub returns-then-row-number-clause-stands : goal.returns-then-row-number-clause-stands
unfolding Stands
returns-then-row-number-clause-stands c history marks stands = returns-then-row-number-clause-value c ∙ found_is _ history marks stands c.args.number

pub returns-else-row-number-clause-value : goal.returns-else-row-number-clause-value
returns-else-row-number-clause-value c =
    let rows = c.self.inside.rows.items in
    let read = c.index-row.ensures in
    let other : (get_or rows c.place_of-place.result c.index-row.result.now).number ≢ c.args.number = subst (λ (row : Row). row.number ≢ c.args.number) read c.if-row-number.false in
    let found = no_mark_at c.args.number rows c.place_of-place.result c.index-row.result.now c.place_of-place.ensures.place (omega (arith, c.self.inside.rows.ok.0, c.place_of-place.ensures.within)) other c.self.invariant.0.rising.1 in
    rw (← c.self.view_is) (sym found)

pub returns-else-row-number-clause-stands : goal.returns-else-row-number-clause-stands
unfolding Stands
returns-else-row-number-clause-stands c history marks stands = returns-else-row-number-clause-value c ∙ found_is _ history marks stands c.args.number
