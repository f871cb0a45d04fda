use Rattle.std.proofs.Common.{◌≡◌, ◌≢◌, ◌∙◌, true, None, List, map, get_or, ap, subst, sym, arith, IfSome}
use Rattle.id_window.specs.declared.rows.Row.{Row}
use Rattle.id_window.specs.Marks.{is_accepted}
use Rattle.id_window.specs.Window.{Contents, Rises, Stands, mark_in}
use Rattle.id_window.proofs.PlaceLemmas.{row_number, no_mark_past, no_mark_at, with_mark_at}
use Rattle.id_window.proofs.InOrderLemmas.{order_marked}
use Rattle.id_window.proofs.WindowLemmas.{marked_stands, unmarked}
use Rattle.id_window.proofs.window.Window.set.Goals as goal

-- ---- a number that is kept

pub invariant_of-self : goal.invariant_of-self
invariant_of-self c =
    let rows = c.self.inside.rows.items in
    let was : IfSome (mark_in c.args.number rows) (λ last. is_accepted last ≡ true) = rw (← c.self.view_is) at c.requires.was_accepted in
    let same : (get_or rows c.place_of-place.result c.index.result.now).number ≡ c.args.number = subst (λ (row : Row). row.number ≡ c.args.number) c.index.ensures c.if-index-number.true in
    let marked = with_mark_at c.args.number c.args.mark rows c.place_of-place.result c.index.result.now c.place_of-place.ensures.place (omega (arith, c.self.inside.rows.ok.0, c.place_of-place.ensures.within)) same in
    (rw marked (order_marked c.self.inside.forgotten_up_to c.args.number c.args.mark rows c.self.inside.accepted.items c.self.invariant.0 c.requires.accepted was), c.self.invariant.1, c.self.invariant.2)

pub returns-then-index-number-clause-marked : goal.returns-then-index-number-clause-marked
returns-then-index-number-clause-marked c =
    let rows = c.self.inside.rows.items in
    let same : (get_or rows c.place_of-place.result c.index.result.now).number ≡ c.args.number = subst (λ (row : Row). row.number ≡ c.args.number) c.index.ensures c.if-index-number.true in
    let marked = with_mark_at c.args.number c.args.mark rows c.place_of-place.result c.index.result.now c.place_of-place.ensures.place (omega (arith, c.self.inside.rows.ok.0, c.place_of-place.ensures.within)) same in
    rw (← c.self.view_is) (ap (λ (xs : List Row). record { rows = xs; accepted = c.self.inside.accepted.items; floor = c.self.inside.forgotten_up_to; room = c.self.inside.reserved }) marked)

pub returns-then-index-number-clause-stands : goal.returns-then-index-number-clause-stands
unfolding Stands
returns-then-index-number-clause-stands c history marks stands =
    let rises : Rises (map row_number c.args.self.now.rows) = subst (λ (w : Contents). Rises (map row_number w.rows)) c.self.view_is c.self.invariant.0.rising.1 in
    marked_stands _ c.args.self.now history marks c.args.number c.args.mark (returns-then-index-number-clause-marked c) rises c.requires.accepted c.requires.was_accepted stands

pub returns-then-index-number-clause-unchanged : goal.returns-then-index-number-clause-unchanged
returns-then-index-number-clause-unchanged c absent = returns-then-index-number-clause-marked c ∙ sym (unmarked c.args.self.now c.args.number c.args.mark absent)

-- ---- a number that isn't

pub returns-then-place-len-clause-marked : goal.returns-then-place-len-clause-marked
returns-then-place-len-clause-marked c =
    let absent : mark_in c.args.number c.args.self.now.rows ≡ None = rw (← c.self.view_is) (no_mark_past c.args.number c.self.inside.rows.items (omega (arith, c.self.inside.rows.ok.0, c.place_of-place.ensures.place))) in
    unmarked c.args.self.now c.args.number c.args.mark absent

pub returns-then-place-len-clause-stands : goal.returns-then-place-len-clause-stands
unfolding Stands
returns-then-place-len-clause-stands c history marks stands =
    let rises : Rises (map row_number c.args.self.now.rows) = subst (λ (w : Contents). Rises (map row_number w.rows)) c.self.view_is c.self.invariant.0.rising.1 in
    marked_stands _ c.args.self.now history marks c.args.number c.args.mark (returns-then-place-len-clause-marked c) rises c.requires.accepted c.requires.was_accepted stands

pub returns-else-index-number-clause-marked : goal.returns-else-index-number-clause-marked
returns-else-index-number-clause-marked c =
    let rows = c.self.inside.rows.items in
    let other : (get_or rows c.place_of-place.result c.index.result.now).number ≢ c.args.number = subst (λ (row : Row). row.number ≢ c.args.number) c.index.ensures c.if-index-number.false in
    let absent : mark_in c.args.number c.args.self.now.rows ≡ None = rw (← c.self.view_is) (no_mark_at c.args.number rows c.place_of-place.result c.index.result.now c.place_of-place.ensures.place (omega (arith, c.self.inside.rows.ok.0, c.place_of-place.ensures.within)) other c.self.invariant.0.rising.1) in
    unmarked c.args.self.now c.args.number c.args.mark absent

pub returns-else-index-number-clause-stands : goal.returns-else-index-number-clause-stands
unfolding Stands
returns-else-index-number-clause-stands c history marks stands =
    let rises : Rises (map row_number c.args.self.now.rows) = subst (λ (w : Contents). Rises (map row_number w.rows)) c.self.view_is c.self.invariant.0.rising.1 in
    marked_stands _ c.args.self.now history marks c.args.number c.args.mark (returns-else-index-number-clause-marked c) rises c.requires.accepted c.requires.was_accepted stands
