use Rattle.std.proofs.Common.{◌∙◌, ◌-◌, ap, sym, subst, arith}
use Rattle.std.proofs.lemmas.List.{nil_from_length}
use Rattle.id_window.specs.declared.rows.Row.{Row}
use Rattle.id_window.specs.Window.{Contents, IsInOrder, Stands, greatest_in}
use Rattle.id_window.proofs.WindowLemmas.{greatest_is, greatest_last}
use Rattle.id_window.proofs.window.Window.greatest.Goals as goal

pub returns-then-count-eq0-clause-value : goal.returns-then-count-eq0-clause-value
returns-then-count-eq0-clause-value c =
    rw (← c.self.view_is) (ap (greatest_in c.self.inside.forgotten_up_to) (sym (nil_from_length c.self.inside.rows.items (omega (arith, c.self.inside.rows.ok.0)))))

pub returns-then-count-eq0-clause-stands : goal.returns-then-count-eq0-clause-stands
unfolding Stands
returns-then-count-eq0-clause-stands c history marks stands =
    returns-then-count-eq0-clause-value c ∙ greatest_is _ history marks (subst (λ (w : Contents). IsInOrder w.floor w.rows w.accepted) c.self.view_is c.self.invariant.0) stands

pub returns-else-count-eq0-clause-value : goal.returns-else-count-eq0-clause-value
returns-else-count-eq0-clause-value c =
    rw (← c.self.view_is) (ap (λ (row : Row). row.number) c.index.ensures ∙ greatest_last c.self.inside.forgotten_up_to c.self.inside.rows.items (c.len-count.result - 1) c.index.result.now (omega (arith, c.self.inside.rows.ok.0)))

pub returns-else-count-eq0-clause-stands : goal.returns-else-count-eq0-clause-stands
unfolding Stands
returns-else-count-eq0-clause-stands c history marks stands =
    returns-else-count-eq0-clause-value c ∙ greatest_is _ history marks (subst (λ (w : Contents). IsInOrder w.floor w.rows w.accepted) c.self.view_is c.self.invariant.0) stands
