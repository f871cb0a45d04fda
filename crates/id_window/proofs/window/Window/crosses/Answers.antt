use Rattle.std.proofs.Common.{◌≡◌, ◌∙◌, true, false, None, ap, sym}
use Rattle.id_window.specs.Crossing.{crossing}
use Rattle.id_window.specs.Window.{Stands}
use Rattle.id_window.specs.Places.{last_below, first_above, is_some_past, is_some_short}
use Rattle.id_window.proofs.InOrderLemmas.{accepted_rise}
use Rattle.id_window.proofs.CrossingLemmas.{low_there, high_there, apart_there}
use Rattle.id_window.proofs.window.Window.crosses.Goals as goal

pub place_of-place-requires : goal.place_of-place-requires
place_of-place-requires c = accepted_rise _ _ _ c.self.invariant.0

pub first_above-requires-clause-ascending : goal.first_above-requires-clause-ascending
first_above-requires-clause-ascending c = accepted_rise _ _ _ c.self.invariant.0

pub returns-then-is_past-clause-value : goal.returns-then-is_past-clause-value
returns-then-is_past-clause-value c =
    let past : is_some_past c.args.seq (last_below c.args.number c.self.inside.accepted.items None) ≡ true = ap (is_some_past c.args.seq) (sym c.last_below.ensures) ∙ (sym c.is_past.ensures ∙ c.if-is_past.true) in
    rw (← c.self.view_is) (low_there c.args.number c.args.seq c.self.inside.accepted.items (accepted_rise _ _ _ c.self.invariant.0) c.self.invariant.0.seqs past)

pub returns-then-is_past-clause-stands : goal.returns-then-is_past-clause-stands
unfolding Stands
returns-then-is_past-clause-stands c history marks stands = returns-then-is_past-clause-value c ∙ ap (crossing c.args.number c.args.seq) stands.accepted

pub returns-then-is_short-clause-value : goal.returns-then-is_short-clause-value
returns-then-is_short-clause-value c =
    let past : is_some_past c.args.seq (last_below c.args.number c.self.inside.accepted.items None) ≡ false = ap (is_some_past c.args.seq) (sym c.last_below.ensures) ∙ (sym c.is_past.ensures ∙ c.if-is_past.false) in
    let short : is_some_short c.args.seq (first_above c.args.number c.self.inside.accepted.items) ≡ true = ap (is_some_short c.args.seq) (sym c.first_above.ensures) ∙ (sym c.is_short.ensures ∙ c.if-is_short.true) in
    rw (← c.self.view_is) (high_there c.args.number c.args.seq c.self.inside.accepted.items (accepted_rise _ _ _ c.self.invariant.0) c.self.invariant.0.seqs past short)

pub returns-then-is_short-clause-stands : goal.returns-then-is_short-clause-stands
unfolding Stands
returns-then-is_short-clause-stands c history marks stands = returns-then-is_short-clause-value c ∙ ap (crossing c.args.number c.args.seq) stands.accepted

pub returns-clause-value : goal.returns-clause-value
returns-clause-value c =
    let past : is_some_past c.args.seq (last_below c.args.number c.self.inside.accepted.items None) ≡ false = ap (is_some_past c.args.seq) (sym c.last_below.ensures) ∙ (sym c.is_past.ensures ∙ c.if-is_past.false) in
    let short : is_some_short c.args.seq (first_above c.args.number c.self.inside.accepted.items) ≡ false = ap (is_some_short c.args.seq) (sym c.first_above.ensures) ∙ (sym c.is_short.ensures ∙ c.if-is_short.false) in
    rw (← c.self.view_is) (apart_there c.args.number c.args.seq c.self.inside.accepted.items (accepted_rise _ _ _ c.self.invariant.0) c.self.invariant.0.seqs past short)

pub returns-clause-stands : goal.returns-clause-stands
unfolding Stands
returns-clause-stands c history marks stands = returns-clause-value c ∙ ap (crossing c.args.number c.args.seq) stands.accepted
