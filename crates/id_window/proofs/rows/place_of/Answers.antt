use Rattle.std.proofs.Common.{arith, length, get_or, suc, ℕ, ◌≡◌, ◌≤◌, ◌<◌, ◌-◌, ◌∙◌, ap, sym, subst, map}
use Rattle.id_window.proofs.PlaceLemmas.{place_behind, place_between, place_front, place_past, rises_back, rises_front}
use Rattle.id_window.specs.Places.{place}
use Rattle.id_window.proofs.rows.place_of.Goals as goal

pub returns-then-number-clause-place : goal.returns-then-number-clause-place
returns-then-number-clause-place g c =
    let key = g.T.Numbered.number_of in
    let entries = c.args.entries.now.items in
    let long : length entries ≡ suc (c.len-count.result - 1) = omega (arith, c.args.entries.now.ok.0, c.len-count.ensures, c.if-count-eq0.false) in
    let same : c.number.result ≡ key (get_or entries (c.len-count.result - 1) c.index.result.now) = c.number.ensures ∙ ap key c.index.ensures in
    let last : key (get_or entries (c.len-count.result - 1) c.index.result.now) < c.args.number = omega (arith, same, c.if-number.true) in
    let behind : suc (c.len-count.result - 1) ≡ place c.args.number (map key entries) = place_behind key c.args.number entries (c.len-count.result - 1) c.index.result.now c.requires long last in
    omega (arith, behind, c.if-count-eq0.false)

pub returns-then-number-2-clause-place : goal.returns-then-number-2-clause-place
returns-then-number-2-clause-place g c =
    let key = g.T.Numbered.number_of in
    let entries = c.args.entries.now.items in
    let k = c.len-count.result - 2 in
    let long : suc k < length entries = omega (arith, c.args.entries.now.ok.0, c.len-count.ensures, c.if-count-gt1.true) in
    let below : key (get_or entries k c.index-then-count-gt1.result.now) < c.args.number = omega (arith, c.number-then-count-gt1.ensures ∙ ap key c.index-then-count-gt1.ensures, c.if-number-2.true) in
    let next : suc k ≡ c.len-count.result - 1 = omega (arith, c.if-count-gt1.true) in
    let same : c.number.result ≡ key (get_or entries (c.len-count.result - 1) c.index.result.now) = c.number.ensures ∙ ap key c.index.ensures in
    let last : c.args.number ≤ key (get_or entries (suc k) c.index.result.now) =
    subst (λ (at : ℕ). c.args.number ≤ key (get_or entries at c.index.result.now)) (sym next) (omega (arith, same, c.if-number.false)) in
    let between : suc k ≡ place c.args.number (map key entries) = place_between key c.args.number entries k c.index-then-count-gt1.result.now c.index.result.now c.requires long below last in
    omega (arith, between, long)

pub place_in-place-requires : goal.place_in-place-requires
place_in-place-requires g c =
    let key = g.T.Numbered.number_of in
    rises_front key c.as_slices.result.0.now c.as_slices.result.1.now (rw c.as_slices.ensures.items c.requires)

pub place_in-requires : goal.place_in-requires
place_in-requires g c =
    let key = g.T.Numbered.number_of in
    rises_back key c.as_slices.result.0.now c.as_slices.result.1.now (rw c.as_slices.ensures.items c.requires)

pub returns-then-place-front-clause-place : goal.returns-then-place-front-clause-place
returns-then-place-front-clause-place g c =
    let key = g.T.Numbered.number_of in
    rw (← c.as_slices.ensures.items) (c.place_in-place.ensures.place ∙ place_front key c.args.number c.as_slices.result.0.now c.as_slices.result.1.now (omega (arith, c.place_in-place.ensures.place)))

pub returns-clause-place : goal.returns-clause-place
returns-clause-place g c =
    let key = g.T.Numbered.number_of in
    let past = place_past key c.args.number c.as_slices.result.0.now c.as_slices.result.1.now (omega (arith, c.place_in-place.ensures.place)) in
    rw (← c.as_slices.ensures.items) (omega (arith, past, c.place_in-place.ensures, c.place_in.ensures))
