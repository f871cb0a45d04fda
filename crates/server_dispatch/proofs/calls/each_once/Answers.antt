use Rattle.std.proofs.Common.{◌∙◌, ℕ, Vec, Global, get_or, vec_len, vec_capacity, arith, ap, sym}
use Rattle.std.proofs.lemmas.List.{take_all}
use Rattle.server_rules.specs.Calls.{each_once}
use Rattle.server_dispatch.proofs.Once.{among, passed-absent, passed-there}
use Rattle.server_dispatch.proofs.calls.each_once.Goals as goal
use Rattle.server_dispatch.proofs.calls.each_once.Goals.{then-not-has, else-not-has}

pub loop-place-preserved : goal.loop-place-preserved
loop-place-preserved c =
    let numbers = c.args.numbers.now in
    let place = c.loop-place.place in
    let held = c.loop-place.invariant in
    let test = ap (among (get_or numbers place 0)) (sym c.as_slice.ensures.value) ∙ sym c.has.ensures in
    elim c.if-not-has.branch [
      | then-not-has w ↦ (
        ap (λ (v : Vec ℕ Global). v.items) w.once-is ∙ (w.push_reserved.ensures.items
            ∙ passed-absent numbers c.loop-place.once.items place c.loop-place-test.true held.0 (test ∙ w.if-not-has.true)),
        omega (arith, ap (λ (v : Vec ℕ Global). vec_len v) w.once-is, w.push_reserved.ensures.len, held.1),
        ap (λ (v : Vec ℕ Global). vec_capacity v) w.once-is ∙ (w.push_reserved.ensures.capacity ∙ held.2),
      )
      | else-not-has w ↦ (
        ap (λ (v : Vec ℕ Global). v.items) w.once-is
            ∙ passed-there numbers c.loop-place.once.items place c.loop-place-test.true held.0 (test ∙ w.if-not-has.false),
        omega (arith, ap (λ (v : Vec ℕ Global). vec_len v) w.once-is, held.1),
        ap (λ (v : Vec ℕ Global). vec_capacity v) w.once-is ∙ held.2,
      )
    ]

pub push_reserved-requires : goal.push_reserved-requires
push_reserved-requires c = let held = c.loop-place.invariant in omega (arith, held.1, held.2, c.loop-place-test.true)

pub returns : goal.returns
returns c = c.loop-place.invariant.0 ∙ ap each_once (take_all c.loop-place.place c.args.numbers.now (omega arith))
