use Rattle.std.proofs.Common.{◌≡◌, ◌∙◌, ◌+◌, ℕ, eqb, Bool, true, List, get_or, take, ap, sym, subst, arith, inl, inr}
use Rattle.std.specs.Prelude.{◌||◌}
use Rattle.std.proofs.lemmas.Bool.{or_cases, or_left, or_right}
use Rattle.std.proofs.lemmas.List.{take_all}
use Rattle.std.proofs.lemmas.List.Folds.{list_any_more}
use Rattle.outbox.specs.declared.kept.Kept.{Kept}
use Rattle.server_session.specs.Unsaid.{IsCalled, is_among, is_numbered}
use Rattle.server_session.proofs.UnsaidLemmas.{fewer-called, once-by-key}
use Rattle.server_session.proofs.session.SessionState.calls_for_numbers.Goals as goal

pub loop-place-init : goal.loop-place-init
loop-place-init c = λ which is. is

pub loop-place-preserved : goal.loop-place-preserved
loop-place-preserved c = λ which is.
    let ids = c.args.ids.now in
    let place = c.loop-place.place in
    let number = get_or ids place 0 in
    let standing = c.args.self.now in
    let so_far : Kept → Bool = λ kept. is_among (take place ids) kept || which kept in
    let more : Kept → Bool = λ kept. is_numbered number kept || so_far kept in
    let next = c.with_one-called.ensures so_far (is_numbered number) (sym c.by_number.ensures)
    (λ apart. once-by-key (λ (kept : Kept). kept.number) number standing.outbox.replies apart.numbers) (c.loop-place.invariant which is) in
    fewer-called (λ kept. is_among (take (place + 1) ids) kept || which kept) more standing c.with_one-called.result
    (λ kept called. elim (or_cases (is_among (take (place + 1) ids) kept) (which kept) called) [
      | inl among ↦
          elim (or_cases (is_among (take place ids) kept) (is_numbered number kept)
          (sym (list_any_more (λ (one : ℕ). eqb kept.number one) ids place 0 c.loop-place-test.true) ∙ among)) [
            | inl before ↦ or_right (is_numbered number kept) (so_far kept) (or_left (is_among (take place ids) kept) (which kept) before)
            | inr here ↦ or_left (is_numbered number kept) (so_far kept) here
          ]
      | inr one ↦ or_right (is_numbered number kept) (so_far kept) (or_right (is_among (take place ids) kept) (which kept) one)
    ]) next

pub returns : goal.returns
returns c = λ which is.
    subst (λ (numbers : List ℕ). IsCalled (λ kept. is_among numbers kept || which kept) c.args.self.now c.loop-place.called)
    (take_all c.loop-place.place c.args.ids.now (omega arith)) (c.loop-place.invariant which is)
