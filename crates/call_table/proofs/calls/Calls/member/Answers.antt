use Rattle.std.proofs.Common.{◌≡◌, ◌∙◌, ◌<◌, ◌≤◌, true, false, inl, inr, ℕ, List, length, ap, sym, subst, refl, arith}
use Rattle.std.proofs.lemmas.Bool.{cases_lt}
use Rattle.std.specs.Prelude.{option_map, slice_get}
use Rattle.call_table.specs.Table.{IsGiven, call_no, places_from, is_in}
use Rattle.call_table.specs.Kept.{Contents, IsMember, is_row_in}
use Rattle.call_table.proofs.GroupLemmas.{get_map, get_past}
use Rattle.call_table.proofs.StandsLemmas.{group_stands, told_at}
use Rattle.call_table.proofs.HeldLemmas.{member_told}
use Rattle.call_table.proofs.calls.Calls.member.Goals as goal

pub returns-in_err-place-clause-kept : goal.returns-in_err-place-clause-kept
returns-in_err-place-clause-kept c =
    let items = c.of.result.now.items in
    let past : length items ≤ c.args.k = elim (cases_lt c.args.k (length items)) [
      | inl below ↦ let e : false ≡ true = c.in_err-place.ensures.variant.1 (omega (arith, c.of.result.now.ok.0)) in cc
      | inr at ↦ at
    ] in
    let same : items ≡ places_from (is_row_in c.args.group) 0 c.args.self.now.rows = c.of.ensures ∙ (c.self.invariant.0.grouped c.args.group ∙ ap (λ (kept : Contents). places_from (is_row_in c.args.group) 0 kept.rows) c.self.view_is) in
    c.from_residual.ensures ∙ (ap (option_map call_no) (sym (get_past items c.args.k past)) ∙ ap (λ (ps : List ℕ). option_map call_no (slice_get ps c.args.k)) same)

pub returns-in_err-place-clause-member : goal.returns-in_err-place-clause-member
returns-in_err-place-clause-member c = λ table stands.
    returns-in_err-place-clause-kept c
    ∙ (ap (λ (ps : List ℕ). option_map call_no (slice_get ps c.args.k)) (group_stands c.args.group c.args.self.now table stands)
    ∙ sym (get_map call_no (places_from (is_in c.args.group) 0 table.calls) c.args.k))

pub returns-clause-kept : goal.returns-clause-kept
returns-clause-kept c =
    let items = c.of.result.now.items in
    let within : c.args.k < length items = omega (arith, c.of.result.now.ok.0, c.in_ok-place.ensures.variant.0 refl) in
    let same : items ≡ places_from (is_row_in c.args.group) 0 c.args.self.now.rows = c.of.ensures ∙ (c.self.invariant.0.grouped c.args.group ∙ ap (λ (kept : Contents). places_from (is_row_in c.args.group) 0 kept.rows) c.self.view_is) in
    sym (told_at call_no c.args.k items c.in_ok-place.field-0.now within c.in_ok-place.ensures.lookup) ∙ ap (λ (ps : List ℕ). option_map call_no (slice_get ps c.args.k)) same

pub returns-clause-member : goal.returns-clause-member
returns-clause-member c = λ table stands.
    returns-clause-kept c
    ∙ (ap (λ (ps : List ℕ). option_map call_no (slice_get ps c.args.k)) (group_stands c.args.group c.args.self.now table stands)
    ∙ sym (get_map call_no (places_from (is_in c.args.group) 0 table.calls) c.args.k))

pub returns-in_err-place-clause-given : goal.returns-in_err-place-clause-given
returns-in_err-place-clause-given c = rw c.from_residual.ensures tt

pub returns-in_err-place-clause-one : goal.returns-in_err-place-clause-one
returns-in_err-place-clause-one c = rw c.from_residual.ensures tt

pub returns-clause-given : goal.returns-clause-given
returns-clause-given c =
    let items = c.of.result.now.items in
    let place = c.in_ok-place.field-0.now in
    let within : c.args.k < length items = omega (arith, c.of.result.now.ok.0, c.in_ok-place.ensures.variant.0 refl) in
    subst (λ (kept : Contents). IsGiven (call_no place) kept.rows) c.self.view_is (member_told c.args.group c.self.inside.rows.items items c.args.k place c.self.invariant.0.unmarked (c.of.ensures ∙ c.self.invariant.0.grouped c.args.group) within c.in_ok-place.ensures.lookup).given

pub returns-clause-one : goal.returns-clause-one
returns-clause-one c =
    let items = c.of.result.now.items in
    let place = c.in_ok-place.field-0.now in
    let within : c.args.k < length items = omega (arith, c.of.result.now.ok.0, c.in_ok-place.ensures.variant.0 refl) in
    subst (λ (kept : Contents). IsMember c.args.group (call_no place) kept.rows) c.self.view_is (member_told c.args.group c.self.inside.rows.items items c.args.k place c.self.invariant.0.unmarked (c.of.ensures ∙ c.self.invariant.0.grouped c.args.group) within c.in_ok-place.ensures.lookup).one
