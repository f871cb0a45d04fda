use Rattle.std.proofs.Common.{◌≡◌, ◌∙◌, ◌<◌, ◌≤◌, ℕ, List, refl, true, false, inl, inr, length, map, ap, sym, subst, arith}
use Rattle.std.proofs.lemmas.Bool.{cases_lt}
use Rattle.std.specs.Prelude.{option_map, slice_get, IsSome}
use Rattle.call_table.specs.Kept.{Contents, numbers_in, owner_in}
use Rattle.call_table.proofs.PlaceLemmas.{number_of}
use Rattle.call_table.proofs.GroupLemmas.{get_map, get_past}
use Rattle.call_table.proofs.StandsLemmas.{told_at}
use Rattle.call_table.proofs.NumberLemmas.{names_are_numbers, number_owned, numbers_stand}
use Rattle.call_table.proofs.calls.Calls.living_at.Goals as goal

pub returns-in_err-one-clause-kept : goal.returns-in_err-one-clause-kept
returns-in_err-one-clause-kept c =
    let items = c.self.inside.names.items in
    let past : length items ≤ c.args.k = elim (cases_lt c.args.k (length items)) [
      | inl below ↦ let e : false ≡ true = c.in_err-one.ensures.variant.1 (omega (arith, c.self.inside.names.ok.0)) in cc
      | inr at ↦ at
    ] in
    let same : map number_of items ≡ numbers_in c.args.self.now.rows = names_are_numbers c.self.inside.rows.items items c.self.invariant.0.indexed ∙ ap (λ (kept : Contents). numbers_in kept.rows) c.self.view_is in
    c.from_residual.ensures
    ∙ (ap (option_map number_of) (sym (get_past items c.args.k past))
    ∙ (sym (get_map number_of items c.args.k) ∙ ap (λ (ns : List ℕ). slice_get ns c.args.k) same))

pub returns-in_err-one-clause-living : goal.returns-in_err-one-clause-living
returns-in_err-one-clause-living c = λ table stands. returns-in_err-one-clause-kept c ∙ ap (λ (ns : List ℕ). slice_get ns c.args.k) (numbers_stand c.args.self.now table stands)

pub returns-clause-kept : goal.returns-clause-kept
returns-clause-kept c =
    let items = c.self.inside.names.items in
    let within : c.args.k < length items = omega (arith, c.self.inside.names.ok.0, c.in_ok-one.ensures.variant.0 refl) in
    let same : map number_of items ≡ numbers_in c.args.self.now.rows = names_are_numbers c.self.inside.rows.items items c.self.invariant.0.indexed ∙ ap (λ (kept : Contents). numbers_in kept.rows) c.self.view_is in
    sym (told_at number_of c.args.k items c.in_ok-one.one.now within c.in_ok-one.ensures.lookup)
    ∙ (sym (get_map number_of items c.args.k) ∙ ap (λ (ns : List ℕ). slice_get ns c.args.k) same)

pub returns-clause-owned : goal.returns-clause-owned
returns-clause-owned c =
    let items = c.self.inside.names.items in
    let within : c.args.k < length items = omega (arith, c.self.inside.names.ok.0, c.in_ok-one.ensures.variant.0 refl) in
    subst (λ (kept : Contents). IsSome (owner_in c.in_ok-one.one.now.number kept.rows)) c.self.view_is (number_owned c.self.inside.rows.items items c.args.k c.in_ok-one.one.now c.self.invariant.0.indexed within c.in_ok-one.ensures.lookup)

pub returns-clause-living : goal.returns-clause-living
returns-clause-living c = λ table stands. returns-clause-kept c ∙ ap (λ (ns : List ℕ). slice_get ns c.args.k) (numbers_stand c.args.self.now table stands)
