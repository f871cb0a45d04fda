use Rattle.std.proofs.Common.{◌≡◌, ◌≢◌, ◌∙◌, ℕ, ◌+◌, ◌≤◌, suc, List, map, length, get_or, sym, ap, subst, arith, Some, add-one}
use Rattle.std.proofs.lemmas.List.{get_or_default}
use Rattle.id_window.specs.declared.rows.Accepted.{Accepted}
use Rattle.id_window.specs.Places.{place, first_above}
use Rattle.id_window.specs.Window.{Rises}
use Rattle.id_window.proofs.PlaceLemmas.{accepted_key, no_first_above, first_above_at, first_above_next, no_first_above_next}
use Rattle.id_window.proofs.neighbours.first_above.Goals as goal

pub returns-then-at-len : goal.returns-then-at-len
returns-then-at-len c = sym (no_first_above c.args.number c.args.accepted.now.items (omega (arith, c.args.accepted.now.ok.0)))

pub returns-then-first-number : goal.returns-then-first-number
returns-then-first-number c =
    let read = c.index-first.ensures in
    let other : (get_or c.args.accepted.now.items c.args.at c.index-first.result.now).number ≢ c.args.number = subst (λ (one : Accepted). one.number ≢ c.args.number) read c.if-first-number.true in
    ap Some read ∙ sym (first_above_at c.args.number c.args.accepted.now.items c.args.at c.index-first.result.now c.requires.at (omega (arith, c.args.accepted.now.ok.0)) other)

pub returns-then-at-len-2 : goal.returns-then-at-len-2
returns-then-at-len-2 c =
    let same : (get_or c.args.accepted.now.items c.args.at c.index-first.result.now).number ≡ c.args.number = subst (λ (one : Accepted). one.number ≡ c.args.number) c.index-first.ensures c.if-first-number.false in
    sym (no_first_above_next c.args.number c.args.accepted.now.items c.args.at c.index-first.result.now c.requires.at (omega (arith, c.args.accepted.now.ok.0)) same)

-- the entry of this number is followed by another one
next_of : (number : ℕ) (xs : List Accepted) (at len : ℕ) (d e : Accepted) → at ≡ place number (map accepted_key xs) → (at + 1 ≡ len → ⊥) → (at ≡ len → ⊥) → at ≤ length xs → len ≡ length xs → d ≡ get_or xs at d → d.number ≡ number → Rises (map accepted_key xs) → e ≡ get_or xs (at + 1) e → Some e ≡ first_above number xs
next_of number xs at len d e here more some within long read same rises next =
    let same' : (get_or xs at d).number ≡ number = subst (λ (one : Accepted). one.number ≡ number) read same in
    let next' : e ≡ get_or xs (suc at) e = rw add-one at next in
    ap Some next' ∙ (ap Some (get_or_default xs (suc at) e d (omega arith)) ∙ sym (first_above_next number xs at d here (omega arith) same' rises))

pub returns : goal.returns
returns c =
    next_of c.args.number c.args.accepted.now.items c.args.at c.len-2.result c.index-first.result.now c.index.result.now c.requires.at c.if-at-len-2.false (λ e. c.if-at-len.false (omega arith)) c.requires.within (omega (arith, c.args.accepted.now.ok.0)) c.index-first.ensures c.if-first-number.false c.requires.ascending c.index.ensures
