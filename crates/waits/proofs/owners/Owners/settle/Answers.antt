use Rattle.std.proofs.Common.{◌≡◌, ◌∙◌, suc, List, ◌++◌, length, map, take, drop, ap, sym, subst, arith, length-append}
use Rattle.std.proofs.lemmas.List.{length-map, get_or-set_same}
use Rattle.waits.specs.declared.stamped.Stamped.{Stamped}
use Rattle.waits.specs.Jobs.{is_of}
use Rattle.waits.specs.Stamps.{tally, after}
use Rattle.waits.specs.Totals.{AreTotals}
use Rattle.waits.specs.Parts.{Part, all_of}
use Rattle.waits.specs.Kept.{Kept, strangers}
use Rattle.waits.proofs.Counted.{part_held, part_changed}
use Rattle.waits.proofs.Parts.{none_there}
use Rattle.waits.proofs.Keeping.{none_told, strangers_told}
use Rattle.waits.proofs.Lent.{lent_at, lent_part, own_at, parts_set, told_set, same_lent, around_at, around_set}
use Rattle.waits.proofs.owners.Owners.settle.Goals as goal

pub returns-in_default-clause-jobs : goal.returns-in_default-clause-jobs
returns-in_default-clause-jobs c =
    let answer = c.args.answer in
    let none = none_there answer.key answer.session c.self.inside.list.items c.in_default.ensures c.self.invariant.apart in
    let absent = subst (λ (kept : Kept). tally (λ x. is_of answer.key answer.session x.one) kept.jobs ≡ 0) c.self.view_is none in
    sym (none_told answer.key answer.session answer.number answer.ok c.args.self.now.jobs absent)

pub settle-requires : goal.settle-requires
settle-requires c =
    let lent = lent_part c.args.answer.key c.args.answer.session c.self.inside.list.items c.in-Some.place c.index_mut.result.now c.in-Some.ensures c.self.invariant.apart c.index_mut.ensures.value in
    lent.among.here

pub changed-self-inside-requires : goal.changed-self-inside-requires
changed-self-inside-requires c =
    let ps = c.self.inside.list.items in
    let i = c.in-Some.place in
    let part = c.index_mut.result.now in
    let new = c.settle.new.self in
    let f = after c.args.answer.key c.args.answer.session c.args.answer.number c.args.answer.ok in
    let lent = lent_part c.args.answer.key c.args.answer.session ps i part c.in-Some.ensures c.self.invariant.apart c.index_mut.ensures.value in
    let first = same_lent ps i c.index.result.now part (lent_at ps i c.index.result.now lent.within c.index.ensures) lent.at in
    let last : c.index-2.result.now ≡ new = c.index-2.ensures ∙ get_or-set_same ps i new c.index-2.result.now lent.within in
    let front = all_of (take i ps) in
    let back = all_of (drop (suc i) ps) in
    let parts = around_at ps i part lent.at in
    part_held front part.jobs new.jobs back c.self.inside.totals c.totals-before.result c.totals.result
    (subst (λ (xs : List Stamped). AreTotals xs c.self.inside.totals) parts c.self.invariant.counted)
    (subst (λ (p : Part). AreTotals p.jobs c.totals-before.result) first c.totals-before.ensures.totals)
    (subst (λ (p : Part). AreTotals p.jobs c.totals.result) last c.totals.ensures.totals)
    (omega (arith, c.self.invariant.few, ap (λ (xs : List Stamped). length xs) parts, length-append front (part.jobs ++ back), length-append part.jobs back, ap (λ (p : Part). length p.jobs) c.settle.ensures, length-map part.jobs f))

pub invariant_of-self : goal.invariant_of-self
invariant_of-self c =
    let ps = c.self.inside.list.items in
    let i = c.in-Some.place in
    let part = c.index_mut.result.now in
    let new = c.settle.new.self in
    let answer = c.args.answer in
    let f = after answer.key answer.session answer.number answer.ok in
    let lent = lent_part answer.key answer.session ps i part c.in-Some.ensures c.self.invariant.apart c.index_mut.ensures.value in
    let first = same_lent ps i c.index.result.now part (lent_at ps i c.index.result.now lent.within c.index.ensures) lent.at in
    let last : c.index-2.result.now ≡ new = c.index-2.ensures ∙ get_or-set_same ps i new c.index-2.result.now lent.within in
    let front = all_of (take i ps) in
    let back = all_of (drop (suc i) ps) in
    let parts = around_at ps i part lent.at in
    let told = told_set answer.key answer.session answer.number answer.ok ps i part new lent (ap (λ (p : Part). p.jobs) c.settle.ensures) in
    record {
      apart = parts_set ps i part new lent.at lent.within c.self.invariant.apart
          (ap (λ (p : Part). p.key) c.settle.ensures)
          (ap (λ (p : Part). p.session) c.settle.ensures)
          (ap strangers c.settle.ensures ∙ strangers_told part answer.key answer.session answer.number answer.ok (own_at ps i part lent.at c.self.invariant.apart));
      counted = subst (λ (xs : List Stamped). AreTotals xs c.changed-self-inside.result) (sym (around_set ps i new lent.within))
          (part_changed front part.jobs new.jobs back c.self.inside.totals c.totals-before.result c.totals.result c.changed-self-inside.result
          (subst (λ (xs : List Stamped). AreTotals xs c.self.inside.totals) parts c.self.invariant.counted)
          (subst (λ (p : Part). AreTotals p.jobs c.totals-before.result) first c.totals-before.ensures.totals)
          (subst (λ (p : Part). AreTotals p.jobs c.totals.result) last c.totals.ensures.totals)
          c.changed-self-inside.ensures);
      few = omega (arith, c.self.invariant.few, ap (λ (xs : List Stamped). length xs) told, length-map (all_of ps) f);
    }

pub returns-clause-jobs : goal.returns-clause-jobs
returns-clause-jobs c =
    let answer = c.args.answer in
    let ps = c.self.inside.list.items in
    let i = c.in-Some.place in
    let lent = lent_part answer.key answer.session ps i c.index_mut.result.now c.in-Some.ensures c.self.invariant.apart c.index_mut.ensures.value in
    told_set answer.key answer.session answer.number answer.ok ps i c.index_mut.result.now c.settle.new.self lent (ap (λ (p : Part). p.jobs) c.settle.ensures)
    ∙ ap (λ (kept : Kept). map (after answer.key answer.session answer.number answer.ok) kept.jobs) c.self.view_is
