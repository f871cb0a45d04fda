use Rattle.std.proofs.Common.{◌∙◌, ℕ, max, nat_le, ◌∷◌, ◌++◌, [], List, length, ap, arith, refl, sym}
use Rattle.std.proofs.lemmas.List.{append-nil}
use Rattle.waits.specs.declared.stamped.Stamped.{Stamped}
use Rattle.waits.specs.Jobs.{is_of}
use Rattle.waits.specs.Stamps.{bytes_of, tally, IsWith}
use Rattle.waits.specs.Parts.{Part}
use Rattle.waits.proofs.Counted.{are_below}
use Rattle.waits.proofs.Owning.{owned_more}
use Rattle.waits.proofs.View.{part_changed}
use Rattle.waits.proofs.owner.Owner.push.Goals as goal

pub with-self-inside-requires : goal.with-self-inside-requires
with-self-inside-requires c = are_below c.self.inside.jobs c.self.inside.totals (omega (arith, c.self.invariant.fits)) c.self.invariant.totals

pub overflow_add-self : goal.overflow_add-self
overflow_add-self c = omega (arith, c.load.ensures, c.self.invariant.bytes, c.requires.bytes_fit, ap (λ (part : Part). bytes_of part.jobs) c.self.view_is)

pub join-requires : goal.join-requires
join-requires c = omega (arith, ap (λ (xs : List Stamped). length xs) c.fill.ensures.left, c.self.invariant.fits)

pub invariant_of-self : goal.invariant_of-self
invariant_of-self c =
    let xs = c.self.inside.jobs in
    let x = c.args.job in
    let view = c.self.view_is in
    let among : IsWith x xs (xs ++ x ∷ []) = record { front = xs; back = []; less = sym (append-nil xs); more = refl } in
    owned_more c.self.inside x c.join.new.nodes c.with-self-inside.result _ c.max-self-inside.result c.stays_single-self-inside.result c.self.invariant
    (c.join.ensures ∙ ap (λ (ys : List Stamped). xs ++ ys) c.fill.ensures.left)
    (ap (λ (part : Part). is_of part.key part.session x.one) view ∙ c.requires.own)
    (omega (arith, c.requires.fits, ap (λ (part : Part). length part.jobs) view))
    (omega (arith, c.requires.bytes_fit, ap (λ (part : Part). bytes_of part.jobs) view))
    (ap (λ (part : Part). tally (λ y. nat_le x.stamp y.stamp) part.jobs) view ∙ c.requires.later)
    (c.with-self-inside.ensures xs (xs ++ x ∷ []) among c.self.invariant.totals)
    (omega (arith, c.load.ensures))
    (c.max-self-inside.ensures ∙ ap (λ (n : ℕ). max c.self.inside.greatest n) c.greatest.ensures)
    c.stays_single-self-inside.ensures

pub returns : goal.returns
returns c =
    let xs = c.self.inside.jobs in
    part_changed (λ ys. ys ++ c.args.job ∷ []) c.self.inside.key c.self.inside.session xs c.join.new.nodes c.args.self.now c.self.view_is
    (c.join.ensures ∙ ap (λ (ys : List Stamped). xs ++ ys) c.fill.ensures.left)
