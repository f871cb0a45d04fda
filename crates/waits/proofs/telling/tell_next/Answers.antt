use Rattle.std.proofs.Common.{◌∙◌, ◌∷◌, ◌++◌, [], List, length, drop, map, ap, sym, subst, arith, length-append}
use Rattle.std.proofs.lemmas.List.{length-take, length-map}
use Rattle.waits.specs.declared.stamped.Stamped.{Stamped}
use Rattle.waits.specs.Jobs.{load_of}
use Rattle.waits.specs.Stamps.{after, bytes_of}
use Rattle.waits.specs.Totals.{AreTotals}
use Rattle.waits.proofs.Numbers.{less_load}
use Rattle.waits.proofs.Counted.{holds_one, are_below, among_sum, among_length}
use Rattle.waits.proofs.Owned.{next_among, told_among}
use Rattle.waits.proofs.ToldJobs.{told_one, joined_with}
use Rattle.waits.proofs.telling.tell_next.Goals as goal

pub only-before-requires : goal.only-before-requires
only-before-requires c = omega (arith, ap (λ (xs : List Stamped). length xs) c.cut-later.ensures.front, length-take 1 c.args.left.now, c.requires.some)

pub without-others-requires : goal.without-others-requires
without-others-requires c =
    let told = c.args.told.now in
    let left = c.args.left.now in
    let x = c.only-before.result.now in
    holds_one x (told ++ drop 1 left) (told ++ left) c.args.totals.now (next_among told left x (sym c.cut-later.ensures.front ∙ c.only-before.ensures)) c.requires.totals

pub overflow_sub-bytes_of_others : goal.overflow_sub-bytes_of_others
overflow_sub-bytes_of_others c =
    let told = c.args.told.now in
    let left = c.args.left.now in
    let x = c.only-before.result.now in
    omega (arith, c.load.ensures, c.requires.bytes, among_sum (λ y. load_of y.one.job) x (told ++ drop 1 left) (told ++ left) (next_among told left x (sym c.cut-later.ensures.front ∙ c.only-before.ensures)))

-- what is left is one job less, and what is told one more
pub tell-requires : goal.tell-requires
tell-requires c = omega (arith, ap (λ (xs : List Stamped). length xs) c.cut-later.ensures.front, length-take 1 c.args.left.now, c.requires.some)

pub only-after-requires : goal.only-after-requires
only-after-requires c =
    let f = after c.args.answer.key c.args.answer.session c.args.answer.number c.args.answer.ok in
    omega (arith, ap (λ (xs : List Stamped). length xs) c.tell.ensures, length-map c.cut-later.new.nodes f, ap (λ (xs : List Stamped). length xs) c.cut-later.ensures.front, length-take 1 c.args.left.now, c.requires.some)

pub with-requires : goal.with-requires
with-requires c =
    let told = c.args.told.now in
    let left = c.args.left.now in
    let x = c.only-before.result.now in
    let among = next_among told left x (sym c.cut-later.ensures.front ∙ c.only-before.ensures) in
    are_below (told ++ drop 1 left) c.without-others.result (omega (arith, c.requires.fits, among_length x (told ++ drop 1 left) (told ++ left) among, length-append told left)) (c.without-others.ensures (told ++ drop 1 left) (told ++ left) among c.requires.totals)

pub overflow_add-bytes : goal.overflow_add-bytes
overflow_add-bytes c =
    let f = after c.args.answer.key c.args.answer.session c.args.answer.number c.args.answer.ok in
    let x = c.only-before.result.now in
    let y = c.only-after.result.now in
    let is = told_one f c.args.left.now x y (sym c.cut-later.ensures.front ∙ c.only-before.ensures) (ap (map f) (sym c.cut-later.ensures.front) ∙ (sym c.tell.ensures ∙ c.only-after.ensures)) in
    omega (arith, c.load.ensures, c.load-2.ensures, ap (λ (z : Stamped). load_of z.one.job) is, less_load c.args.answer.key c.args.answer.session c.args.answer.number c.args.answer.ok x.one, c.requires.bytes_fit)

pub returns-clause-totals : goal.returns-clause-totals
returns-clause-totals c =
    let told = c.args.told.now in
    let left = c.args.left.now in
    let x = c.only-before.result.now in
    let y = c.only-after.result.now in
    let before = next_among told left x (sym c.cut-later.ensures.front ∙ c.only-before.ensures) in
    let others = c.without-others.ensures (told ++ drop 1 left) (told ++ left) before c.requires.totals in
    let joined = joined_with told (drop 1 left) y c.replace.result c.join.new.nodes c.replace.new.dest c.join.ensures (c.replace.ensures.value ∙ c.only-after.ensures) (c.replace.ensures.after ∙ c.cut-later.ensures.rest) in
    subst (λ (xs : List Stamped). AreTotals xs c.with.result) (sym joined) (c.with.ensures (told ++ drop 1 left) ((told ++ y ∷ []) ++ drop 1 left) (told_among told (drop 1 left) y) others)

pub returns-clause-bytes : goal.returns-clause-bytes
returns-clause-bytes c =
    let told = c.args.told.now in
    let left = c.args.left.now in
    let x = c.only-before.result.now in
    let y = c.only-after.result.now in
    let before = next_among told left x (sym c.cut-later.ensures.front ∙ c.only-before.ensures) in
    let joined = joined_with told (drop 1 left) y c.replace.result c.join.new.nodes c.replace.new.dest c.join.ensures (c.replace.ensures.value ∙ c.only-after.ensures) (c.replace.ensures.after ∙ c.cut-later.ensures.rest) in
    omega (arith, c.requires.bytes, c.load.ensures, c.load-2.ensures, ap bytes_of joined, among_sum (λ z. load_of z.one.job) x (told ++ drop 1 left) (told ++ left) before, among_sum (λ z. load_of z.one.job) y (told ++ drop 1 left) ((told ++ y ∷ []) ++ drop 1 left) (told_among told (drop 1 left) y))

pub returns-clause-bytes_fit : goal.returns-clause-bytes_fit
returns-clause-bytes_fit c =
    let f = after c.args.answer.key c.args.answer.session c.args.answer.number c.args.answer.ok in
    let told = c.args.told.now in
    let left = c.args.left.now in
    let x = c.only-before.result.now in
    let y = c.only-after.result.now in
    let before = next_among told left x (sym c.cut-later.ensures.front ∙ c.only-before.ensures) in
    let is = told_one f left x y (sym c.cut-later.ensures.front ∙ c.only-before.ensures) (ap (map f) (sym c.cut-later.ensures.front) ∙ (sym c.tell.ensures ∙ c.only-after.ensures)) in
    omega (arith, c.requires.bytes, c.load.ensures, c.load-2.ensures, ap (λ (z : Stamped). load_of z.one.job) is, less_load c.args.answer.key c.args.answer.session c.args.answer.number c.args.answer.ok x.one, among_sum (λ z. load_of z.one.job) x (told ++ drop 1 left) (told ++ left) before)
