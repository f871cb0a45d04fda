use Rattle.std.proofs.Common.{◌≡◌, ◌∙◌, ap, sym, subst, arith}
use Rattle.salt_line.specs.Rows.{period_at}
use Rattle.salt_line.specs.Needed.{needed}
use Rattle.salt_line.specs.Held.{rows_of}
use Rattle.salt_line.specs.Line.{Kept, Stands}
use Rattle.salt_line.proofs.StandsLemmas.{Stands-drawn, draw-drawn, salt-drawn}
use Rattle.salt_line.proofs.salt_line.SaltLine.current.Goals as goal

pub returns-clause-line : goal.returns-clause-line
returns-clause-line g c = λ line stands.
    let rows = rows_of c.self.inside.rows.first c.self.inside.rows.words.items in
    let kept : Kept = record { start = c.self.inside.start; latest = c.self.inside.latest; rows = rows } in
    let after = rows_of c.word.new.self.first c.word.new.self.words.items in
    let there = subst (λ (k : Kept). Stands k line) (sym c.self.view_is) (c.come_to-period.ensures.line line stands) in
    let latest : c.self.inside.latest ≡ c.args.now =
    ap (λ (k : Kept). k.latest) c.self.view_is ∙ c.come_to-period.ensures.latest ∙ c.seconds.ensures.value in
    let start : c.self.inside.start ≡ c.args.self.now.start =
    ap (λ (k : Kept). k.start) c.self.view_is ∙ c.come_to-period.ensures.start in
    let period : c.come_to-period.result ≡ period_at c.self.inside.start c.args.now =
    c.come_to-period.ensures.period ∙ ap (λ s. period_at s c.seconds.result) (sym start)
    ∙ ap (period_at c.self.inside.start) c.seconds.ensures.value in
    Stands-drawn g.D.Draw.step 1 c.args.now kept line c.args.draw.now after c.word.new.draw there latest (omega arith)
    (c.word.ensures.needed ∙ ap (λ q. needed g.D.Draw.step q (rows, c.args.draw.now)) period)

pub returns-clause-draw : goal.returns-clause-draw
returns-clause-draw g c = λ line stands.
    let rows = rows_of c.self.inside.rows.first c.self.inside.rows.words.items in
    let kept : Kept = record { start = c.self.inside.start; latest = c.self.inside.latest; rows = rows } in
    let after = rows_of c.word.new.self.first c.word.new.self.words.items in
    let there = subst (λ (k : Kept). Stands k line) (sym c.self.view_is) (c.come_to-period.ensures.line line stands) in
    let latest : c.self.inside.latest ≡ c.args.now =
    ap (λ (k : Kept). k.latest) c.self.view_is ∙ c.come_to-period.ensures.latest ∙ c.seconds.ensures.value in
    let start : c.self.inside.start ≡ c.args.self.now.start =
    ap (λ (k : Kept). k.start) c.self.view_is ∙ c.come_to-period.ensures.start in
    let period : c.come_to-period.result ≡ period_at c.self.inside.start c.args.now =
    c.come_to-period.ensures.period ∙ ap (λ s. period_at s c.seconds.result) (sym start)
    ∙ ap (period_at c.self.inside.start) c.seconds.ensures.value in
    draw-drawn g.D.Draw.step 1 c.args.now kept line c.args.draw.now after c.word.new.draw there latest (omega arith)
    (c.word.ensures.needed ∙ ap (λ q. needed g.D.Draw.step q (rows, c.args.draw.now)) period)

pub returns-clause-salt : goal.returns-clause-salt
returns-clause-salt g c = λ line stands.
    let rows = rows_of c.self.inside.rows.first c.self.inside.rows.words.items in
    let kept : Kept = record { start = c.self.inside.start; latest = c.self.inside.latest; rows = rows } in
    let after = rows_of c.word.new.self.first c.word.new.self.words.items in
    let there = subst (λ (k : Kept). Stands k line) (sym c.self.view_is) (c.come_to-period.ensures.line line stands) in
    let latest : c.self.inside.latest ≡ c.args.now =
    ap (λ (k : Kept). k.latest) c.self.view_is ∙ c.come_to-period.ensures.latest ∙ c.seconds.ensures.value in
    let start : c.self.inside.start ≡ c.args.self.now.start =
    ap (λ (k : Kept). k.start) c.self.view_is ∙ c.come_to-period.ensures.start in
    let period : c.come_to-period.result ≡ period_at c.self.inside.start c.args.now =
    c.come_to-period.ensures.period ∙ ap (λ s. period_at s c.seconds.result) (sym start)
    ∙ ap (period_at c.self.inside.start) c.seconds.ensures.value in
    c.word.ensures.word
    ∙ salt-drawn g.D.Draw.step 1 c.args.now kept line c.args.draw.now after c.word.new.draw there latest (omega arith)
    (c.word.ensures.needed ∙ ap (λ q. needed g.D.Draw.step q (rows, c.args.draw.now)) period) c.come_to-period.result period
