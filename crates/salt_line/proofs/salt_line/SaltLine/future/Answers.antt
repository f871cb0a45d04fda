use Rattle.std.proofs.Common.{◌≡◌, ◌∙◌, ◌^◌, ◌<◌, min, take, ap, sym, subst, arith}
use Rattle.std.specs.Prelude.{All}
use Rattle.salt_line.specs.declared.salt_line.SaltRow.{SaltRow}
use Rattle.salt_line.specs.Rows.{period_at}
use Rattle.salt_line.specs.Needed.{needed_from}
use Rattle.salt_line.specs.Held.{rows_of}
use Rattle.salt_line.specs.Line.{Line, Kept, Stands}
use Rattle.salt_line.specs.Future.{salt_rows_from}
use Rattle.salt_line.proofs.StandsLemmas.{Stands-drawn, draw-drawn, rows-drawn}
use Rattle.salt_line.proofs.FutureLemmas.{early-salt_rows_from}
use Rattle.salt_line.proofs.salt_line.SaltLine.future.Goals as goal

pub returns-clause-line : goal.returns-clause-line
returns-clause-line g c = λ line stands.
    let rows = rows_of c.self.inside.rows.first c.self.inside.rows.words.items in
    let kept : Kept = record { start = c.self.inside.start; latest = c.self.inside.latest; rows = rows } in
    let after = rows_of c.hand_out.new.rows.first c.hand_out.new.rows.words.items in
    let there = subst (λ (k : Kept). Stands k line) (sym c.self.view_is) (c.come_to-period.ensures.line line stands) in
    let latest : c.self.inside.latest ≡ c.args.now =
    ap (λ (k : Kept). k.latest) c.self.view_is ∙ c.come_to-period.ensures.latest ∙ c.seconds.ensures.value in
    let start : c.self.inside.start ≡ c.args.self.now.start =
    ap (λ (k : Kept). k.start) c.self.view_is ∙ c.come_to-period.ensures.start in
    let period : c.come_to-period.result ≡ period_at c.self.inside.start c.args.now =
    c.come_to-period.ensures.period ∙ ap (λ s. period_at s c.seconds.result) (sym start)
    ∙ ap (period_at c.self.inside.start) c.seconds.ensures.value in
    let is = c.hand_out.ensures.needed
    ∙ ap (λ q. needed_from g.D.Draw.step q c.min-count.result (rows, c.args.draw.now)) period
    ∙ ap (λ m. needed_from g.D.Draw.step (period_at c.self.inside.start c.args.now) m (rows, c.args.draw.now)) c.min-count.ensures in
    Stands-drawn g.D.Draw.step (min c.args.n 64) c.args.now kept line c.args.draw.now after c.hand_out.new.draw there latest
    (omega arith) is

pub returns-clause-draw : goal.returns-clause-draw
returns-clause-draw g c = λ line stands.
    let rows = rows_of c.self.inside.rows.first c.self.inside.rows.words.items in
    let kept : Kept = record { start = c.self.inside.start; latest = c.self.inside.latest; rows = rows } in
    let after = rows_of c.hand_out.new.rows.first c.hand_out.new.rows.words.items in
    let there = subst (λ (k : Kept). Stands k line) (sym c.self.view_is) (c.come_to-period.ensures.line line stands) in
    let latest : c.self.inside.latest ≡ c.args.now =
    ap (λ (k : Kept). k.latest) c.self.view_is ∙ c.come_to-period.ensures.latest ∙ c.seconds.ensures.value in
    let start : c.self.inside.start ≡ c.args.self.now.start =
    ap (λ (k : Kept). k.start) c.self.view_is ∙ c.come_to-period.ensures.start in
    let period : c.come_to-period.result ≡ period_at c.self.inside.start c.args.now =
    c.come_to-period.ensures.period ∙ ap (λ s. period_at s c.seconds.result) (sym start)
    ∙ ap (period_at c.self.inside.start) c.seconds.ensures.value in
    let is = c.hand_out.ensures.needed
    ∙ ap (λ q. needed_from g.D.Draw.step q c.min-count.result (rows, c.args.draw.now)) period
    ∙ ap (λ m. needed_from g.D.Draw.step (period_at c.self.inside.start c.args.now) m (rows, c.args.draw.now)) c.min-count.ensures in
    draw-drawn g.D.Draw.step (min c.args.n 64) c.args.now kept line c.args.draw.now after c.hand_out.new.draw there latest
    (omega arith) is

pub returns-clause-rows : goal.returns-clause-rows
returns-clause-rows g c = λ line stands.
    let rows = rows_of c.self.inside.rows.first c.self.inside.rows.words.items in
    let kept : Kept = record { start = c.self.inside.start; latest = c.self.inside.latest; rows = rows } in
    let after = rows_of c.hand_out.new.rows.first c.hand_out.new.rows.words.items in
    let there = subst (λ (k : Kept). Stands k line) (sym c.self.view_is) (c.come_to-period.ensures.line line stands) in
    let latest : c.self.inside.latest ≡ c.args.now =
    ap (λ (k : Kept). k.latest) c.self.view_is ∙ c.come_to-period.ensures.latest ∙ c.seconds.ensures.value in
    let start : c.self.inside.start ≡ c.args.self.now.start =
    ap (λ (k : Kept). k.start) c.self.view_is ∙ c.come_to-period.ensures.start in
    let period : c.come_to-period.result ≡ period_at c.self.inside.start c.args.now =
    c.come_to-period.ensures.period ∙ ap (λ s. period_at s c.seconds.result) (sym start)
    ∙ ap (period_at c.self.inside.start) c.seconds.ensures.value in
    let is = c.hand_out.ensures.needed
    ∙ ap (λ q. needed_from g.D.Draw.step q c.min-count.result (rows, c.args.draw.now)) period
    ∙ ap (λ m. needed_from g.D.Draw.step (period_at c.self.inside.start c.args.now) m (rows, c.args.draw.now)) c.min-count.ensures in
    ap (λ m. take m c.hand_out.new.into) (sym c.min-count.ensures) ∙ c.hand_out.ensures.rows
    ∙ ap (salt_rows_from record { start = c.self.inside.start; rows = after } c.come_to-period.result) c.min-count.ensures
    ∙ rows-drawn g.D.Draw.step (min c.args.n 64) c.args.now kept line c.args.draw.now after c.hand_out.new.draw there latest
    (omega arith) is c.come_to-period.result (min c.args.n 64) period

pub returns-clause-early : goal.returns-clause-early
returns-clause-early g c =
    let after = rows_of c.hand_out.new.rows.first c.hand_out.new.rows.words.items in
    let line : Line = record { start = c.self.inside.start; rows = after } in
    let latest : c.self.inside.latest ≡ c.args.now =
    ap (λ (k : Kept). k.latest) c.self.view_is ∙ c.come_to-period.ensures.latest ∙ c.seconds.ensures.value in
    let start : c.self.inside.start ≡ c.args.self.now.start =
    ap (λ (k : Kept). k.start) c.self.view_is ∙ c.come_to-period.ensures.start in
    let period : c.come_to-period.result ≡ period_at c.self.inside.start c.args.now =
    c.come_to-period.ensures.period ∙ ap (λ s. period_at s c.seconds.result) (sym start)
    ∙ ap (period_at c.self.inside.start) c.seconds.ensures.value in
    let few = c.min-count.ensures in
    subst (All (λ (row : SaltRow). (row.since < row.until) × (row.until < 2 ^ 32)))
    (sym (ap (λ m. take m c.hand_out.new.into) (sym c.min-count.ensures) ∙ c.hand_out.ensures.rows))
    (early-salt_rows_from line c.come_to-period.result c.min-count.result (omega arith))
