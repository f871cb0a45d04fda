use Rattle.std.proofs.Common.{◌≡◌, ℕ, ◌-◌, ◌/◌, ◌≤◌, ap, sym, subst, arith}
use Rattle.std.specs.Prelude.{Any}
use Rattle.salt_line.specs.Rows.{period_at}
use Rattle.salt_line.specs.Held.{rows_of, IsIn}
use Rattle.salt_line.specs.Line.{Kept, Stands}
use Rattle.salt_line.proofs.StandsLemmas.{valid-from_kept, kept-from_valid}
use Rattle.salt_line.proofs.salt_line.SaltLine.judge.Goals as goal

pub returns-then-salt-ne0-clause-judged : goal.returns-then-salt-ne0-clause-judged
returns-then-salt-ne0-clause-judged c = λ line stands.
    let rows = rows_of c.self.inside.rows.first c.self.inside.rows.words.items in
    let kept : Kept = record { start = c.self.inside.start; latest = c.self.inside.latest; rows = rows } in
    let there = subst (λ (k : Kept). Stands k line) (sym c.self.view_is) stands in
    let later : c.self.inside.latest ≤ c.args.now = subst (λ (k : Kept). k.latest ≤ c.args.now) (sym c.self.view_is) c.requires in
    let period : (c.seconds.result - c.self.inside.start) / 1800 ≡ period_at c.self.inside.start c.args.now =
    ap (period_at c.self.inside.start) c.seconds.ensures.value in (
      λ t. (
        c.if-salt-ne0.true,
        valid-from_kept kept line c.args.now c.args.salt (omega arith) there
            (subst (λ (p : ℕ). Any (IsIn p c.args.salt) rows) period (c.has.ensures.0 t)),
      ),
      λ valid. c.has.ensures.1
          (subst (λ (p : ℕ). Any (IsIn p c.args.salt) rows) (sym period)
          (kept-from_valid kept line c.args.now c.args.salt (omega arith) later there valid.1)),
    )
