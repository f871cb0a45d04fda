use Rattle.std.proofs.Common.{◌≤◌, sym, subst, arith}
use Rattle.salt_line.specs.Line.{Kept, Stands}
use Rattle.salt_line.proofs.StandsLemmas.{Stands-later}
use Rattle.salt_line.proofs.salt_line.SaltLine.come_to.Goals as goal

pub returns-clause-line : goal.returns-clause-line
returns-clause-line c = λ line stands.
    let in_order : c.self.inside.latest ≤ c.args.now =
    subst (λ (k : Kept). k.latest ≤ c.args.now) (sym c.self.view_is) c.requires.in_order in
    Stands-later _ line c.args.now _ (omega arith) in_order c.forget_ended.ensures.rows
    (subst (λ (k : Kept). Stands k line) (sym c.self.view_is) stands)
