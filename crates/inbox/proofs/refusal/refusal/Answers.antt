use Rattle.std.proofs.Common.{◌≡◌, ◌∙◌, ℕ, ap, rules, arith}
use Rattle.std.proofs.lemmas.Grind.{common_steps}
use Rattle.id_window.specs.declared.cross.Cross.{Cross}
use Rattle.id_window.specs.History.{floor}
use Rattle.inbox.specs.Refusals.{first_code}
use Rattle.inbox.proofs.refusal.refusal.Goals as goal

pub returns-clause-stands : goal.returns-clause-stands
returns-clause-stands c history marks stands =
    let value : c.or-4.result ≡ first_code c.args.envelope c.floor.result c.crosses.result c.args.number c.args.seq c.args.kind = first_of (search rules, grind (arith, common_steps)) in
    value
    ∙ ap (λ (f : ℕ). first_code c.args.envelope f c.crosses.result c.args.number c.args.seq c.args.kind) (c.floor.ensures.stands history marks stands)
    ∙ ap (λ (x : Cross). first_code c.args.envelope (floor history) x c.args.number c.args.seq c.args.kind) (c.crosses.ensures.stands history marks stands)
