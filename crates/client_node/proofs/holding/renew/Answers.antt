use Rattle.std.proofs.Common.{◌∙◌, sym}
use Rattle.std.proofs.lemmas.Bool.{true≢false}
use Rattle.client_core.specs.Holding.{kept_of}
use Rattle.client_node.proofs.HolderLemmas.{goes_on, holders_keep, open_living}
use Rattle.client_node.proofs.holding.renew.Goals as goal

pub returns-clause-renews : goal.returns-clause-renews
returns-clause-renews g c course stands =
    goes_on g.D.Draw.step c.args.client c.renew.result c.args.draw.now _ course stands (sym (c.must_renew.ensures.told course.client stands.client) ∙ c.if-not-must_renew.false)
    c.renew.ensures.stands c.renew.ensures.after c.renew.ensures.phase

pub returns-clause-keys : goal.returns-clause-keys
returns-clause-keys g c =
    holders_keep c.args.client c.renew.result c.must_renew.ensures.state c.renew.ensures.keys
    (λ ended. absurd (true≢false (sym ended ∙ open_living (kept_of c.args.client).rest (c.must_renew.ensures.open c.if-not-must_renew.false))))
