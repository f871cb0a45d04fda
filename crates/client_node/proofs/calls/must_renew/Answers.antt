use Rattle.std.proofs.Common.{◌∙◌, sym}
use Rattle.client_node.proofs.HolderLemmas.{renews_not, renews_stuck}
use Rattle.client_node.proofs.calls.must_renew.Goals as goal

pub returns-then-not-is_open-clause-told : goal.returns-then-not-is_open-clause-told
returns-then-not-is_open-clause-told c whole stands =
    renews_not c.args.client.now whole c.is_open.ensures.state (sym c.is_open.ensures.kept ∙ c.if-not-is_open.true)

pub returns-clause-told : goal.returns-clause-told
returns-clause-told c whole stands =
    c.is_stuck.ensures whole stands ∙ renews_stuck c.args.client.now whole c.is_open.ensures.state (sym c.is_open.ensures.kept ∙ c.if-not-is_open.false)
