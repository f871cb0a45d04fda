use Rattle.std.proofs.Common.{◌∙◌, sym}
use Rattle.client_core.specs.Filled.{body_in, lone_of}
use Rattle.client_core.specs.Flushed.{setting_of}
use Rattle.client_core.proofs.FlushLemmas.{any_some, container_sent, lone_sent}
use Rattle.client_core.proofs.core_client.Core.send_filled.Goals as goal

pub returns-then-count-eq1-clause-sent : goal.returns-then-count-eq1-clause-sent
returns-then-count-eq1-clause-sent g c filling stands is drawn any =
    let setting = setting_of g.D.Draw.step (g.S.Seal.keys c.args.seal.now) in
    let after = c.send_lone.ensures.stands filling.client stands in
    lone_sent _ _ setting filling filling.messages (lone_of c.args.filled) c.args.filled.inner _ _ c.args.draw.now _ (sym is.count ∙ c.if-count-eq1.true) is.last is.body is.inner drawn
    after (c.send_lone.ensures.sealed _ after) c.send_lone.ensures.drawn

pub returns-else-count-eq1-clause-sent : goal.returns-else-count-eq1-clause-sent
returns-else-count-eq1-clause-sent g c filling stands is drawn any =
    let setting = setting_of g.D.Draw.step (g.S.Seal.keys c.args.seal.now) in
    container_sent _ _ setting filling filling.messages (body_in c.args.filled) c.args.filled.inner _ _ c.args.draw.now _ (λ one. c.if-count-eq1.false (is.count ∙ one)) (any_some filling.messages any) is.body is.inner drawn
    (c.send_container.ensures.stands filling.client stands) (c.send_container.ensures.sealed filling.client stands) (c.send_container.ensures.drawn filling.client stands)
