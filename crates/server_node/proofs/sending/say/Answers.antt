use Rattle.server_node.proofs.Going.{said_raw}
use Rattle.server_node.proofs.sending.say.Goals as goal

pub returns-in-Raw-clause-said : goal.returns-in-Raw-clause-said
returns-in-Raw-clause-said g c = rw c.in-Raw.is (said_raw c.in-Raw.field-0 c.args.heard.now c.args.outs.now.outs (g.L.Link.told c.args.link.now))
