use Rattle.std.proofs.Common.{ap}
use Rattle.waits.proofs.Owning.{none_owned}
use Rattle.waits.proofs.View.{owning}
use Rattle.waits.proofs.owner.Owner.new.Goals as goal

pub invariant_of-result : goal.invariant_of-result
invariant_of-result c = none_owned c.args.nodes c.args.key c.args.session c.none.result c.requires c.none.ensures

pub returns : goal.returns
returns c = ap (owning c.args.key c.args.session) c.requires
