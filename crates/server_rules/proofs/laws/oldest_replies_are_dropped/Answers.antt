use Rattle.std.proofs.Common.{refl}
use Rattle.packing.specs.Numbering.{numbered}
use Rattle.service_tl.specs.declared.item.Item.TheVariants.{RpcResult}
use Rattle.server_rules.specs.Server.{IsKept}
use Rattle.server_rules.proofs.Room.{room-there, room-more, oldest-dropped, reply-within}
use Rattle.server_rules.proofs.laws.oldest_replies_are_dropped.Goals as goal

pub returns-clause-there : goal.returns-clause-there
returns-clause-there g c = room-there

pub returns-clause-more : goal.returns-clause-more
returns-clause-more g c = room-more

pub returns-clause-oldest : goal.returns-clause-oldest
returns-clause-oldest g c = oldest-dropped

pub returns-clause-within : goal.returns-clause-within
returns-clause-within g c = λ setting call content speaker small.
    let message = numbered setting.now speaker.session.counters (RpcResult call content) in
    reply-within speaker.session.replies
    (record { call = call; number = message.number; seq = message.seq; content = content; fate = IsKept }) refl small
