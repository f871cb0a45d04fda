use Rattle.std.proofs.Common.{arith}
use Rattle.std.proofs.lemmas.List.{length-map}
use Rattle.server_output.specs.Dues.{message_at}
use Rattle.server_output.proofs.Rows.{rows-go, rows-bytes}
use Rattle.server_output.proofs.owing.OutgoingMessages.len.Goals as goal

pub returns-clause-can_go : goal.returns-clause-can_go
returns-clause-can_go c = rw (← c.self.view_is) (rows-go c.self.inside.texts.bytes c.self.inside.rows.items c.self.invariant.0)

pub returns-clause-places : goal.returns-clause-places
returns-clause-places c = rw (← c.self.view_is) (omega (arith, length-map c.self.inside.rows.items (message_at c.self.inside.texts.bytes)))

pub returns-clause-bytes : goal.returns-clause-bytes
returns-clause-bytes c =
    rw (← c.self.view_is) (omega (arith, rows-bytes c.self.inside.texts.bytes c.self.inside.rows.items c.self.invariant.0, c.self.invariant.2))
