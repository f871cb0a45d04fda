use Rattle.law_server_moves.proofs.Still.{stands_still}
use Rattle.law_server_moves.proofs.laws.servers_stand_still.Goals as goal

pub returns : goal.returns
returns c = stands_still (record {
  servers = c.moves_leave.ensures.servers;
  entries = c.moves_leave.ensures.entries;
  messages = λ w list lawful. (c.moves_only_add.ensures w list lawful).messages;
})
