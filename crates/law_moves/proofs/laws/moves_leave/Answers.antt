use Rattle.law_moves.proofs.Left.{servers_left, clients_left, calls_left, submitted_left, messages_left, packets_left, entries_left, other_server_left, other_client_left, other_calls_left}
use Rattle.law_moves.proofs.laws.moves_leave.Goals as goal

pub returns : goal.returns
returns c =
    record {
      servers = servers_left;
      clients = clients_left;
      calls = calls_left;
      submitted = submitted_left;
      messages = messages_left;
      packets = packets_left;
      entries = entries_left;
      other_servers = other_server_left;
      other_clients = other_client_left;
      other_calls = other_calls_left;
    }
