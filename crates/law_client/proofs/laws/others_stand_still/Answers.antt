use Rattle.law_client.proofs.Others.{others_move, servers_move}
use Rattle.law_client.proofs.laws.others_stand_still.Goals as goal

pub returns-clause-clients : goal.returns-clause-clients
returns-clause-clients c = others_move
    (record { of_one = c.names_are_apart.ensures.of_one; newest = c.names_are_apart.ensures.newest; sent = c.names_are_apart.ensures.sent; of_name = c.names_are_apart.ensures.of_name; of_message = c.names_are_apart.ensures.of_message; one_owner = c.names_are_apart.ensures.one_owner; no_name = c.numbers_are_given_once.ensures.no_name })
    (record { clients = c.moves_leave.ensures.clients; calls = c.moves_leave.ensures.calls; submitted = c.moves_leave.ensures.submitted; messages = c.moves_leave.ensures.messages; other_clients = c.moves_leave.ensures.other_clients; other_calls = c.moves_leave.ensures.other_calls })
    (record { reached = c.moves_go_on.ensures.reached; lawful = c.moves_go_on.ensures.lawful; after = c.moves_go_on.ensures.after })

pub returns-clause-servers : goal.returns-clause-servers
returns-clause-servers c = servers_move
    (record { of_one = c.names_are_apart.ensures.of_one; newest = c.names_are_apart.ensures.newest; sent = c.names_are_apart.ensures.sent; of_name = c.names_are_apart.ensures.of_name; of_message = c.names_are_apart.ensures.of_message; one_owner = c.names_are_apart.ensures.one_owner; no_name = c.numbers_are_given_once.ensures.no_name })
    (record { clients = c.moves_leave.ensures.clients; calls = c.moves_leave.ensures.calls; submitted = c.moves_leave.ensures.submitted; messages = c.moves_leave.ensures.messages; other_clients = c.moves_leave.ensures.other_clients; other_calls = c.moves_leave.ensures.other_calls })
    (record { reached = c.moves_go_on.ensures.reached; lawful = c.moves_go_on.ensures.lawful; after = c.moves_go_on.ensures.after })
