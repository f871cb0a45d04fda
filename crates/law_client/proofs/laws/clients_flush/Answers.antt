use Rattle.law_client.proofs.Flushed.{flushes}
use Rattle.law_client.proofs.laws.clients_flush.Goals as goal

pub returns : goal.returns
returns g c = λ w setting number now client draw reached s.
    flushes (record { of_one = c.names_are_apart.ensures.of_one; newest = c.names_are_apart.ensures.newest; sent = c.names_are_apart.ensures.sent; of_name = c.names_are_apart.ensures.of_name; of_message = c.names_are_apart.ensures.of_message; one_owner = c.names_are_apart.ensures.one_owner; no_name = c.numbers_are_given_once.ensures.no_name })
    (record { reached = c.moves_go_on.ensures.reached; lawful = c.moves_go_on.ensures.lawful; after = c.moves_go_on.ensures.after })
    (λ v moves lawful. (c.moves_only_add.ensures v moves lawful).messages)
    w setting number now client draw reached s
