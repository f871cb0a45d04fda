use Rattle.law_client.proofs.Own.{joins, joins_so, joins_lawfully}
use Rattle.law_client.proofs.laws.clients_join.Goals as goal

pub returns-clause-lawful : goal.returns-clause-lawful
returns-clause-lawful c = λ w number key session. joins_lawfully w number session

pub returns-clause-stands : goal.returns-clause-stands
returns-clause-stands c = joins (record { of_one = c.names_are_apart.ensures.of_one; newest = c.names_are_apart.ensures.newest; sent = c.names_are_apart.ensures.sent; of_name = c.names_are_apart.ensures.of_name; of_message = c.names_are_apart.ensures.of_message; one_owner = c.names_are_apart.ensures.one_owner; no_name = c.numbers_are_given_once.ensures.no_name })

pub returns-clause-temporary : goal.returns-clause-temporary
returns-clause-temporary c = joins_so (record { of_one = c.names_are_apart.ensures.of_one; newest = c.names_are_apart.ensures.newest; sent = c.names_are_apart.ensures.sent; of_name = c.names_are_apart.ensures.of_name; of_message = c.names_are_apart.ensures.of_message; one_owner = c.names_are_apart.ensures.one_owner; no_name = c.numbers_are_given_once.ensures.no_name })
