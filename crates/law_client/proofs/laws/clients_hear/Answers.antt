use Rattle.law_client.proofs.Heard.{hears, passes_over, unopened}
use Rattle.law_client.proofs.laws.clients_hear.Goals as goal

pub returns-clause-heard : goal.returns-clause-heard
returns-clause-heard c = hears (record { of_one = c.names_are_apart.ensures.of_one; newest = c.names_are_apart.ensures.newest; sent = c.names_are_apart.ensures.sent; of_name = c.names_are_apart.ensures.of_name; of_message = c.names_are_apart.ensures.of_message; one_owner = c.names_are_apart.ensures.one_owner; no_name = c.numbers_are_given_once.ensures.no_name })

pub returns-clause-passed_over : goal.returns-clause-passed_over
returns-clause-passed_over c = passes_over

pub returns-clause-unopened : goal.returns-clause-unopened
returns-clause-unopened c = unopened
