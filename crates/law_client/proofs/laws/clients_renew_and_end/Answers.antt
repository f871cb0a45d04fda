use Rattle.law_client.proofs.Own.{ends, is_made, renews}
use Rattle.law_client.proofs.laws.clients_renew_and_end.Goals as goal

pub returns-clause-renews : goal.returns-clause-renews
returns-clause-renews c = λ w number session client s new. (is_made w number client s, new)

pub returns-clause-renewed : goal.returns-clause-renewed
returns-clause-renewed c = renews (record { of_one = c.names_are_apart.ensures.of_one; newest = c.names_are_apart.ensures.newest; sent = c.names_are_apart.ensures.sent; of_name = c.names_are_apart.ensures.of_name; of_message = c.names_are_apart.ensures.of_message; one_owner = c.names_are_apart.ensures.one_owner; no_name = c.numbers_are_given_once.ensures.no_name })

pub returns-clause-ends : goal.returns-clause-ends
returns-clause-ends c = is_made

pub returns-clause-ended : goal.returns-clause-ended
returns-clause-ended c = ends
