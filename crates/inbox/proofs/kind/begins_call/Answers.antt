use Rattle.std.proofs.Common.{◌≡◌, false, rules, arith}
use Rattle.std.proofs.lemmas.Bool.Decides.{nat_tests}
use Rattle.service_tl.specs.Schema.{service_numbers}
use Rattle.inbox.proofs.TestLemmas.{list_any-is, not_service}
use Rattle.inbox.proofs.kind.begins_call.Goals as goal

pub returns-then-not-is_service : goal.returns-then-not-is_service
returns-then-not-is_service c =
    let none : c.is_service.result ≡ false = first_of (cc, search rules, grind (arith, nat_tests)) in
    rw c.in-Some.is (not_service c.is_service.result _ _ none (list_any-is c.in-Some.constructor service_numbers c.is_service.result c.is_service.ensures))
