use Rattle.std.proofs.Common.{◌≡◌, ◌∙◌, ◌==◌, false, sym, rules, arith}
use Rattle.std.proofs.lemmas.Bool.Decides.{nat_tests}
use Rattle.service_tl.specs.Schema.{service_numbers, gzip_packed}
use Rattle.server_dispatch.proofs.Queries.{found-among, not-refused}
use Rattle.server_dispatch.proofs.calls.query_refusal.Goals as goal

pub returns-else-is_service : goal.returns-else-is_service
returns-else-is_service c =
    let number = c.in_ok-number.number in
    let plain : (number == gzip_packed) ≡ false = first_of (cc, search rules, grind (arith, nat_tests)) in
    not-refused _ number (sym c.constructor_of.ensures ∙ c.in_ok-number.was) plain
    (found-among number service_numbers c.is_service.result c.is_service.ensures ∙ c.if-is_service.false)
