use Rattle.std.proofs.Common.{rules, tests, arith}
use Rattle.std.proofs.lemmas.Iterator.{YieldsList-from_slice}
use Rattle.std.proofs.lemmas.Iterator.Search.{all_from_yields_List}
use Rattle.std.proofs.lemmas.Bool.Decides.{nat_tests}
use Rattle.regs_service.specs.Requests.{is_name_byte}
use Rattle.regs_service.proofs.request.is_register_name.Goals as goal

pub returns-then-bytes-le-NAME_BYTES_MAX : goal.returns-then-bytes-le-NAME_BYTES_MAX
returns-then-bytes-le-NAME_BYTES_MAX c =
    let all = all_from_yields_List is_name_byte _ _ c.all.result c.all.ensures.ran (YieldsList-from_slice c.args.bytes.now cc) (λ x b q k. search (rules, tests)) in
    grind (arith, nat_tests)
