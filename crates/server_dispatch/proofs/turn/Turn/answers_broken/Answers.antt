use Rattle.std.proofs.Common.{◌≡◌, ◌==◌, true, false, rules, arith}
use Rattle.std.proofs.lemmas.Bool.Decides.{nat_tests}
use Rattle.service_tl.specs.Schema.{rpc_drop_answer}
use Rattle.server_dispatch.proofs.turn.Turn.answers_broken.Goals as goal

pub returns-then-constructor-eq-RPC_DROP_ANSWER-clause-speaks :
    goal.returns-then-constructor-eq-RPC_DROP_ANSWER-clause-speaks
returns-then-constructor-eq-RPC_DROP_ANSWER-clause-speaks g c = λ keys jobs bindings draw speaker none speaks.
    let test : (c.args.constructor == rpc_drop_answer.number) ≡ true = first_of (cc, search rules, grind (arith, nat_tests)) in
    rw test (c.answers_shortly.ensures.speaks keys jobs bindings draw speaker none speaks)

pub returns-else-constructor-eq-RPC_DROP_ANSWER-clause-speaks :
    goal.returns-else-constructor-eq-RPC_DROP_ANSWER-clause-speaks
returns-else-constructor-eq-RPC_DROP_ANSWER-clause-speaks g c = λ keys jobs bindings draw speaker none speaks.
    let test : (c.args.constructor == rpc_drop_answer.number) ≡ false = first_of (cc, search rules, grind (arith, nat_tests)) in
    rw test (c.answers_in_place.ensures.speaks keys jobs bindings draw speaker none speaks)
