use Rattle.temp_keys.specs.Checking.{bound_of, call_of}
use Rattle.temp_keys.proofs.CallLemmas.{answer-bound, answer-fault, made-binds}
use Rattle.temp_keys.proofs.checking.check.Goals as goal

pub returns-clause-only_bound : goal.returns-clause-only_bound
returns-clause-only_bound c = λ bound binds.
    answer-bound c.seal_laws.ensures (call_of c.args.ring.now c.args.now c.args.temp c.args.session c.args.number c.args.binding.now) c.answer.result c.answer.ensures.bound c.answer.ensures.fault bound binds

pub returns-clause-takes : goal.returns-clause-takes
returns-clause-takes c = λ key permanent says temporary lasts.
    let call = call_of c.args.ring.now c.args.now c.args.temp c.args.session c.args.number c.args.binding.now in
    answer-bound c.seal_laws.ensures call c.answer.result c.answer.ensures.bound c.answer.ensures.fault (bound_of call) (made-binds call key permanent says temporary lasts)

pub returns-clause-only_fault : goal.returns-clause-only_fault
returns-clause-only_fault c = λ fault faulty.
    answer-fault c.seal_laws.ensures (call_of c.args.ring.now c.args.now c.args.temp c.args.session c.args.number c.args.binding.now) c.answer.result c.answer.ensures.bound c.answer.ensures.fault fault faulty
