use Rattle.std.proofs.Common.{arith}
use Rattle.std.proofs.lemmas.Result.{err_from_is_err_and}
use Rattle.std.proofs.lemmas.List.{length_push}
use Rattle.service_tl.specs.Fields.{salt_at, items_at, vector_at}
use Rattle.service_tl.proofs.Loop.{goes_on, ends, is_done}
use Rattle.service_tl.proofs.fields.salts.Goals as goal

pub returns-in_err-salt : goal.returns-in_err-salt
unfolding vector_at
returns-in_err-salt c =
    let failed = c.from_residual-in_err-salt in
    let p = err_from_is_err_and failed.result failed.ensures.1 in
    rw (p.1, p.2, c.in_ok-count.ensures.exact) (ends salt_at c.loop.rows c.in_ok-count.count c.loop.counter c.loop.reader (items_at salt_at c.in_ok-count.count c.int.new.self) c.in_err-salt.field-0.0 c.salt.new.reader c.salt.new.reader c.loop-test.true c.in_err-salt.ensures c.loop.invariant.so_far)

pub loop-preserved : goal.loop-preserved
loop-preserved c =
    let item = c.in_ok-salt.field-0 in
    record {
      so_far = rw c.in_ok-push.ensures.pushed (goes_on salt_at c.loop.rows c.in_ok-count.count c.loop.counter c.loop.reader (items_at salt_at c.in_ok-count.count c.int.new.self) item c.salt.new.reader c.loop-test.true c.in_ok-salt.ensures c.loop.invariant.so_far);
      counted = rw c.in_ok-push.ensures.pushed (omega (arith, length_push c.loop.rows item, c.loop.invariant.counted));
    }

pub returns : goal.returns
unfolding vector_at
returns c = let done = is_done salt_at c.loop.rows c.in_ok-count.count c.loop.counter c.loop.reader (items_at salt_at c.in_ok-count.count c.int.new.self) c.loop-test.false c.loop.invariant.so_far in
    rw (c.in_ok-count.ensures.exact) done
