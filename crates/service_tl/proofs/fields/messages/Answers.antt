use Rattle.std.proofs.Common.{arith}
use Rattle.std.proofs.lemmas.Result.{err_from_is_err_and}
use Rattle.std.proofs.lemmas.List.{length_push}
use Rattle.service_tl.specs.Fields.{message_at, items_at, vector_at}
use Rattle.service_tl.proofs.Loop.{goes_on, ends, is_done}
use Rattle.service_tl.proofs.fields.messages.Goals as goal

pub returns-in_err-message : goal.returns-in_err-message
unfolding vector_at
returns-in_err-message c =
    let failed = c.from_residual-in_err-message in
    let p = err_from_is_err_and failed.result failed.ensures.1 in
    rw (p.1, p.2, c.in_ok-count.ensures.exact) (ends message_at c.loop.messages c.in_ok-count.count c.loop.counter c.loop.reader (items_at message_at c.in_ok-count.count c.int.new.self) c.in_err-message.field-0.0 c.message.new.reader c.message.new.reader c.loop-test.true c.in_err-message.ensures.exact c.loop.invariant.so_far)

pub loop-preserved : goal.loop-preserved
loop-preserved c =
    let item = c.in_ok-message.field-0 in
    record {
      so_far = rw c.in_ok-push.ensures.pushed (goes_on message_at c.loop.messages c.in_ok-count.count c.loop.counter c.loop.reader (items_at message_at c.in_ok-count.count c.int.new.self) item c.message.new.reader c.loop-test.true c.in_ok-message.ensures.exact c.loop.invariant.so_far);
      counted = rw c.in_ok-push.ensures.pushed (omega (arith, length_push c.loop.messages item, c.loop.invariant.counted));
    }

pub returns : goal.returns
unfolding vector_at
returns c = let done = is_done message_at c.loop.messages c.in_ok-count.count c.loop.counter c.loop.reader (items_at message_at c.in_ok-count.count c.int.new.self) c.loop-test.false c.loop.invariant.so_far in
    rw (c.in_ok-count.ensures.exact) done
