use Rattle.trace_check.proofs.Stepping.{put_step, same_reply}
use Rattle.trace_check.proofs.starts.is_reply.Goals as goal

pub returns-clause-right : goal.returns-clause-right
returns-clause-right c =
    same_reply c.is_same.result c.as_slice-told.result.now c.as_slice-own.result.now c.args.entry.now.reply c.in_ok-reply.reply c.taken-service.result _ c.as_slice-request.result.now c.args.entry.now.request
    c.is_same.ensures c.as_slice-told.ensures.value c.as_slice-own.ensures.value c.in_ok-reply.ensures.reply c.taken-service.ensures.state c.as_slice-request.ensures.value

pub returns-clause-after : goal.returns-clause-after
returns-clause-after c =
    put_step c.args.services.now c.taken-service.new.services c.insert.new.self c.args.entry.now.start c.run.new.self c.taken-service.result c.as_slice-request.result.now c.args.entry.now.request
    c.taken-service.ensures.state c.as_slice-request.ensures.value c.in_ok-reply.ensures.after c.taken-service.ensures.others c.in_ok-insert.ensures.updates
