use Rattle.std.proofs.Common.{sym}
use Rattle.trace_check.specs.States.{state_of}
use Rattle.trace_check.proofs.Judging.{yes}
use Rattle.trace_check.proofs.Stepping.{not_run, ok_after, ok_right, right_still}
use Rattle.trace_check.proofs.starts.is_entry_served.Goals as goal

pub returns-then-not-entry-clause-right : goal.returns-then-not-entry-clause-right
returns-then-not-entry-clause-right c = yes (right_still c.args.services.now c.args.entry.now c.if-not-entry.true)

pub returns-then-not-entry-clause-after : goal.returns-then-not-entry-clause-after
returns-then-not-entry-clause-after c = λ start. sym (not_run start (state_of c.args.services.now start) c.args.entry.now c.if-not-entry.true)

pub returns-clause-right : goal.returns-clause-right
returns-clause-right c = ok_right c.is_reply.result c.args.services.now c.args.entry.now c.if-not-entry.false c.is_reply.ensures.right

pub returns-clause-after : goal.returns-clause-after
returns-clause-after c = ok_after c.is_reply.result c.args.services.now c.is_reply.new.services c.args.entry.now c.if-not-entry.false c.is_reply.ensures.after
