use Rattle.std.proofs.Common.{arith}
use Rattle.std.proofs.lemmas.Bool.{ltb-false}
use Rattle.waits.proofs.Asked.{overdue_waits, waiter_waits, ready_from, ready_or_not}
use Rattle.waits.proofs.totals.Totals.may_have.Goals as goal

pub returns-in-Overdue : goal.returns-in-Overdue
returns-in-Overdue c = λ xs right none. rw c.in-Overdue.is (omega (arith, overdue_waits c.in-Overdue.field-0 xs, right.waiting, ltb-false 0 c.args.self.waiting none))

pub returns-in-Ready : goal.returns-in-Ready
returns-in-Ready c = λ xs right none. rw c.in-Ready.is (omega (arith, ready_from c.in-Ready.field-0 xs, ready_or_not xs, right.count, right.blocked, ltb-false c.args.self.blocked c.args.self.count none))

pub returns-in-Waiter : goal.returns-in-Waiter
returns-in-Waiter c = λ xs right none. rw c.in-Waiter.is (omega (arith, waiter_waits c.in-Waiter.field-0 c.in-Waiter.field-1 c.in-Waiter.field-2 xs, right.waiting, ltb-false 0 c.args.self.waiting none))
