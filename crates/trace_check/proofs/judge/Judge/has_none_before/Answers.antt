use Rattle.std.proofs.Common.{◌∙◌, sym}
use Rattle.trace_check.proofs.Judging.{no, yes}
use Rattle.trace_check.proofs.Tests.{none_before, some_before}
use Rattle.trace_check.proofs.judge.Judge.has_none_before.Goals as goal

pub returns-then-is_before : goal.returns-then-is_before
returns-then-is_before c = no (some_before c.args.self.now.book.facts.items c.args.place c.args.call c.entries-row.result c.entries-row.ensures (sym c.is_before.ensures ∙ c.if-is_before.true))

pub returns : goal.returns
returns c = yes (none_before c.args.self.now.book.facts.items c.args.place c.args.call c.entries-row.result c.entries-row.ensures (sym c.is_before.ensures ∙ c.if-is_before.false))
