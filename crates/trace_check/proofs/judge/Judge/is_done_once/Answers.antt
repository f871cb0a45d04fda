use Rattle.std.proofs.Common.{IsTrue, ◌↔◌, List, ℕ, subst}
use Rattle.trace_check.proofs.Judging.{yes}
use Rattle.trace_check.specs.Sentences.{RanOnce}
use Rattle.trace_check.proofs.Tests.{when_done}
use Rattle.trace_check.proofs.judge.Judge.is_done_once.Goals as goal

pub returns-in-Done : goal.returns-in-Done
returns-in-Done c =
    let only = subst (λ (r : List ℕ). IsTrue c.is_only.result ↔ RanOnce c.args.self.now.book.facts.items c.args.call r) c.as_slice.ensures.value c.is_only.ensures in
    when_done c.args.self.now.book.facts.items c.args.call c.args.told.now c.in-Done.reply c.is_only.result c.in-Done.is only

pub returns-in_default : goal.returns-in_default
returns-in_default c = yes (λ reply e. absurd (c.in_default.not-Done reply e))
