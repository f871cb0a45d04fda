use Rattle.std.proofs.Common.{◌≡◌, ◌+◌, ◌<◌, ◌^◌, length}
use Rattle.sched_text.specs.Lines.{lines_of, numbered}
use Rattle.sched_text.proofs.lines.Lines.next.Given as goal

abbrev pub invariant-loop-self : goal.invariant-loop-self
invariant-loop-self l =
    (l.self-inside.before + length l.self-inside.rest.now < 2 ^ 32)
    × (l.fn.self ≡ numbered (l.self-inside.before + 1) (lines_of l.self-inside.rest.now))

abbrev pub decreases-loop-self : goal.decreases-loop-self
decreases-loop-self l = length l.self-inside.rest.now
