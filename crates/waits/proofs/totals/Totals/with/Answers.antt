use Rattle.std.proofs.Common.{◌∙◌, ℕ, ◌+◌, Bool, not, ap, refl}
use Rattle.waits.specs.Jobs.{one_if}
use Rattle.waits.proofs.Counted.{counted_more}
use Rattle.waits.proofs.totals.Totals.with.Goals as goal

pub returns : goal.returns
returns c = λ others all among right.
    counted_more c.args.job.now others all c.args.self _ among right refl
    (ap (λ (n : ℕ). c.args.self.waiting + n) (c.one_if.ensures ∙ ap one_if c.is_waiting.ensures))
    (ap (λ (n : ℕ). c.args.self.blocked + n) (c.one_if-2.ensures ∙ ap (λ (b : Bool). one_if (not b)) c.is_ready.ensures))
    (ap (λ (n : ℕ). c.args.self.failing + n) c.one_if-3.ensures)
