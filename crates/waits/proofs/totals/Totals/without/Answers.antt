use Rattle.std.proofs.Common.{◌≡◌, ◌∙◌, Bool, not, ap, arith}
use Rattle.waits.specs.Jobs.{is_waiting, is_ready, has_failed, one_if}
use Rattle.waits.proofs.Counted.{counted_less}
use Rattle.waits.proofs.totals.Totals.without.Goals as goal

pub returns : goal.returns
returns c = λ others all among right.
    let x = c.args.job.now in
    let waits : c.one_if.result ≡ one_if (is_waiting x.one) = c.one_if.ensures ∙ ap one_if c.is_waiting.ensures in
    let blocked : c.one_if-2.result ≡ one_if (not (is_ready x.one)) = c.one_if-2.ensures ∙ ap (λ (b : Bool). one_if (not b)) c.is_ready.ensures in
    let failed : c.one_if-3.result ≡ one_if (has_failed x.one) = c.one_if-3.ensures in
    counted_less x others all c.args.self _ among right (omega (arith, c.requires.count)) (omega (arith, waits, c.requires.waiting)) (omega (arith, blocked, c.requires.blocked)) (omega (arith, failed, c.requires.failing))
