use Rattle.std.proofs.Common.{◌∙◌, sym, ap, arith, Some, None, ◌-◌}
use Rattle.id_window.proofs.PlaceLemmas.{no_last_below, last_below_at}
use Rattle.id_window.proofs.neighbours.last_below.Goals as goal

pub returns-then-at-eq0 : goal.returns-then-at-eq0
returns-then-at-eq0 c = sym (no_last_below c.args.number c.args.accepted.now.items None (omega arith))

pub returns : goal.returns
returns c = ap Some c.index.ensures ∙ sym (last_below_at c.args.number c.args.accepted.now.items None (c.args.at - 1) c.index.result.now (omega arith))
