use Rattle.std.proofs.Common.{sym}
use Rattle.server_dispatch.proofs.Once.{above_absent}
use Rattle.server_dispatch.proofs.opening.is_among.Goals as goal

-- a number above the greatest is none of these
pub returns-then-number-greatest : goal.returns-then-number-greatest
returns-then-number-greatest c = sym (above_absent c.args.number c.args.greatest c.args.numbers.now c.if-number-greatest.true c.requires.below)
