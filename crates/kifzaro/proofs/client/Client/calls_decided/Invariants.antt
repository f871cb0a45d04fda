use Rattle.client_core.specs.Holding.{kept_of}
use Rattle.client_core.specs.Kept.{Stands}
use Rattle.client_rules.specs.Client.{Client, calls_of}
use Rattle.kifzaro.proofs.DecidedLemmas.{AreDecidedBelow}
use Rattle.kifzaro.proofs.client.Client.calls_decided.Given as goal

-- the calls so far are decided
abbrev pub invariant-loop-place : goal.invariant-loop-place
invariant-loop-place l = (client : Client) → Stands (kept_of l.holder) client → AreDecidedBelow (calls_of client) l.place
