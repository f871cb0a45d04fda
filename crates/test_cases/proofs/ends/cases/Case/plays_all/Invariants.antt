use Rattle.client_core.specs.Holding.{kept_of}
use Rattle.client_core.specs.Keys.{HasKeys, keys_in}
use Rattle.test_cases.proofs.ends.cases.Case.plays_all.Given as goal

-- the seal has the client's keys
abbrev pub invariant-loop-line : goal.invariant-loop-line
invariant-loop-line g l = HasKeys (g.S.Seal.keys l.seal) (keys_in (kept_of l.client))
