use Rattle.disks.proofs.CrashLemmas.{synced, behind, inside}
use Rattle.disks.proofs.laws.crashes_after_a_sync.Goals as goal

pub returns-clause-synced : goal.returns-clause-synced
returns-clause-synced c = synced

pub returns-clause-behind : goal.returns-clause-behind
returns-clause-behind c = behind

pub returns-clause-inside : goal.returns-clause-inside
returns-clause-inside c = inside
