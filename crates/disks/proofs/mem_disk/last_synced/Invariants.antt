use Rattle.std.proofs.Common.{◌≡◌, take, fold}
use Rattle.disks.specs.Crash.{synced_after}
use Rattle.disks.proofs.mem_disk.last_synced.Given as goal

-- the acts that were passed are looked at
abbrev pub invariant-loop-act : goal.invariant-loop-act
invariant-loop-act l = l.image ≡ fold synced_after l.first (take l.act-index l.acts)
