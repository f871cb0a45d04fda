use Rattle.std.proofs.Common.{length, arith, refl}
use Rattle.std.proofs.lemmas.Grind.{common_steps}
use Rattle.disks.specs.Crash.{synced_at}
use Rattle.disks.proofs.Moments.{written_over, over_bytes}
use Rattle.disks.proofs.mem_disk.MemDisk.writes.Goals as goal

-- what a read gives is what was written over what it gave
pub invariant_of-self-clause-possible : goal.invariant_of-self-clause-possible
invariant_of-self-clause-possible c =
    written_over (synced_at c.args.self.now.first) c.args.self.now.acts.items c.push.new.self.items c.args.at (length c.args.bytes.now) c.args.bytes.now
    c.args.self.now.contents.items c.overwrite.new.text.items (grind (arith, common_steps)) refl c.overwrite.ensures.written (grind (arith, common_steps)) (over_bytes c.args.at c.args.bytes.now c.args.self.now.contents.items c.overwrite.new.text.items c.overwrite.ensures.written c.args.self.now.possible.bytes (λ i. omega (arith, c.type_inv.bytes i))) c.args.self.now.possible
