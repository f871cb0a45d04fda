use Rattle.sess_records.proofs.WriteLemmas.{settles_told}
use Rattle.sess_records.proofs.writes.settle.Goals as goal

pub returns-clause-settled : goal.returns-clause-settled
returns-clause-settled g c =
    settles_told c.crashes_by_acts.ensures.one_more c.crashes_by_acts.ensures.no_more c.crashes_after_a_sync.ensures.synced c.sync.result
    (g.K.Disk.told c.args.disk.now) (g.K.Disk.told c.sync.new.self) c.sync.ensures.told
