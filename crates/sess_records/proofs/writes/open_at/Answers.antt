use Rattle.sess_records.proofs.WriteLemmas.{opens_told}
use Rattle.sess_records.proofs.writes.open_at.Goals as goal

pub returns-clause-opened : goal.returns-clause-opened
returns-clause-opened g c =
    opens_told c.crashes_by_acts.ensures.one_more c.crashes_by_acts.ensures.no_more c.crashes_after_a_sync.ensures.inside c.write.result c.args.gate
    (g.K.Disk.told c.args.disk.now) (g.K.Disk.told c.write.new.self) c.write.ensures.told
