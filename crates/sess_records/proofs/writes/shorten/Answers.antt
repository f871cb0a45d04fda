use Rattle.sess_records.proofs.WriteLemmas.{shortens_told}
use Rattle.sess_records.proofs.writes.shorten.Goals as goal

pub returns-clause-shortened : goal.returns-clause-shortened
returns-clause-shortened g c =
    shortens_told c.crashes_by_acts.ensures.one_more c.crashes_by_acts.ensures.no_more c.cut.result c.args.end
    (g.K.Disk.told c.args.disk.now) (g.K.Disk.told c.cut.new.self) c.cut.ensures.told
