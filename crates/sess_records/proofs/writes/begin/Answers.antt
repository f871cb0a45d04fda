use Rattle.sess_records.proofs.WriteLemmas.{begun_told}
use Rattle.sess_records.proofs.writes.begin.Goals as goal

pub returns-clause-begun : goal.returns-clause-begun
returns-clause-begun g c = λ ready.
    begun_told c.settle.result c.args.bytes.now (g.K.Disk.told c.args.disk.now) (g.K.Disk.told c.cut.new.self) (g.K.Disk.told c.write.new.self) (g.K.Disk.told c.settle.new.disk)
    c.in-Ready.ensures.told c.in-Ready-write.ensures.told c.settle.ensures.settled ready
