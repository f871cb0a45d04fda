use Rattle.sess_records.proofs.WriteLemmas.{not_shortened, shortened_settled}
use Rattle.sess_records.proofs.writes.trim.Goals as goal

pub returns-in_default-clause-trimmed : goal.returns-in_default-clause-trimmed
returns-in_default-clause-trimmed g c =
    not_shortened c.args.end (g.K.Disk.told c.args.disk.now) (g.K.Disk.told c.shorten.new.disk) c.in_default.ensures.shortened

pub returns-clause-trimmed : goal.returns-clause-trimmed
returns-clause-trimmed g c =
    shortened_settled c.settle.result c.args.end (g.K.Disk.told c.args.disk.now) (g.K.Disk.told c.shorten.new.disk) (g.K.Disk.told c.settle.new.disk)
    c.in-Ready.ensures.shortened c.settle.ensures.settled
