use Rattle.sess_records.proofs.WriteLemmas.{not_opened, opened_settled}
use Rattle.sess_records.proofs.writes.turn.Goals as goal

pub returns-in_default-clause-turned : goal.returns-in_default-clause-turned
returns-in_default-clause-turned g c =
    not_opened c.args.gate (g.K.Disk.told c.args.disk.now) (g.K.Disk.told c.open_at.new.disk) c.in_default.ensures.opened

pub returns-clause-turned : goal.returns-clause-turned
returns-clause-turned g c =
    opened_settled c.settle.result c.args.gate (g.K.Disk.told c.args.disk.now) (g.K.Disk.told c.open_at.new.disk) (g.K.Disk.told c.settle.new.disk)
    c.in-Ready.ensures.opened c.settle.ensures.settled
