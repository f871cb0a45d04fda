use Rattle.std.proofs.Common.{◌+◌, length, arith}
use Rattle.sess_records.proofs.WriteLemmas.{appends_told, grown_inside, longer_told}
use Rattle.sess_records.proofs.writes.append.Goals as goal

pub returns-clause-longer : goal.returns-clause-longer
returns-clause-longer g c =
    longer_told c.write.result c.args.end c.args.bytes.now (g.K.Disk.told c.args.disk.now) (g.K.Disk.told c.write.new.self) c.requires c.write.ensures.told

pub returns-clause-enough : goal.returns-clause-enough
returns-clause-enough g c = λ ready place low.
    let old = g.K.Disk.told c.args.disk.now in
    let new = g.K.Disk.told c.write.new.self in
    let long = longer_told c.write.result c.args.end c.args.bytes.now old new c.requires c.write.ensures.told ready in
    grown_inside place (c.args.end + length c.args.bytes.now) old new c.write.ensures.tells long (omega (arith, low))

pub returns-clause-appended : goal.returns-clause-appended
returns-clause-appended g c =
    appends_told c.crashes_by_acts.ensures.one_more c.crashes_by_acts.ensures.no_more c.write.result c.args.end c.args.bytes.now
    (g.K.Disk.told c.args.disk.now) (g.K.Disk.told c.write.new.self) c.requires c.write.ensures.told
