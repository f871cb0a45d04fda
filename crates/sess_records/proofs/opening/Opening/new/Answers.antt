use Rattle.sess_records.proofs.JournalLemmas.{found_opening, found_same, found_taken, refused_told}
use Rattle.sess_records.proofs.opening.Opening.new.Goals as goal

pub invariant_of-result : goal.invariant_of-result
invariant_of-result g c =
    found_opening c.in-Ok.front (g.K.Disk.told c.args.disk) (g.K.Disk.told c.look.new.disk) c.look.ensures.tells c.in-Ok.ensures.inside.0 c.in-Ok.ensures.found

pub returns-clause-empty : goal.returns-clause-empty
returns-clause-empty g c = found_taken c.in-Ok.front (g.K.Disk.told c.args.disk) (g.K.Disk.told c.look.new.disk) c.look.ensures.tells c.in-Ok.ensures.found

pub returns-clause-same : goal.returns-clause-same
returns-clause-same g c = found_same c.in-Ok.front (g.K.Disk.told c.args.disk) (g.K.Disk.told c.look.new.disk) c.in-Ok.ensures.found

pub returns-in-Err-clause-refused : goal.returns-in-Err-clause-refused
returns-in-Err-clause-refused g c = refused_told c.in-Err.fault (g.K.Disk.told c.args.disk) c.in-Err.ensures.refused
