use Rattle.std.proofs.Common.{[], arith, refl}
use Rattle.sess_records.proofs.JournalLemmas.{created_told, journal_by, rose}
use Rattle.sess_records.proofs.journal.Journal.create.Goals as goal

pub invariant_of-result : goal.invariant_of-result
invariant_of-result g c =
    journal_by c.args.seed.now [] 41 (g.K.Disk.told c.begin.new.disk) (omega arith)
    (created_told c.args.seed.now c.header_of-header.result (g.K.Disk.told c.args.disk) (g.K.Disk.told c.begin.new.disk)
    c.header_of-header.ensures c.told-seed c.begin.ensures.tells (c.in-Ready.ensures.begun refl))

pub returns-clause-empty : goal.returns-clause-empty
returns-clause-empty g c =
    created_told c.args.seed.now c.header_of-header.result (g.K.Disk.told c.args.disk) (g.K.Disk.told c.begin.new.disk)
    c.header_of-header.ensures c.told-seed c.begin.ensures.tells (c.in-Ready.ensures.begun refl)

pub returns-in_default-clause-cause : goal.returns-in_default-clause-cause
returns-in_default-clause-cause g c = rose _ _ c.in_default.ensures.counted
