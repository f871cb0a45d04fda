use Rattle.std.proofs.Common.{List, IfOk, IfErr, subst}
use Rattle.auth_keys.specs.declared.ring.RingKey.{RingKey}
use Rattle.cmd_serve.specs.Inner.{OpensFile, ShutsFile}
use Rattle.cmd_serve.specs.Journals.{Drawing}
use Rattle.cmd_serve.proofs.Openings.{RecordLaws, opened, opened-not}
use Rattle.cmd_serve.proofs.keeping.go_on.Goals as goal

pub returns-clause-opens : goal.returns-clause-opens
returns-clause-opens g c = λ given given_then draw gave.
    let drawing : Drawing g.row.D.Denot = record { step = g.D.Draw.step; standing_at = g.D.Seeded.standing_at; place_of = g.D.Seeded.place_of } in
    let laws : RecordLaws g.row.D.Denot = record { seals = c.opens_what_it_sealed.ensures; one = c.records_lead_to_one_server.ensures.one; whole = c.records_lead_to_one_server.ensures.whole } in
    subst (λ (ring : List RingKey). IfOk c.open.result (OpensFile drawing ring g.K.Disk.told g.K.Disk.place g.K.Disk.faults c.args.disk given given_then draw draw)) c.new.ensures
    (opened drawing c.new.result g.K.Disk.told g.K.Disk.place g.K.Disk.faults laws c.open.result c.args.disk c.args.now given given_then draw gave
    c.open.ensures.opened c.open.ensures.seal c.open.ensures.counted c.open.ensures.same_disk)

pub returns-clause-shuts : goal.returns-clause-shuts
returns-clause-shuts g c = λ given given_then draw gave.
    let drawing : Drawing g.row.D.Denot = record { step = g.D.Draw.step; standing_at = g.D.Seeded.standing_at; place_of = g.D.Seeded.place_of } in
    subst (λ (ring : List RingKey). IfErr c.open.result (ShutsFile drawing ring g.K.Disk.told g.K.Disk.place g.K.Disk.faults c.args.disk given given_then draw draw)) c.new.ensures
    (opened-not drawing c.new.result g.K.Disk.told g.K.Disk.place g.K.Disk.faults c.open.result c.args.disk c.args.now given given_then draw gave
    c.requires.some c.open.ensures.refused c.open.ensures.journals_are_opened c.open.ensures.unchanged c.open.ensures.cause c.open.ensures.same_disk)
