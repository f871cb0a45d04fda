use Rattle.std.proofs.Common.{List, IfOk, subst}
use Rattle.auth_keys.specs.declared.ring.RingKey.{RingKey}
use Rattle.cmd_serve.specs.Inner.{OpensFile}
use Rattle.cmd_serve.specs.Journals.{Drawing}
use Rattle.cmd_serve.proofs.Openings.{RecordLaws, created, created-not}
use Rattle.cmd_serve.proofs.keeping.begin.Goals as goal

pub returns-clause-opens : goal.returns-clause-opens
returns-clause-opens g c = λ given.
    let drawing : Drawing g.row.D.Denot = record { step = g.D.Draw.step; standing_at = g.D.Seeded.standing_at; place_of = g.D.Seeded.place_of } in
    let laws : RecordLaws g.row.D.Denot = record { seals = c.opens_what_it_sealed.ensures; one = c.records_lead_to_one_server.ensures.one; whole = c.records_lead_to_one_server.ensures.whole } in
    subst (λ (ring : List RingKey). IfOk c.create.result (OpensFile drawing ring g.K.Disk.told g.K.Disk.place g.K.Disk.faults c.args.disk given given c.args.draw.now c.new_seed-seed.new.draw)) c.new.ensures
    (created drawing c.new.result g.K.Disk.told g.K.Disk.place g.K.Disk.faults laws c.create.result c.args.disk c.new_seed-seed.result given c.args.draw.now c.new_seed-seed.new.draw
    c.requires.empty c.new_seed-seed.ensures.seed c.new_seed-seed.ensures.after c.create.ensures.stands c.create.ensures.seal c.create.ensures.seed c.create.ensures.counted c.create.ensures.same_disk)

pub returns-clause-shuts : goal.returns-clause-shuts
returns-clause-shuts g c = λ given.
    let drawing : Drawing g.row.D.Denot = record { step = g.D.Draw.step; standing_at = g.D.Seeded.standing_at; place_of = g.D.Seeded.place_of } in
    created-not drawing c.args.ring g.K.Disk.told g.K.Disk.place g.K.Disk.faults c.create.result c.args.disk given c.args.draw.now c.new_seed-seed.new.draw
    c.new_seed-seed.ensures.after c.create.ensures.cause c.create.ensures.same_disk
