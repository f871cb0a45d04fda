use Rattle.cmd_serve.specs.Journals.{Drawing}
use Rattle.cmd_serve.proofs.Openings.{opens-from, shuts-from}
use Rattle.cmd_serve.proofs.keeping.keeping.Goals as goal

pub returns-in-Len-eq0-clause-opens : goal.returns-in-Len-eq0-clause-opens
returns-in-Len-eq0-clause-opens g c =
    let drawing : Drawing g.row.D.Denot = record { step = g.D.Draw.step; standing_at = g.D.Seeded.standing_at; place_of = g.D.Seeded.place_of } in
    opens-from drawing c.args.ring g.K.Disk.told g.K.Disk.place g.K.Disk.faults c.begin.result c.args.disk c.len.new.self (g.C.Clock.given c.args.clock.now) (g.C.Clock.given c.args.clock.now) c.args.draw.now c.begin.new.draw
    c.len.ensures.told c.len.ensures.same_place c.in-Len-eq0.ensures.counted (c.begin.ensures.opens (g.C.Clock.given c.args.clock.now))

pub returns-in-Len-eq0-clause-shuts : goal.returns-in-Len-eq0-clause-shuts
returns-in-Len-eq0-clause-shuts g c =
    let drawing : Drawing g.row.D.Denot = record { step = g.D.Draw.step; standing_at = g.D.Seeded.standing_at; place_of = g.D.Seeded.place_of } in
    shuts-from drawing c.args.ring g.K.Disk.told g.K.Disk.place g.K.Disk.faults c.begin.result c.args.disk c.len.new.self (g.C.Clock.given c.args.clock.now) (g.C.Clock.given c.args.clock.now) c.args.draw.now c.begin.new.draw
    c.len.ensures.told c.len.ensures.same_place c.in-Len-eq0.ensures.counted (c.begin.ensures.shuts (g.C.Clock.given c.args.clock.now))

pub returns-in-Len-clause-opens : goal.returns-in-Len-clause-opens
returns-in-Len-clause-opens g c =
    let drawing : Drawing g.row.D.Denot = record { step = g.D.Draw.step; standing_at = g.D.Seeded.standing_at; place_of = g.D.Seeded.place_of } in
    opens-from drawing c.args.ring g.K.Disk.told g.K.Disk.place g.K.Disk.faults c.go_on.result c.args.disk c.len.new.self (g.C.Clock.given c.args.clock.now) (g.C.Clock.given c.now.new.self) c.args.draw.now c.args.draw.now
    c.len.ensures.told c.len.ensures.same_place c.in-Len.ensures.counted (c.go_on.ensures.opens (g.C.Clock.given c.args.clock.now) (g.C.Clock.given c.now.new.self) c.args.draw.now (record { told = c.now.ensures.told; goes_on = c.now.ensures.goes_on }))

pub returns-in-Len-clause-shuts : goal.returns-in-Len-clause-shuts
returns-in-Len-clause-shuts g c =
    let drawing : Drawing g.row.D.Denot = record { step = g.D.Draw.step; standing_at = g.D.Seeded.standing_at; place_of = g.D.Seeded.place_of } in
    shuts-from drawing c.args.ring g.K.Disk.told g.K.Disk.place g.K.Disk.faults c.go_on.result c.args.disk c.len.new.self (g.C.Clock.given c.args.clock.now) (g.C.Clock.given c.now.new.self) c.args.draw.now c.args.draw.now
    c.len.ensures.told c.len.ensures.same_place c.in-Len.ensures.counted (c.go_on.ensures.shuts (g.C.Clock.given c.args.clock.now) (g.C.Clock.given c.now.new.self) c.args.draw.now (record { told = c.now.ensures.told; goes_on = c.now.ensures.goes_on }))
