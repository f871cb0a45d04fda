use Rattle.cmd_serve.proofs.Keepings.{with-failed, with-kept, with-shut}
use Rattle.cmd_serve.proofs.journal.with_journal.Goals as goal

pub returns-in-Failed : goal.returns-in-Failed
returns-in-Failed g c = record {
  run = with-failed (record { step = g.D.Draw.step; standing_at = g.D.Seeded.standing_at; place_of = g.D.Seeded.place_of }) c.args.ring c.args.name.now c.args.options.now
      g.N.Net.calls g.N.Net.faults c.args.net.now (record { told = g.O.Sink.written; faults = g.O.Sink.faults; before = c.args.out.now; after = c.say.new.out })
      (g.C.Clock.given c.args.clock.now) c.args.draw.now (record { told = g.K.Disks.told; faults = g.K.Disks.faults; before = c.args.disks.now; after = c.open.new.self }) c.say.result
      c.requires.named c.in-Failed.ensures.told c.in-Failed.ensures.counted c.open.ensures.goes_on c.say.ensures;
}

pub returns-in-Ok : goal.returns-in-Ok
returns-in-Ok g c =
    let opened = c.in-Ok.ensures.opens in
    record {
      run = with-kept (record { step = g.D.Draw.step; standing_at = g.D.Seeded.standing_at; place_of = g.D.Seeded.place_of }) c.args.options.now c.args.ring c.args.name.now c.requires.named
          g.K.K.Disk.told g.K.K.Disk.place g.K.K.Disk.faults c.in-Disk.disk (record { told = g.K.Disks.told; faults = g.K.Disks.faults; before = c.args.disks.now; after = c.done.new.self }) c.open.new.self
          (g.C.Clock.given c.args.clock.now) (g.C.Clock.given c.keeping.new.clock) c.args.draw.now c.keeping.new.draw c.in-Disk.ensures.no_fault_yet c.in-Disk.ensures.told c.in-Disk.ensures.counted
          (λ some. c.done.ensures.goes_on (c.open.ensures.goes_on some)) c.in-Ok.kept c.serve_kept-disk.result
          (record { told = g.N.Net.calls; faults = g.N.Net.faults; before = c.args.net.now; after = c.serve_kept-disk.new.net })
          (record { told = g.O.Sink.written; faults = g.O.Sink.faults; before = c.args.out.now; after = c.serve_kept-disk.new.out })
          (g.C.Clock.given c.serve_kept-disk.new.clock) opened (c.serve_kept-disk.ensures.serves opened.server opened.stands) c.done.ensures.told c.done.ensures.counted;
    }

pub returns-in-Err : goal.returns-in-Err
returns-in-Err g c = record {
  run = with-shut (record { step = g.D.Draw.step; standing_at = g.D.Seeded.standing_at; place_of = g.D.Seeded.place_of }) c.args.options.now c.args.ring c.args.name.now c.requires.named
      g.K.K.Disk.told g.K.K.Disk.place g.K.K.Disk.faults c.in-Disk.disk (record { told = g.K.Disks.told; faults = g.K.Disks.faults; before = c.args.disks.now; after = c.done-in-Err.new.self }) c.open.new.self
      (g.C.Clock.given c.args.clock.now) (g.C.Clock.given c.keeping.new.clock) c.args.draw.now c.keeping.new.draw c.in-Disk.ensures.no_fault_yet c.in-Disk.ensures.told c.in-Disk.ensures.counted
      (λ some. c.done-in-Err.ensures.goes_on (c.open.ensures.goes_on some)) (c.in-Err.disk, c.in-Err.fault) g.N.Net.calls g.N.Net.faults c.args.net.now
      (record { told = g.O.Sink.written; faults = g.O.Sink.faults; before = c.args.out.now; after = c.shut.new.out }) c.shut.result
      c.in-Err.ensures.shuts c.done-in-Err.ensures.told c.done-in-Err.ensures.counted c.shut.ensures;
}
