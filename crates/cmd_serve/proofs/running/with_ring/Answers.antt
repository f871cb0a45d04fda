use Rattle.cmd_serve.proofs.ServingLemmas.{with-alone, with-none}
use Rattle.cmd_serve.proofs.running.with_ring.Goals as goal

pub returns-in_default : goal.returns-in_default
returns-in_default g c = record {
  run = with-none (record { step = g.D.Draw.step; standing_at = g.D.Seeded.standing_at; place_of = g.D.Seeded.place_of }) c.args.options.now c.args.ring
      g.N.Net.calls g.N.Net.faults c.args.net.now g.O.Sink.written g.O.Sink.faults c.args.out.now (g.C.Clock.given c.args.clock.now) c.args.draw.now g.K.Disks.told g.K.Disks.faults c.args.disks.now;
}

pub returns-in-None : goal.returns-in-None
returns-in-None g c = record {
  run = with-alone (record { step = g.D.Draw.step; standing_at = g.D.Seeded.standing_at; place_of = g.D.Seeded.place_of }) c.args.options.now c.args.ring
      (record { told = g.N.Net.calls; faults = g.N.Net.faults; before = c.args.net.now; after = c.without_journal.new.net })
      (record { told = g.O.Sink.written; faults = g.O.Sink.faults; before = c.args.out.now; after = c.without_journal.new.out })
      (record { before = g.C.Clock.given c.args.clock.now; after = g.C.Clock.given c.without_journal.new.clock }) (record { before = c.args.draw.now; after = c.without_journal.new.draw })
      g.K.Disks.told g.K.Disks.faults c.args.disks.now c.without_journal.result c.in-None.is c.without_journal.ensures.run;
}
