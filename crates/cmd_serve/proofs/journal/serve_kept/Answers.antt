use Rattle.std.proofs.Common.{refl}
use Rattle.cmd_serve.specs.Inner.{first_kept}
use Rattle.cmd_serve.specs.Journals.{Drawing}
use Rattle.cmd_serve.specs.Packets.{outside_of}
use Rattle.cmd_serve.proofs.Kepts.{kept-not, kept-serves, serve-fault}
use Rattle.cmd_serve.proofs.journal.serve_kept.Goals as goal

pub serve-ending-requires-clause-faults : goal.serve-ending-requires-clause-faults
serve-ending-requires-clause-faults g c = λ fault desk server may behind. serve-fault _ g.K.Disk.told desk fault server behind

pub returns-in-Err : goal.returns-in-Err
returns-in-Err g c =
    let drawing : Drawing g.row.D.Denot = record { step = g.D.Draw.step; standing_at = g.D.Seeded.standing_at; place_of = g.D.Seeded.place_of } in
    record {
      serves = λ server stands.
          kept-not drawing g.K.Disk.told c.args.options.now c.args.kept.server.seal g.K.Disk.place g.K.Disk.faults c.calls_in_a_row.ensures.spells
          c.args.kept server c.into_disk.result
          (record { told = g.N.Net.calls; faults = g.N.Net.faults; before = c.args.net.now; after = c.listen.new.net })
          (record { told = g.O.Sink.written; faults = g.O.Sink.faults; before = c.args.out.now; after = c.listen.new.out })
          (g.C.Clock.given c.args.clock.now) c.in-Err.status refl stands c.into_disk.ensures c.in-Err.ensures.not;
    }

pub returns : goal.returns
returns g c =
    let drawing : Drawing g.row.D.Denot = record { step = g.D.Draw.step; standing_at = g.D.Seeded.standing_at; place_of = g.D.Seeded.place_of } in
    record {
      serves = λ server stands.
          kept-serves drawing g.K.Disk.told c.args.options.now c.args.kept.server.seal g.K.Disk.place g.K.Disk.faults c.calls_in_a_row.ensures.spells
          c.args.kept c.serve-ending.new.desk server c.into_disk-disk.result
          g.N.Net.calls g.N.Net.faults c.args.net.now c.listen.new.net c.serve-ending.new.net
          g.O.Sink.written g.O.Sink.faults c.args.out.now c.listen.new.out c.last-status.new.out
          (g.C.Clock.given c.args.clock.now) (g.C.Clock.given c.serve-ending.new.clock) c.serve-ending.result c.args.lines.now.last c.last-status.result
          c.serve-ending.ensures.same_keys c.into_disk-disk.ensures c.in_default.ensures.hears
          (c.serve-ending.ensures.serves (outside_of c.args.kept.server.seal) (first_kept c.args.options.now (g.C.Clock.given c.args.clock.now) server c.args.kept.draw)
          (c.rings_say_as_worked_out.ensures c.args.kept.server.seal)
          (record { server = stands; draw = refl; served = refl; gave = refl; count = refl }))
          (c.serve-ending.ensures.desk_counted (outside_of c.args.kept.server.seal) (first_kept c.args.options.now (g.C.Clock.given c.args.clock.now) server c.args.kept.draw)
          (c.rings_say_as_worked_out.ensures c.args.kept.server.seal)
          (record { server = stands; draw = refl; served = refl; gave = refl; count = refl }))
          c.serve-ending.ensures.same_binding c.requires.last c.last-status.ensures;
    }
