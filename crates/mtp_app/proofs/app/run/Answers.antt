use Rattle.std.proofs.Common.{map, inr, refl}
use Rattle.std.specs.Prelude.{string_bytes}
use Rattle.commands.specs.declared.command.Command.TheVariants as command
use Rattle.statuses.specs.declared.status.Status.TheVariants as status
use Rattle.mtp_app.proofs.Obeying.{calls, checks, helps, loads, pairs, reads-not, relays, serves, sims, stays-alone, stays-apart, stays-unopened, tells-version}
use Rattle.mtp_app.proofs.app.run.Goals as goal

-- ---- a command was carried out

pub returns-in-Ok-clause-sim : goal.returns-in-Ok-clause-sim
returns-in-Ok-clause-sim g c = λ wire asked.
    sims
    (record { step = g.D.Draw.step; standing_at = g.D.Seeded.standing_at; place_of = g.D.Seeded.place_of })
    (record { told = g.S.Source.left; faults = g.S.Source.faults; before = c.args.input.now; after = c.obey.new.input })
    (record { told = g.O.Sink.written; faults = g.O.Sink.faults; before = c.args.out.now; after = c.obey.new.out })
    (record { told = g.F.KeyFiles.told; faults = g.F.KeyFiles.faults; before = c.args.files.now; after = c.obey.new.files })
    (record { calls = g.N.Net.calls; room = g.N.Net.room; faults = g.N.Net.faults; given = g.C.Clock.given; step = g.D.Draw.step; net = c.args.net.now; net_then = c.obey.new.net; clock = c.args.clock.now; clock_then = c.obey.new.clock; draw = c.args.draw.now; draw_then = c.obey.new.draw })
    (record { calls = g.P.Spawner.calls; faults = g.P.Spawner.faults; before = c.args.kids.now; after = c.obey.new.kids })
    (record { told = g.K.Disks.told; faults = g.K.Disks.faults; before = c.args.disks.now; after = c.obey.new.disks })
    c.number.result c.obey.result c.in-Ok.command c.number.ensures c.obey.ensures.obeys wire
    (c.one_reading.ensures (map string_bytes c.args.words.now) c.in-Ok.command (command.Sim wire) c.in-Ok.ensures.said asked)

pub returns-in-Ok-clause-load : goal.returns-in-Ok-clause-load
returns-in-Ok-clause-load g c = λ count asked.
    loads
    (record { step = g.D.Draw.step; standing_at = g.D.Seeded.standing_at; place_of = g.D.Seeded.place_of })
    (record { told = g.S.Source.left; faults = g.S.Source.faults; before = c.args.input.now; after = c.obey.new.input })
    (record { told = g.O.Sink.written; faults = g.O.Sink.faults; before = c.args.out.now; after = c.obey.new.out })
    (record { told = g.F.KeyFiles.told; faults = g.F.KeyFiles.faults; before = c.args.files.now; after = c.obey.new.files })
    (record { calls = g.N.Net.calls; room = g.N.Net.room; faults = g.N.Net.faults; given = g.C.Clock.given; step = g.D.Draw.step; net = c.args.net.now; net_then = c.obey.new.net; clock = c.args.clock.now; clock_then = c.obey.new.clock; draw = c.args.draw.now; draw_then = c.obey.new.draw })
    (record { calls = g.P.Spawner.calls; faults = g.P.Spawner.faults; before = c.args.kids.now; after = c.obey.new.kids })
    (record { told = g.K.Disks.told; faults = g.K.Disks.faults; before = c.args.disks.now; after = c.obey.new.disks })
    c.number.result c.obey.result c.in-Ok.command c.number.ensures c.obey.ensures.obeys count
    (c.one_reading.ensures (map string_bytes c.args.words.now) c.in-Ok.command (command.Load count) c.in-Ok.ensures.said asked)

pub returns-in-Ok-clause-serve : goal.returns-in-Ok-clause-serve
returns-in-Ok-clause-serve g c = λ options asked.
    serves
    (record { step = g.D.Draw.step; standing_at = g.D.Seeded.standing_at; place_of = g.D.Seeded.place_of })
    (record { told = g.S.Source.left; faults = g.S.Source.faults; before = c.args.input.now; after = c.obey.new.input })
    (record { told = g.O.Sink.written; faults = g.O.Sink.faults; before = c.args.out.now; after = c.obey.new.out })
    (record { told = g.F.KeyFiles.told; faults = g.F.KeyFiles.faults; before = c.args.files.now; after = c.obey.new.files })
    (record { calls = g.N.Net.calls; room = g.N.Net.room; faults = g.N.Net.faults; given = g.C.Clock.given; step = g.D.Draw.step; net = c.args.net.now; net_then = c.obey.new.net; clock = c.args.clock.now; clock_then = c.obey.new.clock; draw = c.args.draw.now; draw_then = c.obey.new.draw })
    (record { calls = g.P.Spawner.calls; faults = g.P.Spawner.faults; before = c.args.kids.now; after = c.obey.new.kids })
    (record { told = g.K.Disks.told; faults = g.K.Disks.faults; before = c.args.disks.now; after = c.obey.new.disks })
    c.number.result c.obey.result c.in-Ok.command c.number.ensures c.obey.ensures.obeys options
    (c.one_reading.ensures (map string_bytes c.args.words.now) c.in-Ok.command (command.Serve options) c.in-Ok.ensures.said asked)

pub returns-in-Ok-clause-call : goal.returns-in-Ok-clause-call
returns-in-Ok-clause-call g c = λ options asked.
    calls
    (record { step = g.D.Draw.step; standing_at = g.D.Seeded.standing_at; place_of = g.D.Seeded.place_of })
    (record { told = g.S.Source.left; faults = g.S.Source.faults; before = c.args.input.now; after = c.obey.new.input })
    (record { told = g.O.Sink.written; faults = g.O.Sink.faults; before = c.args.out.now; after = c.obey.new.out })
    (record { told = g.F.KeyFiles.told; faults = g.F.KeyFiles.faults; before = c.args.files.now; after = c.obey.new.files })
    (record { calls = g.N.Net.calls; room = g.N.Net.room; faults = g.N.Net.faults; given = g.C.Clock.given; step = g.D.Draw.step; net = c.args.net.now; net_then = c.obey.new.net; clock = c.args.clock.now; clock_then = c.obey.new.clock; draw = c.args.draw.now; draw_then = c.obey.new.draw })
    (record { calls = g.P.Spawner.calls; faults = g.P.Spawner.faults; before = c.args.kids.now; after = c.obey.new.kids })
    (record { told = g.K.Disks.told; faults = g.K.Disks.faults; before = c.args.disks.now; after = c.obey.new.disks })
    c.number.result c.obey.result c.in-Ok.command c.number.ensures c.obey.ensures.obeys options
    (c.one_reading.ensures (map string_bytes c.args.words.now) c.in-Ok.command (command.Call options) c.in-Ok.ensures.said asked)

pub returns-in-Ok-clause-pair : goal.returns-in-Ok-clause-pair
returns-in-Ok-clause-pair g c = λ options asked.
    pairs
    (record { step = g.D.Draw.step; standing_at = g.D.Seeded.standing_at; place_of = g.D.Seeded.place_of })
    (record { told = g.S.Source.left; faults = g.S.Source.faults; before = c.args.input.now; after = c.obey.new.input })
    (record { told = g.O.Sink.written; faults = g.O.Sink.faults; before = c.args.out.now; after = c.obey.new.out })
    (record { told = g.F.KeyFiles.told; faults = g.F.KeyFiles.faults; before = c.args.files.now; after = c.obey.new.files })
    (record { calls = g.N.Net.calls; room = g.N.Net.room; faults = g.N.Net.faults; given = g.C.Clock.given; step = g.D.Draw.step; net = c.args.net.now; net_then = c.obey.new.net; clock = c.args.clock.now; clock_then = c.obey.new.clock; draw = c.args.draw.now; draw_then = c.obey.new.draw })
    (record { calls = g.P.Spawner.calls; faults = g.P.Spawner.faults; before = c.args.kids.now; after = c.obey.new.kids })
    (record { told = g.K.Disks.told; faults = g.K.Disks.faults; before = c.args.disks.now; after = c.obey.new.disks })
    c.number.result c.obey.result c.in-Ok.command c.number.ensures c.obey.ensures.obeys options
    (c.one_reading.ensures (map string_bytes c.args.words.now) c.in-Ok.command (command.Pair options) c.in-Ok.ensures.said asked)

pub returns-in-Ok-clause-check : goal.returns-in-Ok-clause-check
returns-in-Ok-clause-check g c = λ asked.
    checks
    (record { step = g.D.Draw.step; standing_at = g.D.Seeded.standing_at; place_of = g.D.Seeded.place_of })
    (record { told = g.S.Source.left; faults = g.S.Source.faults; before = c.args.input.now; after = c.obey.new.input })
    (record { told = g.O.Sink.written; faults = g.O.Sink.faults; before = c.args.out.now; after = c.obey.new.out })
    (record { told = g.F.KeyFiles.told; faults = g.F.KeyFiles.faults; before = c.args.files.now; after = c.obey.new.files })
    (record { calls = g.N.Net.calls; room = g.N.Net.room; faults = g.N.Net.faults; given = g.C.Clock.given; step = g.D.Draw.step; net = c.args.net.now; net_then = c.obey.new.net; clock = c.args.clock.now; clock_then = c.obey.new.clock; draw = c.args.draw.now; draw_then = c.obey.new.draw })
    (record { calls = g.P.Spawner.calls; faults = g.P.Spawner.faults; before = c.args.kids.now; after = c.obey.new.kids })
    (record { told = g.K.Disks.told; faults = g.K.Disks.faults; before = c.args.disks.now; after = c.obey.new.disks })
    c.number.result c.obey.result c.in-Ok.command c.number.ensures c.obey.ensures.obeys
    (c.one_reading.ensures (map string_bytes c.args.words.now) c.in-Ok.command command.Check c.in-Ok.ensures.said asked)

pub returns-in-Ok-clause-relay : goal.returns-in-Ok-clause-relay
returns-in-Ok-clause-relay g c = λ options asked.
    relays
    (record { step = g.D.Draw.step; standing_at = g.D.Seeded.standing_at; place_of = g.D.Seeded.place_of })
    (record { told = g.S.Source.left; faults = g.S.Source.faults; before = c.args.input.now; after = c.obey.new.input })
    (record { told = g.O.Sink.written; faults = g.O.Sink.faults; before = c.args.out.now; after = c.obey.new.out })
    (record { told = g.F.KeyFiles.told; faults = g.F.KeyFiles.faults; before = c.args.files.now; after = c.obey.new.files })
    (record { calls = g.N.Net.calls; room = g.N.Net.room; faults = g.N.Net.faults; given = g.C.Clock.given; step = g.D.Draw.step; net = c.args.net.now; net_then = c.obey.new.net; clock = c.args.clock.now; clock_then = c.obey.new.clock; draw = c.args.draw.now; draw_then = c.obey.new.draw })
    (record { calls = g.P.Spawner.calls; faults = g.P.Spawner.faults; before = c.args.kids.now; after = c.obey.new.kids })
    (record { told = g.K.Disks.told; faults = g.K.Disks.faults; before = c.args.disks.now; after = c.obey.new.disks })
    c.number.result c.obey.result c.in-Ok.command c.number.ensures c.obey.ensures.obeys options
    (c.one_reading.ensures (map string_bytes c.args.words.now) c.in-Ok.command (command.Relay options) c.in-Ok.ensures.said asked)

pub returns-in-Ok-clause-help : goal.returns-in-Ok-clause-help
returns-in-Ok-clause-help g c = λ page asked.
    helps
    (record { step = g.D.Draw.step; standing_at = g.D.Seeded.standing_at; place_of = g.D.Seeded.place_of })
    (record { told = g.S.Source.left; faults = g.S.Source.faults; before = c.args.input.now; after = c.obey.new.input })
    (record { told = g.O.Sink.written; faults = g.O.Sink.faults; before = c.args.out.now; after = c.obey.new.out })
    (record { told = g.F.KeyFiles.told; faults = g.F.KeyFiles.faults; before = c.args.files.now; after = c.obey.new.files })
    (record { calls = g.N.Net.calls; room = g.N.Net.room; faults = g.N.Net.faults; given = g.C.Clock.given; step = g.D.Draw.step; net = c.args.net.now; net_then = c.obey.new.net; clock = c.args.clock.now; clock_then = c.obey.new.clock; draw = c.args.draw.now; draw_then = c.obey.new.draw })
    (record { calls = g.P.Spawner.calls; faults = g.P.Spawner.faults; before = c.args.kids.now; after = c.obey.new.kids })
    (record { told = g.K.Disks.told; faults = g.K.Disks.faults; before = c.args.disks.now; after = c.obey.new.disks })
    c.number.result c.obey.result c.in-Ok.command c.number.ensures c.obey.ensures.obeys page
    (c.one_reading.ensures (map string_bytes c.args.words.now) c.in-Ok.command (command.Help page) c.in-Ok.ensures.said asked)

pub returns-in-Ok-clause-version : goal.returns-in-Ok-clause-version
returns-in-Ok-clause-version g c = λ asked.
    tells-version
    (record { step = g.D.Draw.step; standing_at = g.D.Seeded.standing_at; place_of = g.D.Seeded.place_of })
    (record { told = g.S.Source.left; faults = g.S.Source.faults; before = c.args.input.now; after = c.obey.new.input })
    (record { told = g.O.Sink.written; faults = g.O.Sink.faults; before = c.args.out.now; after = c.obey.new.out })
    (record { told = g.F.KeyFiles.told; faults = g.F.KeyFiles.faults; before = c.args.files.now; after = c.obey.new.files })
    (record { calls = g.N.Net.calls; room = g.N.Net.room; faults = g.N.Net.faults; given = g.C.Clock.given; step = g.D.Draw.step; net = c.args.net.now; net_then = c.obey.new.net; clock = c.args.clock.now; clock_then = c.obey.new.clock; draw = c.args.draw.now; draw_then = c.obey.new.draw })
    (record { calls = g.P.Spawner.calls; faults = g.P.Spawner.faults; before = c.args.kids.now; after = c.obey.new.kids })
    (record { told = g.K.Disks.told; faults = g.K.Disks.faults; before = c.args.disks.now; after = c.obey.new.disks })
    c.number.result c.obey.result c.in-Ok.command c.number.ensures c.obey.ensures.obeys
    (c.one_reading.ensures (map string_bytes c.args.words.now) c.in-Ok.command command.Version c.in-Ok.ensures.said asked)

pub returns-in-Ok-clause-refused : goal.returns-in-Ok-clause-refused
returns-in-Ok-clause-refused g c = λ none. absurd (none c.in-Ok.command c.in-Ok.ensures.said)

pub returns-in-Ok-clause-unread : goal.returns-in-Ok-clause-unread
returns-in-Ok-clause-unread g c = λ not.
    reads-not
    (record { told = g.S.Source.left; faults = g.S.Source.faults; before = c.args.input.now; after = c.obey.new.input })
    (record { told = g.F.KeyFiles.told; faults = g.F.KeyFiles.faults; before = c.args.files.now; after = c.obey.new.files })
    (record { calls = g.N.Net.calls; room = g.N.Net.room; faults = g.N.Net.faults; given = g.C.Clock.given; step = g.D.Draw.step; net = c.args.net.now; net_then = c.obey.new.net; clock = c.args.clock.now; clock_then = c.obey.new.clock; draw = c.args.draw.now; draw_then = c.obey.new.draw })
    (record { calls = g.P.Spawner.calls; faults = g.P.Spawner.faults; before = c.args.kids.now; after = c.obey.new.kids })
    (record { told = g.K.Disks.told; faults = g.K.Disks.faults; before = c.args.disks.now; after = c.obey.new.disks })
    (map string_bytes c.args.words.now) c.in-Ok.command c.in-Ok.ensures.said c.obey.ensures.stays not

pub returns-in-Ok-clause-offline : goal.returns-in-Ok-clause-offline
returns-in-Ok-clause-offline g c = λ not.
    let apart =
    stays-apart
    (record { told = g.S.Source.left; faults = g.S.Source.faults; before = c.args.input.now; after = c.obey.new.input })
    (record { told = g.F.KeyFiles.told; faults = g.F.KeyFiles.faults; before = c.args.files.now; after = c.obey.new.files })
    (record { calls = g.N.Net.calls; room = g.N.Net.room; faults = g.N.Net.faults; given = g.C.Clock.given; step = g.D.Draw.step; net = c.args.net.now; net_then = c.obey.new.net; clock = c.args.clock.now; clock_then = c.obey.new.clock; draw = c.args.draw.now; draw_then = c.obey.new.draw })
    (record { calls = g.P.Spawner.calls; faults = g.P.Spawner.faults; before = c.args.kids.now; after = c.obey.new.kids })
    (record { told = g.K.Disks.told; faults = g.K.Disks.faults; before = c.args.disks.now; after = c.obey.new.disks })
    (map string_bytes c.args.words.now) c.in-Ok.command c.in-Ok.ensures.said c.obey.ensures.stays not in
    (apart.files_stay, apart.idle.offline.net, apart.idle.offline.clock, apart.idle.draw)

pub returns-in-Ok-clause-alone : goal.returns-in-Ok-clause-alone
returns-in-Ok-clause-alone g c = λ not.
    stays-alone
    (record { told = g.S.Source.left; faults = g.S.Source.faults; before = c.args.input.now; after = c.obey.new.input })
    (record { told = g.F.KeyFiles.told; faults = g.F.KeyFiles.faults; before = c.args.files.now; after = c.obey.new.files })
    (record { calls = g.N.Net.calls; room = g.N.Net.room; faults = g.N.Net.faults; given = g.C.Clock.given; step = g.D.Draw.step; net = c.args.net.now; net_then = c.obey.new.net; clock = c.args.clock.now; clock_then = c.obey.new.clock; draw = c.args.draw.now; draw_then = c.obey.new.draw })
    (record { calls = g.P.Spawner.calls; faults = g.P.Spawner.faults; before = c.args.kids.now; after = c.obey.new.kids })
    (record { told = g.K.Disks.told; faults = g.K.Disks.faults; before = c.args.disks.now; after = c.obey.new.disks })
    (map string_bytes c.args.words.now) c.in-Ok.command c.in-Ok.ensures.said c.obey.ensures.stays not

pub returns-in-Ok-clause-unopened : goal.returns-in-Ok-clause-unopened
returns-in-Ok-clause-unopened g c = λ not.
    stays-unopened
    (record { told = g.S.Source.left; faults = g.S.Source.faults; before = c.args.input.now; after = c.obey.new.input })
    (record { told = g.F.KeyFiles.told; faults = g.F.KeyFiles.faults; before = c.args.files.now; after = c.obey.new.files })
    (record { calls = g.N.Net.calls; room = g.N.Net.room; faults = g.N.Net.faults; given = g.C.Clock.given; step = g.D.Draw.step; net = c.args.net.now; net_then = c.obey.new.net; clock = c.args.clock.now; clock_then = c.obey.new.clock; draw = c.args.draw.now; draw_then = c.obey.new.draw })
    (record { calls = g.P.Spawner.calls; faults = g.P.Spawner.faults; before = c.args.kids.now; after = c.obey.new.kids })
    (record { told = g.K.Disks.told; faults = g.K.Disks.faults; before = c.args.disks.now; after = c.obey.new.disks })
    (map string_bytes c.args.words.now) c.in-Ok.command c.in-Ok.ensures.said c.obey.ensures.stays not

-- ---- the words say no command

pub returns-in-Err-Refused-clause-sim : goal.returns-in-Err-Refused-clause-sim
returns-in-Err-Refused-clause-sim g c = λ wire asked. absurd (c.in-Err-Refused.ensures.refused c.in-Err-Refused.field-0-is (command.Sim wire) asked)

pub returns-in-Err-Refused-clause-load : goal.returns-in-Err-Refused-clause-load
returns-in-Err-Refused-clause-load g c = λ count asked. absurd (c.in-Err-Refused.ensures.refused c.in-Err-Refused.field-0-is (command.Load count) asked)

pub returns-in-Err-Refused-clause-serve : goal.returns-in-Err-Refused-clause-serve
returns-in-Err-Refused-clause-serve g c = λ options asked. absurd (c.in-Err-Refused.ensures.refused c.in-Err-Refused.field-0-is (command.Serve options) asked)

pub returns-in-Err-Refused-clause-call : goal.returns-in-Err-Refused-clause-call
returns-in-Err-Refused-clause-call g c = λ options asked. absurd (c.in-Err-Refused.ensures.refused c.in-Err-Refused.field-0-is (command.Call options) asked)

pub returns-in-Err-Refused-clause-pair : goal.returns-in-Err-Refused-clause-pair
returns-in-Err-Refused-clause-pair g c = λ options asked. absurd (c.in-Err-Refused.ensures.refused c.in-Err-Refused.field-0-is (command.Pair options) asked)

pub returns-in-Err-Refused-clause-check : goal.returns-in-Err-Refused-clause-check
returns-in-Err-Refused-clause-check g c = λ asked. absurd (c.in-Err-Refused.ensures.refused c.in-Err-Refused.field-0-is command.Check asked)

pub returns-in-Err-Refused-clause-relay : goal.returns-in-Err-Refused-clause-relay
returns-in-Err-Refused-clause-relay g c = λ options asked. absurd (c.in-Err-Refused.ensures.refused c.in-Err-Refused.field-0-is (command.Relay options) asked)

pub returns-in-Err-Refused-clause-help : goal.returns-in-Err-Refused-clause-help
returns-in-Err-Refused-clause-help g c = λ page asked. absurd (c.in-Err-Refused.ensures.refused c.in-Err-Refused.field-0-is (command.Help page) asked)

pub returns-in-Err-Refused-clause-version : goal.returns-in-Err-Refused-clause-version
returns-in-Err-Refused-clause-version g c = λ asked. absurd (c.in-Err-Refused.ensures.refused c.in-Err-Refused.field-0-is command.Version asked)

-- ---- memory ran out

pub returns-in-Err-Memory-clause-sim : goal.returns-in-Err-Memory-clause-sim
returns-in-Err-Memory-clause-sim g c = λ wire asked. (status.Memory, c.number-in-Err-Memory.ensures, c.memory_may_run_out.ensures wire _ _ refl)

pub returns-in-Err-Memory-clause-load : goal.returns-in-Err-Memory-clause-load
returns-in-Err-Memory-clause-load g c = λ count asked. (status.Memory, c.number-in-Err-Memory.ensures, record { written = inr (refl, refl); once = λ is. absurd cc })

pub returns-in-Err-Memory-clause-serve : goal.returns-in-Err-Memory-clause-serve
returns-in-Err-Memory-clause-serve g c = λ options asked. (
  status.Memory,
  c.number-in-Err-Memory.ensures,
  inr (
    record {
      said = refl;
      unwritten = refl;
      apart = record { files_stay = refl; idle = record { offline = record { net = refl; clock = refl }; draw = refl } };
    },
    refl,
  ),
)

pub returns-in-Err-Memory-clause-call : goal.returns-in-Err-Memory-clause-call
returns-in-Err-Memory-clause-call g c = λ options asked. (
  status.Memory,
  c.number-in-Err-Memory.ensures,
  inr (record {
    said = refl;
    unwritten = refl;
    apart = record { files_stay = refl; idle = record { offline = record { net = refl; clock = refl }; draw = refl } };
  }),
)

pub returns-in-Err-Memory-clause-pair : goal.returns-in-Err-Memory-clause-pair
returns-in-Err-Memory-clause-pair g c = λ options asked. (
  status.Memory,
  c.number-in-Err-Memory.ensures,
  inr (
    record {
      said = refl;
      unwritten = refl;
      apart = record { files_stay = refl; idle = record { offline = record { net = refl; clock = refl }; draw = refl } };
    },
    refl,
  ),
)

pub returns-in-Err-Memory-clause-check : goal.returns-in-Err-Memory-clause-check
returns-in-Err-Memory-clause-check g c = λ asked. (status.Memory, c.number-in-Err-Memory.ensures, c.memory_may_run_out-2.ensures _ _ refl)

pub returns-in-Err-Memory-clause-relay : goal.returns-in-Err-Memory-clause-relay
returns-in-Err-Memory-clause-relay g c = λ options asked. (status.Memory, c.number-in-Err-Memory.ensures, c.memory_may_run_out-3.ensures options.form options.secret _ _ refl)

pub returns-in-Err-Memory-clause-help : goal.returns-in-Err-Memory-clause-help
returns-in-Err-Memory-clause-help g c = λ page asked. (status.Memory, c.number-in-Err-Memory.ensures, inr (refl, refl))

pub returns-in-Err-Memory-clause-version : goal.returns-in-Err-Memory-clause-version
returns-in-Err-Memory-clause-version g c = λ asked. (status.Memory, c.number-in-Err-Memory.ensures, inr (refl, refl))

pub returns-in-Err-Memory-clause-refused : goal.returns-in-Err-Memory-clause-refused
returns-in-Err-Memory-clause-refused g c = λ none. (status.Memory, c.number-in-Err-Memory.ensures, inr (refl, refl))
