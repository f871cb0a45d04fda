use Rattle.std.proofs.Common.{Ok, refl, ◌∙◌}
use Rattle.key_files.specs.Files.{not_read, refused_at}
use Rattle.statuses.specs.declared.status.Status.TheVariants as status
use Rattle.cmd_serve.proofs.Texts.{tells-line}
use Rattle.cmd_serve.proofs.Ways.{asks-named, keys-named, refused-named, run-refused, run-unbegun, run-unread, run-with}
use Rattle.cmd_serve.proofs.running.run_serve.Goals as goal

pub returns-in-Ok : goal.returns-in-Ok
returns-in-Ok g c = record {
  run = run-with (record { step = g.D.Draw.step; standing_at = g.D.Seeded.standing_at; place_of = g.D.Seeded.place_of }) c.args.options.now
      (record { told = g.F.KeyFiles.told; faults = g.F.KeyFiles.faults; before = c.args.files.now; after = c.read_ring.new.files })
      (record { told = g.N.Net.calls; faults = g.N.Net.faults; before = c.args.net.now; after = c.with_ring.new.net })
      (record { told = g.O.Sink.written; faults = g.O.Sink.faults; before = c.args.out.now; after = c.with_ring.new.out })
      (record { before = g.C.Clock.given c.args.clock.now; after = g.C.Clock.given c.with_ring.new.clock }) (record { before = c.args.draw.now; after = c.with_ring.new.draw })
      (record { told = g.K.Disks.told; faults = g.K.Disks.faults; before = c.args.disks.now; after = c.with_ring.new.disks }) c.with_ring.result c.in-Ok.ring
      (record { no_fault = c.one_reading.ensures.no_fault; fault = c.one_reading.ensures.fault })
      (keys-named (g.F.KeyFiles.told c.args.files.now) c.as_str.result.now c.args.options.now.keys (Ok c.in-Ok.ring) c.as_str.ensures c.in-Ok.ensures.gives)
      (asks-named (g.F.KeyFiles.told c.args.files.now) (g.F.KeyFiles.told c.read_ring.new.files) c.as_str.result.now c.args.options.now.keys c.as_str.ensures c.read_ring.ensures.asked)
      c.in-Ok.ensures.counted c.with_ring.ensures.run;
}

pub returns-in-Ok-refused_line : goal.returns-in-Ok-refused_line
returns-in-Ok-refused_line g c = record {
  run = run-refused (record { step = g.D.Draw.step; standing_at = g.D.Seeded.standing_at; place_of = g.D.Seeded.place_of }) c.args.options.now
      (record { told = g.F.KeyFiles.told; faults = g.F.KeyFiles.faults; before = c.args.files.now; after = c.read_ring.new.files })
      g.N.Net.calls g.N.Net.faults c.args.net.now
      (record { told = g.O.Sink.written; faults = g.O.Sink.faults; before = c.args.out.now; after = c.say-in-Ok-refused_line.new.out })
      (g.C.Clock.given c.args.clock.now) c.args.draw.now g.K.Disks.told g.K.Disks.faults c.args.disks.now c.say-in-Ok-refused_line.result c.in-Err-Refused.line
      (record { no_fault = c.one_reading.ensures.no_fault; fault = c.one_reading.ensures.fault })
      (refused-named (g.F.KeyFiles.told c.args.files.now) c.as_str.result.now c.args.options.now.keys c.in-Err-Refused.line c.as_str.ensures (rw c.in-Err-Refused.field-0-is at c.in-Err-Refused.ensures.gives))
      (asks-named (g.F.KeyFiles.told c.args.files.now) (g.F.KeyFiles.told c.read_ring.new.files) c.as_str.result.now c.args.options.now.keys c.as_str.ensures c.read_ring.ensures.asked)
      (rw c.in-Err-Refused.field-0-is at c.in-Err-Refused.ensures.counted)
      (tells-line (record { told = g.O.Sink.written; faults = g.O.Sink.faults; before = c.args.out.now; after = c.say-in-Ok-refused_line.new.out }) status.KeysRefused c.as_slice.result.now (refused_at c.in-Err-Refused.line) c.say-in-Ok-refused_line.result
      (c.as_slice.ensures.value ∙ c.in-Ok-refused_line.ensures) c.say-in-Ok-refused_line.ensures);
}

pub returns-in-Err-Unread : goal.returns-in-Err-Unread
returns-in-Err-Unread g c = record {
  run = run-unread (record { step = g.D.Draw.step; standing_at = g.D.Seeded.standing_at; place_of = g.D.Seeded.place_of }) c.args.options.now
      (record { told = g.F.KeyFiles.told; faults = g.F.KeyFiles.faults; before = c.args.files.now; after = c.read_ring.new.files })
      g.N.Net.calls g.N.Net.faults c.args.net.now
      (record { told = g.O.Sink.written; faults = g.O.Sink.faults; before = c.args.out.now; after = c.say.new.out })
      (g.C.Clock.given c.args.clock.now) c.args.draw.now g.K.Disks.told g.K.Disks.faults c.args.disks.now c.say.result
      (asks-named (g.F.KeyFiles.told c.args.files.now) (g.F.KeyFiles.told c.read_ring.new.files) c.as_str.result.now c.args.options.now.keys c.as_str.ensures c.read_ring.ensures.asked)
      (rw c.in-Err-Unread.field-0-is at c.in-Err-Unread.ensures.counted)
      (tells-line (record { told = g.O.Sink.written; faults = g.O.Sink.faults; before = c.args.out.now; after = c.say.new.out }) status.KeysRefused c.unread_line.result.now not_read c.say.result
      c.unread_line.ensures c.say.ensures);
}

pub returns-in-Err : goal.returns-in-Err
returns-in-Err g c = record {
  run = run-unbegun (record { step = g.D.Draw.step; standing_at = g.D.Seeded.standing_at; place_of = g.D.Seeded.place_of }) c.args.options.now
      (record { told = g.F.KeyFiles.told; faults = g.F.KeyFiles.faults; before = c.args.files.now; after = c.read_ring.new.files })
      g.N.Net.calls g.N.Net.faults c.args.net.now
      (record { told = g.O.Sink.written; faults = g.O.Sink.faults; before = c.args.out.now; after = c.args.out.now })
      (g.C.Clock.given c.args.clock.now) c.args.draw.now g.K.Disks.told g.K.Disks.faults c.args.disks.now status.Memory
      (asks-named (g.F.KeyFiles.told c.args.files.now) (g.F.KeyFiles.told c.read_ring.new.files) c.as_str.result.now c.args.options.now.keys c.as_str.ensures c.read_ring.ensures.asked)
      (rw c.in-Err-Refused.field-0-is at c.in-Err-Refused.ensures.counted) (refl, refl);
}

pub returns-in-Err-Memory : goal.returns-in-Err-Memory
returns-in-Err-Memory g c = record {
  run = run-unbegun (record { step = g.D.Draw.step; standing_at = g.D.Seeded.standing_at; place_of = g.D.Seeded.place_of }) c.args.options.now
      (record { told = g.F.KeyFiles.told; faults = g.F.KeyFiles.faults; before = c.args.files.now; after = c.read_ring.new.files })
      g.N.Net.calls g.N.Net.faults c.args.net.now
      (record { told = g.O.Sink.written; faults = g.O.Sink.faults; before = c.args.out.now; after = c.args.out.now })
      (g.C.Clock.given c.args.clock.now) c.args.draw.now g.K.Disks.told g.K.Disks.faults c.args.disks.now status.Memory
      (asks-named (g.F.KeyFiles.told c.args.files.now) (g.F.KeyFiles.told c.read_ring.new.files) c.as_str.result.now c.args.options.now.keys c.as_str.ensures c.read_ring.ensures.asked)
      (rw c.in-Err-Memory.field-0-is at c.in-Err-Memory.ensures.counted) (refl, refl);
}
