use Rattle.std.proofs.Common.{inr, refl}
use Rattle.cmd_call.specs.Owed.{around_of, files_of}
use Rattle.statuses.specs.Outside.{Outside}
use Rattle.statuses.specs.declared.status.Status.TheVariants as status
use Rattle.cmd_pair.specs.Servers.{kids_of}
use Rattle.cmd_pair.proofs.Ends.{pair-run}
use Rattle.cmd_pair.proofs.Telling.{owed-told, refused-told, unread-told}
use Rattle.cmd_pair.proofs.running.run_pair.Goals as goal

pub returns-in-Ok : goal.returns-in-Ok
returns-in-Ok g c =
    let around = around_of g.N.Net.calls g.N.Net.room g.N.Net.faults g.C.Clock.given g.D.Draw.step c.args.net.now c.answer.new.net c.args.clock.now c.answer.new.clock c.args.draw.now c.answer.new.draw in
    let files = files_of g.F.KeyFiles.told g.F.KeyFiles.faults c.args.files.now c.answer.new.files in
    let kids = kids_of g.P.Spawner.calls g.P.Spawner.faults c.args.kids.now c.answer.new.kids in
    let input : Outside g.row.S.Denot = record { told = g.S.Source.left; faults = g.S.Source.faults; before = c.args.input.now; after = c.answer.new.input } in
    let out : Outside g.row.O.Denot = record { told = g.O.Sink.written; faults = g.O.Sink.faults; before = c.args.out.now; after = c.tell.new.out } in
    pair-run c.args.options.now input out files around kids c.tell.result c.one_reading.ensures.calls c.one_reading.ensures.not_both c.one_reading-2.ensures.ring c.one_reading-2.ensures.no_fault
    (owed-told c.args.options.now input out files around kids c.tell.result c.in-Ok.answer c.in-Ok.ensures.owed c.tell.ensures) c.answer.ensures.asked

pub returns-in-Err-Refused : goal.returns-in-Err-Refused
returns-in-Err-Refused g c =
    let around = around_of g.N.Net.calls g.N.Net.room g.N.Net.faults g.C.Clock.given g.D.Draw.step c.args.net.now c.answer.new.net c.args.clock.now c.answer.new.clock c.args.draw.now c.answer.new.draw in
    let files = files_of g.F.KeyFiles.told g.F.KeyFiles.faults c.args.files.now c.answer.new.files in
    let kids = kids_of g.P.Spawner.calls g.P.Spawner.faults c.args.kids.now c.answer.new.kids in
    let input : Outside g.row.S.Denot = record { told = g.S.Source.left; faults = g.S.Source.faults; before = c.args.input.now; after = c.answer.new.input } in
    let out : Outside g.row.O.Denot = record { told = g.O.Sink.written; faults = g.O.Sink.faults; before = c.args.out.now; after = c.tell-in-Err-Refused.new.out } in
    pair-run c.args.options.now input out files around kids c.tell-in-Err-Refused.result c.one_reading.ensures.calls c.one_reading.ensures.not_both c.one_reading-2.ensures.ring c.one_reading-2.ensures.no_fault
    (refused-told c.args.options.now input out files around kids c.tell-in-Err-Refused.result c.in-Err-Refused.answer (rw c.in-Err-Refused.field-0-is at c.in-Err-Refused.ensures.halts) c.tell-in-Err-Refused.ensures) c.answer.ensures.asked

pub returns-in-Err-ReadFault : goal.returns-in-Err-ReadFault
returns-in-Err-ReadFault g c =
    let around = around_of g.N.Net.calls g.N.Net.room g.N.Net.faults g.C.Clock.given g.D.Draw.step c.args.net.now c.answer.new.net c.args.clock.now c.answer.new.clock c.args.draw.now c.answer.new.draw in
    let files = files_of g.F.KeyFiles.told g.F.KeyFiles.faults c.args.files.now c.answer.new.files in
    let kids = kids_of g.P.Spawner.calls g.P.Spawner.faults c.args.kids.now c.answer.new.kids in
    let input : Outside g.row.S.Denot = record { told = g.S.Source.left; faults = g.S.Source.faults; before = c.args.input.now; after = c.answer.new.input } in
    let out : Outside g.row.O.Denot = record { told = g.O.Sink.written; faults = g.O.Sink.faults; before = c.args.out.now; after = c.args.out.now } in
    pair-run c.args.options.now input out files around kids status.ReadFault c.one_reading.ensures.calls c.one_reading.ensures.not_both c.one_reading-2.ensures.ring c.one_reading-2.ensures.no_fault
    (unread-told c.args.options.now input out files around kids status.ReadFault (rw c.in-Err-ReadFault.field-0-is at c.in-Err-ReadFault.ensures.halts) refl refl) c.answer.ensures.asked

pub returns-in-Err-Memory : goal.returns-in-Err-Memory
returns-in-Err-Memory g c =
    let around = around_of g.N.Net.calls g.N.Net.room g.N.Net.faults g.C.Clock.given g.D.Draw.step c.args.net.now c.answer.new.net c.args.clock.now c.answer.new.clock c.args.draw.now c.answer.new.draw in
    let files = files_of g.F.KeyFiles.told g.F.KeyFiles.faults c.args.files.now c.answer.new.files in
    let kids = kids_of g.P.Spawner.calls g.P.Spawner.faults c.args.kids.now c.answer.new.kids in
    let input : Outside g.row.S.Denot = record { told = g.S.Source.left; faults = g.S.Source.faults; before = c.args.input.now; after = c.answer.new.input } in
    let out : Outside g.row.O.Denot = record { told = g.O.Sink.written; faults = g.O.Sink.faults; before = c.args.out.now; after = c.args.out.now } in
    pair-run c.args.options.now input out files around kids status.Memory c.one_reading.ensures.calls c.one_reading.ensures.not_both c.one_reading-2.ensures.ring c.one_reading-2.ensures.no_fault
    (inr (inr (inr (refl, refl)))) c.answer.ensures.asked
