use Rattle.std.proofs.Common.{Err, ◌∙◌, ap, inl, inr, refl}
use Rattle.cmd_call.specs.Owed.{around_of, files_of}
use Rattle.statuses.specs.declared.answer.Stop.{Stop}
use Rattle.statuses.specs.Outside.{Outside}
use Rattle.statuses.specs.declared.status.Status.TheVariants as status
use Rattle.cmd_call.proofs.Ends.{told_run, untold_run}
use Rattle.cmd_call.proofs.running.run_call.Goals as goal

pub returns-in-Ok : goal.returns-in-Ok
returns-in-Ok g c =
    let around = around_of g.N.Net.calls g.N.Net.room g.N.Net.faults g.C.Clock.given g.D.Draw.step c.args.net.now c.answer.new.net c.args.clock.now c.answer.new.clock c.args.draw.now c.answer.new.draw in
    let files = files_of g.F.KeyFiles.told g.F.KeyFiles.faults c.args.files.now c.answer.new.files in
    let input : Outside g.row.S.Denot = record { told = g.S.Source.left; faults = g.S.Source.faults; before = c.args.input.now; after = c.answer.new.input } in
    let out : Outside g.row.O.Denot = record { told = g.O.Sink.written; faults = g.O.Sink.faults; before = c.args.out.now; after = c.tell.new.out } in
    told_run c.args.options.now input out files around c.one_reading.ensures.calls c.one_reading.ensures.not_both c.one_reading-2.ensures.ring c.one_reading-2.ensures.no_fault
    c.in-Ok.answer.status c.tell.result c.in-Ok.answer.text c.tell.ensures c.in-Ok.ensures.owed c.answer.ensures.asked c.answer.ensures.connects

pub returns-in-Err-ReadFault : goal.returns-in-Err-ReadFault
returns-in-Err-ReadFault g c =
    let around = around_of g.N.Net.calls g.N.Net.room g.N.Net.faults g.C.Clock.given g.D.Draw.step c.args.net.now c.answer.new.net c.args.clock.now c.answer.new.clock c.args.draw.now c.answer.new.draw in
    let files = files_of g.F.KeyFiles.told g.F.KeyFiles.faults c.args.files.now c.answer.new.files in
    let input : Outside g.row.S.Denot = record { told = g.S.Source.left; faults = g.S.Source.faults; before = c.args.input.now; after = c.answer.new.input } in
    let out : Outside g.row.O.Denot = record { told = g.O.Sink.written; faults = g.O.Sink.faults; before = c.args.out.now; after = c.args.out.now } in
    untold_run c.args.options.now input out files around status.ReadFault (inl refl) refl c.answer.ensures.asked c.answer.ensures.connects
    (λ e. let is = c.in-Err-ReadFault.is ∙ ap (λ (stop : Stop). Err stop) c.in-Err-ReadFault.field-0-is in (c.answer.ensures.read_fault is, c.answer.ensures.unasked is, c.answer.ensures.idle is))
    (λ e. absurd cc)

pub returns-in-Err-Memory : goal.returns-in-Err-Memory
returns-in-Err-Memory g c =
    let around = around_of g.N.Net.calls g.N.Net.room g.N.Net.faults g.C.Clock.given g.D.Draw.step c.args.net.now c.answer.new.net c.args.clock.now c.answer.new.clock c.args.draw.now c.answer.new.draw in
    let files = files_of g.F.KeyFiles.told g.F.KeyFiles.faults c.args.files.now c.answer.new.files in
    let input : Outside g.row.S.Denot = record { told = g.S.Source.left; faults = g.S.Source.faults; before = c.args.input.now; after = c.answer.new.input } in
    let out : Outside g.row.O.Denot = record { told = g.O.Sink.written; faults = g.O.Sink.faults; before = c.args.out.now; after = c.args.out.now } in
    untold_run c.args.options.now input out files around status.Memory (inr refl) refl c.answer.ensures.asked c.answer.ensures.connects (λ e. absurd cc)
    (λ e. c.answer.ensures.left (c.in-Err-Memory.is ∙ ap (λ (stop : Stop). Err stop) c.in-Err-Memory.field-0-is))
