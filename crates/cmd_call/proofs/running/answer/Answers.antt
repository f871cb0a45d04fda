use Rattle.std.proofs.Common.{Err, ◌∙◌, ap, inl, inr, refl}
use Rattle.mt_edge.specs.declared.whole.ReadFault.{ReadFault}
use Rattle.cmd_call.specs.Owed.{IsRead, around_of, files_of}
use Rattle.statuses.specs.Outside.{Outside}
use Rattle.cmd_call.proofs.BatchLemmas.{idle_net}
use Rattle.cmd_call.proofs.Steps.{before_idle, leaves_text}
use Rattle.cmd_call.proofs.running.answer.Goals as goal

pub returns-in_ok-answer_to_text-in-Ok-clause-owed : goal.returns-in_ok-answer_to_text-in-Ok-clause-owed
returns-in_ok-answer_to_text-in-Ok-clause-owed g c =
    let input : Outside g.row.S.Denot = record { told = g.S.Source.left; faults = g.S.Source.faults; before = c.args.input.now; after = c.read_all.new.source } in
    let read : IsRead input c.in-Ok.text = record { whole = c.in-Ok.ensures.whole; to_the_end = record { bytes = c.in-Ok.ensures.to_the_end; no_fault = c.in-Ok.ensures.no_fault }; short = c.in-Ok.ensures.short } in
    inr (c.in-Ok.text, read, c.in_ok-answer_to_text-in-Ok.ensures.owed)

pub returns-in_ok-too_long-in-Err-TooLong-clause-owed : goal.returns-in_ok-too_long-in-Err-TooLong-clause-owed
returns-in_ok-too_long-in-Err-TooLong-clause-owed g c =
    inl (record { long = c.read_all.ensures.too_long (c.in-Err-TooLong.is ∙ ap (λ (fault : ReadFault). Err fault) c.in-Err-TooLong.field-0-is); unasked = refl; idle = record { offline = record { net = refl; clock = refl }; draw = refl }; said = c.in_ok-too_long-in-Err-TooLong.ensures.status; told = c.in_ok-too_long-in-Err-TooLong.ensures.text })

pub returns-in-Err-Failed-clause-connects : goal.returns-in-Err-Failed-clause-connects
returns-in-Err-Failed-clause-connects g c =
    let around = around_of g.N.Net.calls g.N.Net.room g.N.Net.faults g.C.Clock.given g.D.Draw.step c.args.net.now c.args.net.now c.args.clock.now c.args.clock.now c.args.draw.now c.args.draw.now in
    idle_net c.args.options.now around refl

pub returns-in_ok-too_long-in-Err-TooLong-clause-connects : goal.returns-in_ok-too_long-in-Err-TooLong-clause-connects
returns-in_ok-too_long-in-Err-TooLong-clause-connects g c =
    let around = around_of g.N.Net.calls g.N.Net.room g.N.Net.faults g.C.Clock.given g.D.Draw.step c.args.net.now c.args.net.now c.args.clock.now c.args.clock.now c.args.draw.now c.args.draw.now in
    idle_net c.args.options.now around refl

pub returns-in_err-too_long-in-Err-TooLong-clause-connects : goal.returns-in_err-too_long-in-Err-TooLong-clause-connects
returns-in_err-too_long-in-Err-TooLong-clause-connects g c =
    let around = around_of g.N.Net.calls g.N.Net.room g.N.Net.faults g.C.Clock.given g.D.Draw.step c.args.net.now c.args.net.now c.args.clock.now c.args.clock.now c.args.draw.now c.args.draw.now in
    idle_net c.args.options.now around refl

pub returns-in-Err-Memory-clause-connects : goal.returns-in-Err-Memory-clause-connects
returns-in-Err-Memory-clause-connects g c =
    let around = around_of g.N.Net.calls g.N.Net.room g.N.Net.faults g.C.Clock.given g.D.Draw.step c.args.net.now c.args.net.now c.args.clock.now c.args.clock.now c.args.draw.now c.args.draw.now in
    idle_net c.args.options.now around refl

pub returns-in_err-answer_to_text-in-Ok-clause-left : goal.returns-in_err-answer_to_text-in-Ok-clause-left
returns-in_err-answer_to_text-in-Ok-clause-left g c =
    let around = around_of g.N.Net.calls g.N.Net.room g.N.Net.faults g.C.Clock.given g.D.Draw.step c.args.net.now c.answer_to_text.new.net c.args.clock.now c.answer_to_text.new.clock c.args.draw.now c.answer_to_text.new.draw in
    let files = files_of g.F.KeyFiles.told g.F.KeyFiles.faults c.args.files.now c.answer_to_text.new.files in
    let input : Outside g.row.S.Denot = record { told = g.S.Source.left; faults = g.S.Source.faults; before = c.args.input.now; after = c.read_all.new.source } in
    let read : IsRead input c.in-Ok.text = record { whole = c.in-Ok.ensures.whole; to_the_end = record { bytes = c.in-Ok.ensures.to_the_end; no_fault = c.in-Ok.ensures.no_fault }; short = c.in-Ok.ensures.short } in
    λ is. leaves_text c.args.options.now input files around c.in-Ok.text read c.in_err-answer_to_text-in-Ok.ensures.left

pub returns-in_err-too_long-in-Err-TooLong-clause-left : goal.returns-in_err-too_long-in-Err-TooLong-clause-left
returns-in_err-too_long-in-Err-TooLong-clause-left g c =
    let around = around_of g.N.Net.calls g.N.Net.room g.N.Net.faults g.C.Clock.given g.D.Draw.step c.args.net.now c.args.net.now c.args.clock.now c.args.clock.now c.args.draw.now c.args.draw.now in
    λ is. inl (before_idle around (record { offline = record { net = refl; clock = refl }; draw = refl }))

pub returns-in-Err-Memory-clause-left : goal.returns-in-Err-Memory-clause-left
returns-in-Err-Memory-clause-left g c =
    let around = around_of g.N.Net.calls g.N.Net.room g.N.Net.faults g.C.Clock.given g.D.Draw.step c.args.net.now c.args.net.now c.args.clock.now c.args.clock.now c.args.draw.now c.args.draw.now in
    λ is. inl (before_idle around (record { offline = record { net = refl; clock = refl }; draw = refl }))
