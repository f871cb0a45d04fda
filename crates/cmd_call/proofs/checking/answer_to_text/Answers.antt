use Rattle.std.proofs.Common.{inl, refl, subst}
use Rattle.cmd_call.specs.Owed.{around_of, files_of}
use Rattle.call_script.specs.Scripts.{IsFaultOf}
use Rattle.call_script.specs.declared.script.ScriptFault.{ScriptFault}
use Rattle.cmd_call.proofs.BatchLemmas.{idle_net}
use Rattle.cmd_call.proofs.Steps.{before_idle, if_err, leaves_script, owes_bad_line, owes_script}
use Rattle.cmd_call.proofs.checking.answer_to_text.Goals as goal

pub returns-in-Ok-clause-owed : goal.returns-in-Ok-clause-owed
returns-in-Ok-clause-owed g c =
    let around = around_of g.N.Net.calls g.N.Net.room g.N.Net.faults g.C.Clock.given g.D.Draw.step c.args.net.now c.answer_to_script.new.net c.args.clock.now c.answer_to_script.new.clock c.args.draw.now c.answer_to_script.new.draw in
    let files = files_of g.F.KeyFiles.told g.F.KeyFiles.faults c.args.files.now c.answer_to_script.new.files in
    owes_script c.args.options.now c.in-Ok.script around c.answer_to_script.result files c.args.text c.in-Ok.ensures.calls c.answer_to_script.ensures.owed

pub returns-in-Err-BadLine-clause-owed : goal.returns-in-Err-BadLine-clause-owed
returns-in-Err-BadLine-clause-owed g c =
    let around = around_of g.N.Net.calls g.N.Net.room g.N.Net.faults g.C.Clock.given g.D.Draw.step c.args.net.now c.args.net.now c.args.clock.now c.args.clock.now c.args.draw.now c.args.draw.now in
    let files = files_of g.F.KeyFiles.told g.F.KeyFiles.faults c.args.files.now c.args.files.now in
    owes_bad_line c.args.options.now files around c.bad_line.result c.args.text c.in-Err-BadLine.line (subst (λ (fault : ScriptFault). IsFaultOf c.args.text fault) c.in-Err-BadLine.field-0-is c.in-Err-BadLine.ensures.bad_line) refl (record { offline = record { net = refl; clock = refl }; draw = refl }) c.bad_line.ensures.status c.bad_line.ensures.text

pub returns-in-Err-BadLine-clause-connects : goal.returns-in-Err-BadLine-clause-connects
returns-in-Err-BadLine-clause-connects g c =
    let around = around_of g.N.Net.calls g.N.Net.room g.N.Net.faults g.C.Clock.given g.D.Draw.step c.args.net.now c.args.net.now c.args.clock.now c.args.clock.now c.args.draw.now c.args.draw.now in
    idle_net c.args.options.now around refl

pub returns-in-Err-Memory-clause-connects : goal.returns-in-Err-Memory-clause-connects
returns-in-Err-Memory-clause-connects g c =
    let around = around_of g.N.Net.calls g.N.Net.room g.N.Net.faults g.C.Clock.given g.D.Draw.step c.args.net.now c.args.net.now c.args.clock.now c.args.clock.now c.args.draw.now c.args.draw.now in
    idle_net c.args.options.now around refl

pub returns-in-Ok-clause-left : goal.returns-in-Ok-clause-left
returns-in-Ok-clause-left g c =
    let around = around_of g.N.Net.calls g.N.Net.room g.N.Net.faults g.C.Clock.given g.D.Draw.step c.args.net.now c.answer_to_script.new.net c.args.clock.now c.answer_to_script.new.clock c.args.draw.now c.answer_to_script.new.draw in
    let files = files_of g.F.KeyFiles.told g.F.KeyFiles.faults c.args.files.now c.answer_to_script.new.files in
    leaves_script c.args.options.now c.in-Ok.script around c.answer_to_script.result files c.args.text c.in-Ok.ensures.calls c.answer_to_script.ensures.left

pub returns-in-Err-BadLine-clause-left : goal.returns-in-Err-BadLine-clause-left
returns-in-Err-BadLine-clause-left g c =
    let around = around_of g.N.Net.calls g.N.Net.room g.N.Net.faults g.C.Clock.given g.D.Draw.step c.args.net.now c.args.net.now c.args.clock.now c.args.clock.now c.args.draw.now c.args.draw.now in
    if_err c.bad_line.result _ (inl (before_idle around (record { offline = record { net = refl; clock = refl }; draw = refl })))

pub returns-in-Err-Memory-clause-left : goal.returns-in-Err-Memory-clause-left
returns-in-Err-Memory-clause-left g c =
    let around = around_of g.N.Net.calls g.N.Net.room g.N.Net.faults g.C.Clock.given g.D.Draw.step c.args.net.now c.args.net.now c.args.clock.now c.args.clock.now c.args.draw.now c.args.draw.now in
    inl (before_idle around (record { offline = record { net = refl; clock = refl }; draw = refl }))
