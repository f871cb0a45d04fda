use Rattle.std.proofs.Common.{refl}
use Rattle.std.proofs.lemmas.Result.{err_from_is_err_and}
use Rattle.cmd_call.specs.Owed.{files_of}
use Rattle.statuses.specs.Outside.{Outside}
use Rattle.cmd_pair.proofs.Checking.{at-calls, at-file, at-script, taken}
use Rattle.cmd_pair.proofs.checks.take.Goals as goal

pub returns-in_err-script-clause-halts : goal.returns-in_err-script-clause-halts
returns-in_err-script-clause-halts g c =
    let input : Outside g.row.S.Denot = record { told = g.S.Source.left; faults = g.S.Source.faults; before = c.args.input.now; after = c.script_of.new.input } in
    let files = files_of g.F.KeyFiles.told g.F.KeyFiles.faults c.args.files.now c.args.files.now in
    let p = err_from_is_err_and c.from_residual.result c.from_residual.ensures.1 in
    rw (p.1, p.2) (at-script c.args.options.now input files g.D.Draw.step c.args.draw.now c.args.draw.now refl refl c.in_err-script.field-0.0 c.in_err-script.ensures.halts)

pub returns-in_err-ring-clause-halts : goal.returns-in_err-ring-clause-halts
returns-in_err-ring-clause-halts g c =
    let input : Outside g.row.S.Denot = record { told = g.S.Source.left; faults = g.S.Source.faults; before = c.args.input.now; after = c.script_of.new.input } in
    let files = files_of g.F.KeyFiles.told g.F.KeyFiles.faults c.args.files.now c.ring_of.new.files in
    let p = err_from_is_err_and c.from_residual-in_err-ring.result c.from_residual-in_err-ring.ensures.1 in
    rw (p.1, p.2)
    (at-file c.args.options.now input files g.D.Draw.step c.args.draw.now c.args.draw.now c.in_ok-script.script c.in_ok-script.ensures.script c.ring_of.ensures.asked refl c.in_err-ring.field-0.0 c.in_err-ring.ensures.halts)

pub returns-in_err-client-clause-halts : goal.returns-in_err-client-clause-halts
returns-in_err-client-clause-halts g c =
    let input : Outside g.row.S.Denot = record { told = g.S.Source.left; faults = g.S.Source.faults; before = c.args.input.now; after = c.script_of.new.input } in
    let files = files_of g.F.KeyFiles.told g.F.KeyFiles.faults c.args.files.now c.ring_of.new.files in
    let p = err_from_is_err_and c.from_residual-in_err-client.result c.from_residual-in_err-client.ensures.1 in
    rw (p.1, p.2)
    (at-calls c.args.options.now input files g.D.Draw.step c.args.draw.now c.client_of.new.draw c.in_ok-script.script c.in_ok-script.ensures.script c.in_ok-ring.ring c.in_ok-ring.ensures.ring c.in_err-client.field-0.0 c.in_err-client.ensures.halts)

pub returns-clause-taken : goal.returns-clause-taken
returns-clause-taken g c =
    let input : Outside g.row.S.Denot = record { told = g.S.Source.left; faults = g.S.Source.faults; before = c.args.input.now; after = c.script_of.new.input } in
    let files = files_of g.F.KeyFiles.told g.F.KeyFiles.faults c.args.files.now c.ring_of.new.files in
    taken c.args.options.now input files g.D.Draw.step c.args.draw.now c.client_of.new.draw c.in_ok-script.script c.in_ok-script.ensures.script c.in_ok-ring.ring c.in_ok-ring.ensures.ring c.in_ok-client.client c.in_ok-client.ensures.given
