use Rattle.std.proofs.Common.{refl}
use Rattle.std.proofs.lemmas.Result.{err_from_is_err_and}
use Rattle.cmd_call.specs.Owed.{around_of, begins, files_of}
use Rattle.statuses.specs.Outside.{Outside}
use Rattle.cmd_pair.specs.Servers.{kids_of}
use Rattle.cmd_pair.proofs.Checking.{halts-run}
use Rattle.cmd_pair.proofs.running.answer.Goals as goal

pub run-requires-clause-keys : goal.run-requires-clause-keys
run-requires-clause-keys g c = c.in_ok-client.ensures.taken.given.has

pub returns-in_err-client-clause-halts : goal.returns-in_err-client-clause-halts
returns-in_err-client-clause-halts g c =
    let around = around_of g.N.Net.calls g.N.Net.room g.N.Net.faults g.C.Clock.given g.D.Draw.step c.args.net.now c.args.net.now c.args.clock.now c.args.clock.now c.args.draw.now c.take.new.draw in
    let files = files_of g.F.KeyFiles.told g.F.KeyFiles.faults c.args.files.now c.take.new.files in
    let kids = kids_of g.P.Spawner.calls g.P.Spawner.faults c.args.kids.now c.args.kids.now in
    let input : Outside g.row.S.Denot = record { told = g.S.Source.left; faults = g.S.Source.faults; before = c.args.input.now; after = c.take.new.input } in
    let p = err_from_is_err_and c.from_residual.result c.from_residual.ensures.1 in
    rw (p.1, p.2)
    (halts-run c.args.options.now input files around kids (record { net = refl; clock = refl; kids_stay = refl }) c.in_err-client.field-0.0 c.in_err-client.ensures.halts)

pub returns-clause-owed : goal.returns-clause-owed
returns-clause-owed g c =
    let around = around_of g.N.Net.calls g.N.Net.room g.N.Net.faults g.C.Clock.given g.D.Draw.step c.args.net.now c.run.new.net c.args.clock.now c.run.new.clock c.args.draw.now c.run.new.draw in
    let taken = c.in_ok-client.ensures.taken in
    record {
      calls = taken.calls;
      ring = c.in_ok-client.ring;
      keys = taken.given.keys;
      ready = record { script = taken.script; file = taken.file; found = taken.given.found; taken = taken.given.taken };
      owed = c.in_ok-run.ensures (begins taken.given.keys taken.calls around) c.args.draw.now (record { phase = refl; client = taken.given.stands; draw = taken.given.drawn });
    }
