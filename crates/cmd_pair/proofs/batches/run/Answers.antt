use Rattle.std.proofs.Common.{Err, Ok}
use Rattle.cmd_call.specs.Owed.{around_of}
use Rattle.cmd_pair.specs.Servers.{kids_of}
use Rattle.cmd_pair.specs.declared.halt.KidFault.TheVariants.{Failed}
use Rattle.cmd_pair.proofs.Owing.{answers, child-fault, pair-as}
use Rattle.cmd_pair.proofs.batches.run.Goals as goal

pub over_both-requires-clause-keys : goal.over_both-requires-clause-keys
over_both-requires-clause-keys g c = rw c.new-seal.ensures c.requires.keys

pub returns-in-Ok : goal.returns-in-Ok
returns-in-Ok g c course drawn stands =
    let around = around_of g.N.Net.calls g.N.Net.room g.N.Net.faults g.C.Clock.given g.D.Draw.step c.args.net.now c.over_both.new.net c.args.clock.now c.over_both.new.clock drawn c.over_both.new.draw in
    let kids = kids_of g.P.Spawner.calls g.P.Spawner.faults c.args.kids.now c.over_both.new.kids in
    let pair = pair-as c.args.options.now c.new-seal.result c.args.ring course around kids (Ok (c.in-Ok.client, c.in-Ok.end)) c.new-seal.ensures (c.in-Ok.ensures.ran course drawn stands) in
    answers c.statuses_have_causes.ensures c.args.options.now c.args.ring course around kids c.in-Ok.client c.in-Ok.end c.in-Ok.ensures.decided c.batch_answer-answer.result pair c.batch_answer-answer.ensures

pub returns-in-Err-Failed : goal.returns-in-Err-Failed
returns-in-Err-Failed g c course drawn stands =
    let around = around_of g.N.Net.calls g.N.Net.room g.N.Net.faults g.C.Clock.given g.D.Draw.step c.args.net.now c.over_both.new.net c.args.clock.now c.over_both.new.clock drawn c.over_both.new.draw in
    let kids = kids_of g.P.Spawner.calls g.P.Spawner.faults c.args.kids.now c.over_both.new.kids in
    let pair = pair-as c.args.options.now c.new-seal.result c.args.ring course around kids (Err Failed) c.new-seal.ensures (rw c.in-Err-Failed.field-0-is at (c.in-Err-Failed.ensures.ran course drawn stands)) in
    child-fault c.args.options.now c.args.ring course around kids c.new.result pair c.new.ensures.status c.new.ensures.text
