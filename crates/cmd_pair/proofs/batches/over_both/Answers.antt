use Rattle.std.proofs.Common.{◌+◌, ap, Err, List, ℕ, None, Ok, Some}
use Rattle.std.proofs.lemmas.Result.{err_from_is_err_and}
use Rattle.client_core.specs.declared.holder.Holder.{Holder}
use Rattle.client_node.specs.declared.plan.Batch.{Batch}
use Rattle.client_node.specs.Trace.{after_all}
use Rattle.cmd_call.specs.Owed.{around_of}
use Rattle.cmd_pair.specs.Batches.{plan_at, rules_for}
use Rattle.cmd_pair.specs.Servers.{first_words, kids_of, second_words, server_words}
use Rattle.cmd_pair.proofs.Owing.{ends-first, lost-by, second-by, stops-first}
use Rattle.cmd_pair.proofs.Spawning.{serves-as}
use Rattle.cmd_pair.proofs.batches.over_both.Goals as goal

pub returns-in_err-client-clause-ran : goal.returns-in_err-client-clause-ran
returns-in_err-client-clause-ran g c course drawn stands =
    let around = around_of g.N.Net.calls g.N.Net.room g.N.Net.faults g.C.Clock.given g.D.Draw.step c.args.net.now c.over_server.new.net c.args.clock.now c.over_server.new.clock drawn c.over_server.new.draw in
    let kids = kids_of g.P.Spawner.calls g.P.Spawner.faults c.args.kids.now c.over_server.new.kids in
    let same = ap (λ (keys : List ℕ). server_words keys c.args.options.now.port (Some c.args.options.now.stop_after)) c.as_str.ensures in
    let p = err_from_is_err_and c.from_residual.result c.from_residual.ensures.1 in
    rw (p.1, p.2)
    (stops-first c.args.options.now c.args.seal.now course around g.P.Spawner.calls g.P.Spawner.faults c.args.kids.now c.over_server.new.kids c.in_err-client.field-0.0
    (serves-as {X = Holder × Batch} (server_words c.as_str.result.now c.args.options.now.port (Some c.args.options.now.stop_after)) (first_words c.args.options.now) (Err c.in_err-client.field-0.0) kids same c.in_err-client.ensures.spawns))

pub returns-then-not-is_lost-clause-ran : goal.returns-then-not-is_lost-clause-ran
returns-then-not-is_lost-clause-ran g c course drawn stands =
    let around = around_of g.N.Net.calls g.N.Net.room g.N.Net.faults g.C.Clock.given g.D.Draw.step c.args.net.now c.over_server.new.net c.args.clock.now c.over_server.new.clock drawn c.over_server.new.draw in
    let kids = kids_of g.P.Spawner.calls g.P.Spawner.faults c.args.kids.now c.over_server.new.kids in
    let done : Holder × Batch = (c.in_ok-client.client, c.in_ok-client.end) in
    let same = ap (λ (keys : List ℕ). server_words keys c.args.options.now.port (Some c.args.options.now.stop_after)) c.as_str.ensures in
    ends-first c.args.options.now c.args.seal.now course around g.P.Spawner.calls g.P.Spawner.faults c.args.kids.now c.over_server.new.kids done.0 done.1
    (c.in_ok-client.ensures.ran course drawn stands) (λ is. let yes = c.is_lost.ensures.1 is in let no = c.if-not-is_lost.true in absurd cc)
    (serves-as (server_words c.as_str.result.now c.args.options.now.port (Some c.args.options.now.stop_after)) (first_words c.args.options.now) (Ok done) kids same c.in_ok-client.ensures.spawns)

pub returns-clause-ran : goal.returns-clause-ran
returns-clause-ran g c course drawn stands =
    let around = around_of g.N.Net.calls g.N.Net.room g.N.Net.faults g.C.Clock.given g.D.Draw.step c.args.net.now c.over_server-2.new.net c.args.clock.now c.over_server-2.new.clock drawn c.over_server-2.new.draw in
    let kids = kids_of g.P.Spawner.calls g.P.Spawner.faults c.args.kids.now c.over_server.new.kids in
    let later = kids_of g.P.Spawner.calls g.P.Spawner.faults c.over_server.new.kids c.over_server-2.new.kids in
    let done : Holder × Batch = (c.in_ok-client.client, c.in_ok-client.end) in
    let same = ap (λ (keys : List ℕ). server_words keys c.args.options.now.port (Some c.args.options.now.stop_after)) c.as_str.ensures in
    let same-2 = ap (λ (keys : List ℕ). server_words keys (c.args.options.now.port + 1) None) c.as_str-2.ensures in
    let lost = lost-by c.args.options.now c.args.seal.now course around c.over_server.new.net c.over_server.new.clock c.over_server.new.draw done.1 done.0 (c.is_lost.ensures.0 c.if-not-is_lost.false) (c.in_ok-client.ensures.ran course drawn stands) in
    let served = serves-as (server_words c.as_str.result.now c.args.options.now.port (Some c.args.options.now.stop_after)) (first_words c.args.options.now) (Ok done) kids same c.in_ok-client.ensures.spawns in
    second-by c.args.options.now c.args.seal.now course around g.P.Spawner.calls g.P.Spawner.faults c.args.kids.now c.over_server-2.new.kids c.over_server.new.kids lost served.0 served.1 c.over_server-2.result
    (serves-as (server_words c.as_str-2.result.now (c.args.options.now.port + 1) None) (second_words c.args.options.now) c.over_server-2.result later same-2 c.over_server-2.ensures.spawns)
    (c.over_server-2.ensures.ran (after_all (rules_for g.D.Draw.step c.args.seal.now) (plan_at c.args.options.now.port) course lost.trace.attempts) c.over_server.new.draw lost.trace.stands)
