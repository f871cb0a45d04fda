use Rattle.cmd_call.specs.Owed.{around_of}
use Rattle.cmd_call.proofs.BatchLemmas.{left_from, ran_from, reads_ring, traced, uses_net}
use Rattle.cmd_call.proofs.batching.run.Goals as goal

pub returns-clause-ran : goal.returns-clause-ran
returns-clause-ran g c course stands =
    let around = around_of g.N.Net.calls g.N.Net.room g.N.Net.faults g.C.Clock.given g.D.Draw.step c.args.net.now c.run_batch-holder.new.net c.args.clock.now c.run_batch-holder.new.clock c.args.draw.now c.run_batch-holder.new.draw in
    let end = c.run_batch-holder.result.1 in
    let kept = c.run_batch-holder.result.0 in
    let trace = traced c.args.options.now c.args.ring c.new-seal.result course around end kept c.new-seal.ensures (reads_ring c.packets_open_as_worked_out.ensures.of_the_protocol c.args.ring) (λ reading reads. c.run_batch-holder.ensures.trace course reading reads stands) in
    ran_from c.args.options.now c.args.ring course around end kept trace c.run_batch-holder.ensures.decided
    (λ all. let none = c.run_batch-holder.ensures.nothing_to_decide course.client stands.client all in (record { net = none.2; clock = none.3 }, none.1))
    c.batch_answer-answer.result c.batch_answer-answer.ensures

pub returns-clause-left : goal.returns-clause-left
returns-clause-left g c course stands =
    let around = around_of g.N.Net.calls g.N.Net.room g.N.Net.faults g.C.Clock.given g.D.Draw.step c.args.net.now c.run_batch-holder.new.net c.args.clock.now c.run_batch-holder.new.clock c.args.draw.now c.run_batch-holder.new.draw in
    let end = c.run_batch-holder.result.1 in
    let kept = c.run_batch-holder.result.0 in
    let trace = traced c.args.options.now c.args.ring c.new-seal.result course around end kept c.new-seal.ensures (reads_ring c.packets_open_as_worked_out.ensures.of_the_protocol c.args.ring) (λ reading reads. c.run_batch-holder.ensures.trace course reading reads stands) in
    left_from c.args.options.now c.args.ring course around end kept trace c.batch_answer-answer.result

pub returns-clause-connects : goal.returns-clause-connects
returns-clause-connects g c =
    let around = around_of g.N.Net.calls g.N.Net.room g.N.Net.faults g.C.Clock.given g.D.Draw.step c.args.net.now c.run_batch-holder.new.net c.args.clock.now c.run_batch-holder.new.clock c.args.draw.now c.run_batch-holder.new.draw in
    uses_net c.args.options.now around c.run_batch-holder.result.1 c.run_batch-holder.ensures.uses c.run_batch-holder.ensures.goes_on c.run_batch-holder.ensures.still_tells c.run_batch-holder.ensures.faults
