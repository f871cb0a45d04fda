use Rattle.std.proofs.Common.{inl, inr, refl}
use Rattle.cmd_call.specs.Inner.{keys_of}
use Rattle.cmd_call.specs.Keys.{client_under}
use Rattle.cmd_call.specs.Owed.{around_of, begins}
use Rattle.draws.specs.Draws.{word_after}
use Rattle.sim_text.specs.Faults.{fault_of}
use Rattle.cmd_call.proofs.BatchLemmas.{idle_net}
use Rattle.cmd_call.proofs.Steps.{if_err, leaves_batch, owes_batch, owes_refusal, same_net}
use Rattle.cmd_call.proofs.checking.answer_under.Goals as goal

pub returns-in_err-client-clause-connects : goal.returns-in_err-client-clause-connects
returns-in_err-client-clause-connects g c =
    let around = around_of g.N.Net.calls g.N.Net.room g.N.Net.faults g.C.Clock.given g.D.Draw.step c.args.net.now c.args.net.now c.args.clock.now c.args.clock.now c.args.draw.now c.opening.new.draw in
    idle_net c.args.options.now around refl

pub returns-in-Ok-clause-owed : goal.returns-in-Ok-clause-owed
returns-in-Ok-clause-owed g c =
    let around = around_of g.N.Net.calls g.N.Net.room g.N.Net.faults g.C.Clock.given g.D.Draw.step c.args.net.now c.run.new.net c.args.clock.now c.run.new.clock c.args.draw.now c.run.new.draw in
    let keys = keys_of c.args.keys in
    let first = client_under keys (word_after g.D.Draw.step 0 c.args.draw.now) in
    owes_batch c.args.options.now c.args.script around c.run.result c.args.ring keys c.opening.new.draw (c.in-Ok.ensures.told first c.in_ok-client.ensures.stands refl)
    (c.run.ensures.ran (begins keys c.args.script around) (record { phase = refl; client = c.in-Ok.ensures.stands first c.in_ok-client.ensures.stands; draw = c.in_ok-client.ensures.after }))

pub returns-in-Ok-clause-connects : goal.returns-in-Ok-clause-connects
returns-in-Ok-clause-connects g c =
    let around = around_of g.N.Net.calls g.N.Net.room g.N.Net.faults g.C.Clock.given g.D.Draw.step c.args.net.now c.run.new.net c.args.clock.now c.run.new.clock c.args.draw.now c.run.new.draw in
    same_net c.args.options.now around c.opening.new.draw c.run.ensures.connects

pub returns-in-Err-clause-owed : goal.returns-in-Err-clause-owed
returns-in-Err-clause-owed g c =
    let around = around_of g.N.Net.calls g.N.Net.room g.N.Net.faults g.C.Clock.given g.D.Draw.step c.args.net.now c.args.net.now c.args.clock.now c.args.clock.now c.args.draw.now c.opening.new.draw in
    let keys = keys_of c.args.keys in
    let first = client_under keys (word_after g.D.Draw.step 0 c.args.draw.now) in
    owes_refusal c.args.options.now c.args.script around c.refused_call.result c.args.ring keys c.in-Err.untaken.line (fault_of c.in-Err.untaken.fault) (record { net = refl; clock = refl }) c.in_ok-client.ensures.after
    (c.in-Err.ensures.told first c.in_ok-client.ensures.stands refl) c.refused_call.ensures

pub returns-in-Err-clause-connects : goal.returns-in-Err-clause-connects
returns-in-Err-clause-connects g c =
    let around = around_of g.N.Net.calls g.N.Net.room g.N.Net.faults g.C.Clock.given g.D.Draw.step c.args.net.now c.args.net.now c.args.clock.now c.args.clock.now c.args.draw.now c.opening.new.draw in
    idle_net c.args.options.now around refl

pub returns-in_err-client-clause-left : goal.returns-in_err-client-clause-left
returns-in_err-client-clause-left g c =
    if_err c.from_residual.result _ (inl (record { offline = record { net = refl; clock = refl }; drawn = inl c.in_err-client.ensures.unchanged_on_memory }))

pub returns-in-Ok-clause-left : goal.returns-in-Ok-clause-left
returns-in-Ok-clause-left g c =
    let around = around_of g.N.Net.calls g.N.Net.room g.N.Net.faults g.C.Clock.given g.D.Draw.step c.args.net.now c.run.new.net c.args.clock.now c.run.new.clock c.args.draw.now c.run.new.draw in
    let keys = keys_of c.args.keys in
    let first = client_under keys (word_after g.D.Draw.step 0 c.args.draw.now) in
    leaves_batch c.args.options.now c.args.script around c.run.result c.args.ring keys c.opening.new.draw (c.in-Ok.ensures.told first c.in_ok-client.ensures.stands refl)
    (c.run.ensures.left (begins keys c.args.script around) (record { phase = refl; client = c.in-Ok.ensures.stands first c.in_ok-client.ensures.stands; draw = c.in_ok-client.ensures.after }))

pub returns-in-Err-clause-left : goal.returns-in-Err-clause-left
returns-in-Err-clause-left g c =
    if_err c.refused_call.result _ (inl (record { offline = record { net = refl; clock = refl }; drawn = inr c.in_ok-client.ensures.after }))
