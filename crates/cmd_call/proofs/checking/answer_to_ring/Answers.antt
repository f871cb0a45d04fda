use Rattle.std.proofs.Common.{inl, refl, sym}
use Rattle.cmd_call.specs.Inner.{keys_of}
use Rattle.cmd_call.specs.Owed.{around_of}
use Rattle.cmd_call.proofs.BatchLemmas.{idle_net}
use Rattle.cmd_call.proofs.KeyLemmas.{keys_are_there}
use Rattle.cmd_call.proofs.Steps.{before_idle, if_err, leaves_keys, owes_keys, owes_no_key}
use Rattle.cmd_call.proofs.checking.answer_to_ring.Goals as goal

pub answer_under-requires-clause-keys : goal.answer_under-requires-clause-keys
answer_under-requires-clause-keys g c =
    keys_are_there c.args.ring c.args.options.now.key c.args.options.now.perm (keys_of c.in-Some.keys) (sym c.in-Some.ensures.keys)

pub returns-in-Some-clause-owed : goal.returns-in-Some-clause-owed
returns-in-Some-clause-owed g c =
    let around = around_of g.N.Net.calls g.N.Net.room g.N.Net.faults g.C.Clock.given g.D.Draw.step c.args.net.now c.answer_under.new.net c.args.clock.now c.answer_under.new.clock c.args.draw.now c.answer_under.new.draw in
    owes_keys c.args.options.now c.args.script around c.answer_under.result c.args.ring c.in-Some.keys c.in-Some.ensures.keys c.answer_under.ensures.owed

pub returns-in-None-clause-owed : goal.returns-in-None-clause-owed
returns-in-None-clause-owed g c =
    let around = around_of g.N.Net.calls g.N.Net.room g.N.Net.faults g.C.Clock.given g.D.Draw.step c.args.net.now c.args.net.now c.args.clock.now c.args.clock.now c.args.draw.now c.args.draw.now in
    owes_no_key c.args.options.now c.args.script around c.no_such_key.result c.args.ring c.in-None.ensures.keys (record { offline = record { net = refl; clock = refl }; draw = refl }) c.no_such_key.ensures.status c.no_such_key.ensures.text

pub returns-in-None-clause-connects : goal.returns-in-None-clause-connects
returns-in-None-clause-connects g c =
    let around = around_of g.N.Net.calls g.N.Net.room g.N.Net.faults g.C.Clock.given g.D.Draw.step c.args.net.now c.args.net.now c.args.clock.now c.args.clock.now c.args.draw.now c.args.draw.now in
    idle_net c.args.options.now around refl

pub returns-in-Some-clause-left : goal.returns-in-Some-clause-left
returns-in-Some-clause-left g c =
    let around = around_of g.N.Net.calls g.N.Net.room g.N.Net.faults g.C.Clock.given g.D.Draw.step c.args.net.now c.answer_under.new.net c.args.clock.now c.answer_under.new.clock c.args.draw.now c.answer_under.new.draw in
    leaves_keys c.args.options.now c.args.script around c.answer_under.result c.args.ring c.in-Some.keys c.in-Some.ensures.keys c.answer_under.ensures.left

pub returns-in-None-clause-left : goal.returns-in-None-clause-left
returns-in-None-clause-left g c =
    let around = around_of g.N.Net.calls g.N.Net.room g.N.Net.faults g.C.Clock.given g.D.Draw.step c.args.net.now c.args.net.now c.args.clock.now c.args.clock.now c.args.draw.now c.args.draw.now in
    if_err c.no_such_key.result _ (inl (before_idle around (record { offline = record { net = refl; clock = refl }; draw = refl })))
