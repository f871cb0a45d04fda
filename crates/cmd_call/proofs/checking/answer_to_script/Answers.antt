use Rattle.std.proofs.Common.{inl, refl}
use Rattle.cmd_call.specs.Owed.{around_of, files_of}
use Rattle.cmd_call.proofs.BatchLemmas.{idle_net}
use Rattle.cmd_call.proofs.Steps.{asked_by, before_idle, gave_by, if_err, leaves_ring, owes_bad_file, owes_no_file, owes_ring, rises}
use Rattle.cmd_call.proofs.checking.answer_to_script.Goals as goal

pub returns-in-Ok-clause-owed : goal.returns-in-Ok-clause-owed
returns-in-Ok-clause-owed g c =
    let around = around_of g.N.Net.calls g.N.Net.room g.N.Net.faults g.C.Clock.given g.D.Draw.step c.args.net.now c.answer_to_ring.new.net c.args.clock.now c.answer_to_ring.new.clock c.args.draw.now c.answer_to_ring.new.draw in
    let files = files_of g.F.KeyFiles.told g.F.KeyFiles.faults c.args.files.now c.read_ring.new.files in
    let given = c.in-Ok.ensures.gives in
    owes_ring c.args.options.now c.args.script around c.answer_to_ring.result files c.in-Ok.ring given.0
    (gave_by c.as_str.result.now c.args.options.now.keys files given.0 c.as_str.ensures c.read_ring.ensures.asked given.1 c.in-Ok.ensures.counted) given.2 c.answer_to_ring.ensures.owed

pub returns-in-Ok-clause-left : goal.returns-in-Ok-clause-left
returns-in-Ok-clause-left g c =
    let around = around_of g.N.Net.calls g.N.Net.room g.N.Net.faults g.C.Clock.given g.D.Draw.step c.args.net.now c.answer_to_ring.new.net c.args.clock.now c.answer_to_ring.new.clock c.args.draw.now c.answer_to_ring.new.draw in
    let files = files_of g.F.KeyFiles.told g.F.KeyFiles.faults c.args.files.now c.read_ring.new.files in
    let given = c.in-Ok.ensures.gives in
    leaves_ring c.args.options.now c.args.script around c.answer_to_ring.result files c.in-Ok.ring given.0
    (gave_by c.as_str.result.now c.args.options.now.keys files given.0 c.as_str.ensures c.read_ring.ensures.asked given.1 c.in-Ok.ensures.counted) given.2 c.answer_to_ring.ensures.left

pub returns-in-Ok-clause-asked : goal.returns-in-Ok-clause-asked
returns-in-Ok-clause-asked g c =
    let files = files_of g.F.KeyFiles.told g.F.KeyFiles.faults c.args.files.now c.read_ring.new.files in
    asked_by c.as_str.result.now c.args.options.now.keys files c.as_str.ensures c.read_ring.ensures.asked

pub returns-in-Err-Unread-clause-asked : goal.returns-in-Err-Unread-clause-asked
returns-in-Err-Unread-clause-asked g c =
    let files = files_of g.F.KeyFiles.told g.F.KeyFiles.faults c.args.files.now c.read_ring.new.files in
    asked_by c.as_str.result.now c.args.options.now.keys files c.as_str.ensures c.read_ring.ensures.asked

pub returns-in-Err-Unread-clause-connects : goal.returns-in-Err-Unread-clause-connects
returns-in-Err-Unread-clause-connects g c =
    let around = around_of g.N.Net.calls g.N.Net.room g.N.Net.faults g.C.Clock.given g.D.Draw.step c.args.net.now c.args.net.now c.args.clock.now c.args.clock.now c.args.draw.now c.args.draw.now in
    idle_net c.args.options.now around refl

pub returns-in-Err-Unread-clause-left : goal.returns-in-Err-Unread-clause-left
returns-in-Err-Unread-clause-left g c =
    let around = around_of g.N.Net.calls g.N.Net.room g.N.Net.faults g.C.Clock.given g.D.Draw.step c.args.net.now c.args.net.now c.args.clock.now c.args.clock.now c.args.draw.now c.args.draw.now in
    if_err c.key_file_unread.result _ (inl (before_idle around (record { offline = record { net = refl; clock = refl }; draw = refl })))

pub returns-in-Err-Refused-clause-asked : goal.returns-in-Err-Refused-clause-asked
returns-in-Err-Refused-clause-asked g c =
    let files = files_of g.F.KeyFiles.told g.F.KeyFiles.faults c.args.files.now c.read_ring.new.files in
    asked_by c.as_str.result.now c.args.options.now.keys files c.as_str.ensures c.read_ring.ensures.asked

pub returns-in-Err-Refused-clause-connects : goal.returns-in-Err-Refused-clause-connects
returns-in-Err-Refused-clause-connects g c =
    let around = around_of g.N.Net.calls g.N.Net.room g.N.Net.faults g.C.Clock.given g.D.Draw.step c.args.net.now c.args.net.now c.args.clock.now c.args.clock.now c.args.draw.now c.args.draw.now in
    idle_net c.args.options.now around refl

pub returns-in-Err-Refused-clause-left : goal.returns-in-Err-Refused-clause-left
returns-in-Err-Refused-clause-left g c =
    let around = around_of g.N.Net.calls g.N.Net.room g.N.Net.faults g.C.Clock.given g.D.Draw.step c.args.net.now c.args.net.now c.args.clock.now c.args.clock.now c.args.draw.now c.args.draw.now in
    if_err c.key_file_refused.result _ (inl (before_idle around (record { offline = record { net = refl; clock = refl }; draw = refl })))

pub returns-in-Err-Unread-clause-owed : goal.returns-in-Err-Unread-clause-owed
returns-in-Err-Unread-clause-owed g c =
    let around = around_of g.N.Net.calls g.N.Net.room g.N.Net.faults g.C.Clock.given g.D.Draw.step c.args.net.now c.args.net.now c.args.clock.now c.args.clock.now c.args.draw.now c.args.draw.now in
    let files = files_of g.F.KeyFiles.told g.F.KeyFiles.faults c.args.files.now c.read_ring.new.files in
    owes_no_file c.args.options.now c.args.script around c.key_file_unread.result files (asked_by c.as_str.result.now c.args.options.now.keys files c.as_str.ensures c.read_ring.ensures.asked)
    (rises (g.F.KeyFiles.faults c.args.files.now) (g.F.KeyFiles.faults c.read_ring.new.files) (rw c.in-Err-Unread.field-0-is at c.in-Err-Unread.ensures.counted)) (record { offline = record { net = refl; clock = refl }; draw = refl }) c.key_file_unread.ensures.status c.key_file_unread.ensures.text

pub returns-in-Err-Refused-clause-owed : goal.returns-in-Err-Refused-clause-owed
returns-in-Err-Refused-clause-owed g c =
    let around = around_of g.N.Net.calls g.N.Net.room g.N.Net.faults g.C.Clock.given g.D.Draw.step c.args.net.now c.args.net.now c.args.clock.now c.args.clock.now c.args.draw.now c.args.draw.now in
    let files = files_of g.F.KeyFiles.told g.F.KeyFiles.faults c.args.files.now c.read_ring.new.files in
    let given = rw c.in-Err-Refused.field-0-is at c.in-Err-Refused.ensures.gives in
    owes_bad_file c.args.options.now c.args.script around c.key_file_refused.result files given.0 c.in-Err-Refused.line
    (gave_by c.as_str.result.now c.args.options.now.keys files given.0 c.as_str.ensures c.read_ring.ensures.asked given.1 (rw c.in-Err-Refused.field-0-is at c.in-Err-Refused.ensures.counted)) given.2 (record { offline = record { net = refl; clock = refl }; draw = refl }) c.key_file_refused.ensures.status (rw c.in-Err-Refused.field-0-is at c.key_file_refused.ensures.text)
