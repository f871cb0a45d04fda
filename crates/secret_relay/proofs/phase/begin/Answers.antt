use Rattle.std.proofs.Common.{rules}
use Rattle.secret_relay.proofs.Phases.{begin_goes, begin_ends}
use Rattle.secret_relay.proofs.phase.begin.Goals as goal

pub returns-in-Ok-None-clause-begun : goal.returns-in-Ok-None-clause-begun
returns-in-Ok-None-clause-begun c =
    begin_goes c.ctr_pieces_equal_the_whole.ensures c.args.form c.args.secret.now c.args.wire.now c.in-Ok.pair c.new-link.result c.up.new.self c.args.rest.now
    c.args.out.now c.push_all.new.self c.up.new.out c.start_of.result.now (search rules) c.in-Ok.ensures.pair
    c.new-link.ensures.form c.new-link.ensures.up c.new-link.ensures.down c.new-link.ensures.client c.new-link.ensures.server
    c.start_of.ensures c.in_ok-push_all.ensures.appended c.in-Ok-None.field-0 c.in-Ok-None.ensures.passed c.in-Ok-None.field-0-is

pub returns-in-Ok-Some-clause-ends : goal.returns-in-Ok-Some-clause-ends
returns-in-Ok-Some-clause-ends c =
    begin_ends c.ctr_pieces_equal_the_whole.ensures c.args.form c.args.secret.now c.args.wire.now c.in-Ok.pair c.new-link.result c.up.new.self c.args.rest.now
    c.args.out.now c.push_all.new.self c.up.new.out c.start_of.result.now (search rules) c.in-Ok.ensures.pair
    c.new-link.ensures.form c.new-link.ensures.up c.new-link.ensures.down c.new-link.ensures.client c.new-link.ensures.server
    c.start_of.ensures c.in_ok-push_all.ensures.appended c.in-Ok-Some.field-0 c.in-Ok-Some.ensures.passed c.in-Ok-Some.fault c.in-Ok-Some.field-0-is
