use Rattle.std.proofs.Common.{sym}
use Rattle.cmd_relay.proofs.Pieces.{up_taken, down_refused}
use Rattle.cmd_relay.proofs.passing.take.Goals as goal

pub returns-in-Up-clause-goes_on : goal.returns-in-Up-clause-goes_on
returns-in-Up-clause-goes_on c =
    rw c.in-Up.is (rw (sym c.as_slice-bytes.ensures.value) (up_taken c.written_by_the_relay.ensures c.args.relay.now c.up.new.self c.up.ensures.same_sides c.as_slice-bytes.result.now
    c.args.out.now c.up.new.out c.up.result c.up.ensures.goes_on))

pub returns-in-Down-clause-refused : goal.returns-in-Down-clause-refused
returns-in-Down-clause-refused c =
    rw c.in-Down.is (rw (sym c.as_slice-bytes.ensures.value) (down_refused c.written_by_the_relay.ensures c.args.relay.now c.down.new.self c.down.ensures.same_sides
    c.as_slice-bytes.result.now c.args.out.now c.down.new.out c.down.result c.down.ensures.early c.down.ensures.ends))
