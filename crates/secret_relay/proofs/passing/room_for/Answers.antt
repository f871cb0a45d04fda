use Rattle.std.proofs.Common.{◌<◌, length, inl, arith}
use Rattle.secret_relay.proofs.Looks.{begun_on}
use Rattle.secret_relay.proofs.passing.room_for.Goals as goal

pub returns-in-Size : goal.returns-in-Size
returns-in-Size c = λ tail same.
    let short : length c.args.text.now < c.in-Size.size = omega arith in
    inl (begun_on c.args.from c.args.text.now tail c.args.known c.in-Size.size c.in-Size.ensures c.requires same short)
