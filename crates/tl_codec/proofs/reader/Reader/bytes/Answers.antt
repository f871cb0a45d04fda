use Rattle.std.proofs.Common.{rules, ◌+◌, ◌-◌, take, drop, subst}
use Rattle.octets.specs.Bytes.{IsBytes}
use Rattle.tl_codec.specs.Spelling.{Bytes}
use Rattle.tl_codec.specs.Reading.{bytes_at}
use Rattle.tl_codec.proofs.Fronts.{takes, bytes_refuse}
use Rattle.tl_codec.proofs.reader.Reader.bytes.Goals as goal

pub returns-in_err-head-clause-refused : goal.returns-in_err-head-clause-refused
unfolding bytes_at
returns-in_err-head-clause-refused c = bytes_refuse c.from_residual.result c.args.self.now c.args.self.now (search rules)

pub returns-in_err-field-clause-refused : goal.returns-in_err-field-clause-refused
unfolding bytes_at
returns-in_err-field-clause-refused c = bytes_refuse c.from_residual-in_err-field.result c.args.self.now c.args.self.now (search rules)

pub returns-clause-taken : goal.returns-clause-taken
unfolding bytes_at
returns-clause-taken c =
    let head = c.in_ok-head.head in
    let content = take (head + c.in_ok-head.len - head) (drop head c.in_ok-field.field.now) in
    takes Bytes c.args.self.now content c.in_ok-field.left.now (subst IsBytes c.self.view_is c.self.invariant) (search rules)
