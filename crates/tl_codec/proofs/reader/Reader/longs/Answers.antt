use Rattle.std.proofs.Common.{rules, ◌%◌, length, subst}
use Rattle.tl_codec.specs.declared.fault.TlFault.TheVariants.{Short}
use Rattle.octets.specs.Bytes.{IsBytes}
use Rattle.tl_codec.specs.Spelling.{Longs}
use Rattle.tl_codec.specs.Reading.{longs_at}
use Rattle.tl_codec.proofs.Fronts.{takes, refuses, longs_refuse}
use Rattle.tl_codec.proofs.reader.Reader.longs.Goals as goal

pub returns-in_err-tag-clause-refused : goal.returns-in_err-tag-clause-refused
unfolding longs_at
returns-in_err-tag-clause-refused c = longs_refuse c.from_residual.result c.args.self.now c.args.self.now (search rules)

pub returns-in_err-claimed-clause-refused : goal.returns-in_err-claimed-clause-refused
unfolding longs_at
returns-in_err-claimed-clause-refused c = longs_refuse c.from_residual-in_err-claimed.result c.args.self.now c.args.self.now (search rules)

pub returns-then-ahead-count-clause-refused : goal.returns-then-ahead-count-clause-refused
unfolding longs_at
returns-then-ahead-count-clause-refused c = λ other. refuses Longs c.args.self.now (Short 8 (length c.ahead.inside.left.now % 8)) (search rules)

pub returns-clause-taken : goal.returns-clause-taken
unfolding longs_at
returns-clause-taken c = takes Longs c.args.self.now c.in_ok-numbers.numbers c.split_at.result.1.now (subst IsBytes c.self.view_is c.self.invariant) (search rules)
