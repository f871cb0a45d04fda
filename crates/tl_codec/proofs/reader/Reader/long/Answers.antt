use Rattle.std.proofs.Common.{rules, subst}
use Rattle.octets.specs.Bytes.{IsBytes}
use Rattle.tl_codec.specs.Spelling.{Long}
use Rattle.tl_codec.specs.Reading.{number_at}
use Rattle.tl_codec.proofs.Fronts.{takes}
use Rattle.tl_codec.proofs.reader.Reader.long.Goals as goal

pub returns-clause-taken : goal.returns-clause-taken
unfolding number_at
returns-clause-taken c = takes Long c.args.self.now c.read_u64.result c.in_ok-field.left.now (subst IsBytes c.self.view_is c.self.invariant) (search rules)
