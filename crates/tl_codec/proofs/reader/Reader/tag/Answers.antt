use Rattle.std.proofs.Common.{rules}
use Rattle.tl_codec.specs.Spelling.{Tag}
use Rattle.tl_codec.specs.Reading.{tag_at}
use Rattle.tl_codec.proofs.Fronts.{call_refuses}
use Rattle.tl_codec.proofs.reader.Reader.tag.Goals as goal

pub returns-in_err-found-clause-refused : goal.returns-in_err-found-clause-refused
unfolding tag_at
returns-in_err-found-clause-refused c = call_refuses (Tag c.args.want) c.from_residual.result c.args.self.now c.args.self.now (search rules)
