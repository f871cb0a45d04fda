use Rattle.std.proofs.Common.{rules}
use Rattle.tl_codec.specs.Spelling.{Truth}
use Rattle.tl_codec.specs.Reading.{truth_at}
use Rattle.tl_codec.proofs.Fronts.{call_refuses}
use Rattle.tl_codec.proofs.reader.Reader.boolean.Goals as goal

pub returns-in_err-found-clause-refused : goal.returns-in_err-found-clause-refused
unfolding truth_at
returns-in_err-found-clause-refused c = call_refuses Truth c.from_residual.result c.args.self.now c.args.self.now (search rules)
