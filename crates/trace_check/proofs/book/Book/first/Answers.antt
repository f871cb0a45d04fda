use Rattle.std.proofs.Common.{map}
use Rattle.trace_check.specs.Keys.{key_of}
use Rattle.trace_check.proofs.Lookups.{first_fact, no_row}
use Rattle.trace_check.proofs.book.Book.first.Goals as goal

pub returns-in-Some : goal.returns-in-Some
returns-in-Some c = first_fact c.args.by c.args.self.now.facts.items c.args.key c.in-Some.row c.fact.result (c.in-Some.ensures c.requires) c.fact.ensures

pub returns-in-None : goal.returns-in-None
returns-in-None c = no_row (map (key_of c.args.by) c.args.self.now.facts.items) c.args.key c.row.result c.in-None.is (c.row.ensures c.requires)
