use Rattle.std.proofs.Common.{rules}
use Rattle.sim_text.proofs.entry.entry_line.Goals as goal

pub returns-clause-told : goal.returns-clause-told
returns-clause-told c seats entered line = let told = c.push_entry.ensures seats entered line in search rules
