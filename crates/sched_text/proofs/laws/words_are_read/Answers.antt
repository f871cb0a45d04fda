use Rattle.sched_text.proofs.Hexes.{hex_at-is, hex_at-of}
use Rattle.sched_text.proofs.Numbers.{number_at-decimal, number_at-is}
use Rattle.sched_text.proofs.laws.words_are_read.Goals as goal

pub returns-clause-number : goal.returns-clause-number
returns-clause-number c = number_at-is

pub returns-clause-every_number : goal.returns-clause-every_number
returns-clause-every_number c = number_at-decimal

pub returns-clause-bytes : goal.returns-clause-bytes
returns-clause-bytes c = hex_at-is

pub returns-clause-all_bytes : goal.returns-clause-all_bytes
returns-clause-all_bytes c = hex_at-of
