use Rattle.trace_check.proofs.Meanings.{AreRead}
use Rattle.trace_check.proofs.Answering.{not_both_found, one_bad_line, one_found}
use Rattle.trace_check.proofs.laws.one_answer.Goals as goal

known : goal.After-words_are_read → AreRead
known c = record {
  number = c.words_are_read.ensures.number;
  every_number = c.words_are_read.ensures.every_number;
  bytes = c.words_are_read.ensures.bytes;
  all_bytes = c.words_are_read.ensures.all_bytes;
}

pub returns-clause-found : goal.returns-clause-found
returns-clause-found c = one_found (known c)

pub returns-clause-not_both : goal.returns-clause-not_both
returns-clause-not_both c = not_both_found (known c)

pub returns-clause-bad_line : goal.returns-clause-bad_line
returns-clause-bad_line c = one_bad_line (known c)
