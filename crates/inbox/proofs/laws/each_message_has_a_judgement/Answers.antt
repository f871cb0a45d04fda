use Rattle.inbox.proofs.DraftLemmas.{inner_lengths, inner_numbers, inner_seqs}
use Rattle.inbox.proofs.laws.each_message_has_a_judgement.Goals as goal

pub returns-clause-lengths : goal.returns-clause-lengths
returns-clause-lengths c = inner_lengths

pub returns-clause-numbers : goal.returns-clause-numbers
returns-clause-numbers c = inner_numbers

pub returns-clause-seqs : goal.returns-clause-seqs
returns-clause-seqs c = inner_seqs
