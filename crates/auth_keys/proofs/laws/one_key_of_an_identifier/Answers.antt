use Rattle.auth_keys.proofs.RingLemmas.{entry_of-found, entry_of-only, entry_of-absent, entry_of-none}
use Rattle.auth_keys.proofs.laws.one_key_of_an_identifier.Goals as goal

pub returns-clause-found : goal.returns-clause-found
returns-clause-found c = λ id ring entry e. entry_of-found id ring entry e

pub returns-clause-only : goal.returns-clause-only
returns-clause-only c = λ ring entry h within. entry_of-only ring entry h within

pub returns-clause-none : goal.returns-clause-none
returns-clause-none c = λ id ring e. entry_of-absent id ring e

pub returns-clause-only_none : goal.returns-clause-only_none
returns-clause-only_none c = λ id ring h. entry_of-none id ring h
