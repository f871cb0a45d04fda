use Rattle.std.proofs.Common.{◌-◌}
use Rattle.call_table.specs.Table.{Call, living_name, new_call, sent, sent_again, settled, flagged}
use Rattle.call_table.proofs.LawLemmas.{IsUnder, all_changed, all_more, under_salt, under_settled, below_greater}
use Rattle.call_table.proofs.laws.numbers_stay_below.Goals as goal

pub returns-clause-added : goal.returns-clause-added
returns-clause-added c = λ number calls body after h. all_more (λ (call : Call). IsUnder number (living_name call)) calls (new_call body after) h tt

pub returns-clause-sent : goal.returns-clause-sent
returns-clause-sent c = λ number calls call session living salt h below. all_changed (λ (one : Call). IsUnder number (living_name one)) (sent session living salt) (λ one was. below) (call.n - 1) calls h

pub returns-clause-again : goal.returns-clause-again
returns-clause-again c = λ number calls call salt h. all_changed (λ (one : Call). IsUnder number (living_name one)) (sent_again salt) (λ one was. under_salt number salt one.state one.names was) (call.n - 1) calls h

pub returns-clause-settled : goal.returns-clause-settled
returns-clause-settled c = λ number calls call fate h. all_changed (λ (one : Call). IsUnder number (living_name one)) (settled fate) (λ one was. under_settled number fate one.names) (call.n - 1) calls h

pub returns-clause-flagged : goal.returns-clause-flagged
returns-clause-flagged c = λ number calls call flags h. all_changed (λ (one : Call). IsUnder number (living_name one)) (flagged flags) (λ one was. was) (call.n - 1) calls h

pub returns-clause-later : goal.returns-clause-later
returns-clause-later c = λ number greater calls h le. below_greater number greater calls h le
