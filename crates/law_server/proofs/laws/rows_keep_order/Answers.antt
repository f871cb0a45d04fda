use Rattle.law_server.proofs.Rows.{accepts-keeps, call-keeps, broken-keeps, drops-keeps, binds-keeps, salts-keeps, states-keeps, sends_again-keeps, gives_up-keeps}
use Rattle.law_server.proofs.Events.{finishes-keeps}
use Rattle.law_server.proofs.laws.rows_keep_order.Goals as goal

pub returns-clause-accepts : goal.returns-clause-accepts
returns-clause-accepts g c = accepts-keeps

pub returns-clause-call : goal.returns-clause-call
returns-clause-call g c = call-keeps

pub returns-clause-broken : goal.returns-clause-broken
returns-clause-broken g c = broken-keeps

pub returns-clause-drops : goal.returns-clause-drops
returns-clause-drops g c = drops-keeps

pub returns-clause-binds : goal.returns-clause-binds
returns-clause-binds g c = binds-keeps

pub returns-clause-salts : goal.returns-clause-salts
returns-clause-salts g c = salts-keeps

pub returns-clause-states : goal.returns-clause-states
returns-clause-states g c = states-keeps

pub returns-clause-sends_again : goal.returns-clause-sends_again
returns-clause-sends_again g c = sends_again-keeps

pub returns-clause-finishes : goal.returns-clause-finishes
returns-clause-finishes g c = finishes-keeps

pub returns-clause-gives_up : goal.returns-clause-gives_up
returns-clause-gives_up g c = gives_up-keeps
