use Rattle.std.proofs.Common.{ap}
use Rattle.client_rules.specs.Events.{made}
use Rattle.law_order.specs.Given.{nothing_given}
use Rattle.law_order.proofs.NumberEvents.{all-once, made-given, step-given, step-line}
use Rattle.law_order.proofs.NumberFilling.{flush-so}
use Rattle.law_order.proofs.Kept.{Line, has-now, line_of}
use Rattle.law_order.proofs.client_numbers.numbers_are_given_once.Goals as goal

pub returns-clause-made : goal.returns-clause-made
returns-clause-made g c = λ setting key temporary draw asked. made-given setting key temporary draw asked

pub returns-clause-event : goal.returns-clause-event
returns-clause-event g c = λ setting run event given has. step-given setting run event given has

pub returns-clause-session : goal.returns-clause-session
returns-clause-session g c = λ setting run event given on has.
    let same = step-line setting run event given on has in (ap (λ (line : Line). line.present) same, ap (λ (line : Line). line.former) same)

pub returns-clause-packet : goal.returns-clause-packet
returns-clause-packet g c = λ setting now client draw given has. (flush-so (line_of client) given setting now client draw (has-now given client has)).1

pub returns-clause-all : goal.returns-clause-all
returns-clause-all g c = λ setting key temporary draw events asked.
    all-once setting events (made setting key temporary draw) nothing_given (made-given setting key temporary draw asked) tt
