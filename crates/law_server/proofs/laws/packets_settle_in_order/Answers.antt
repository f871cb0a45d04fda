use Rattle.std.proofs.Common.{refl}
use Rattle.server_rules.specs.Answer.{begun, name_in}
use Rattle.server_rules.specs.Server.{session_named}
use Rattle.law_server.proofs.Judged.{Known}
use Rattle.law_server.proofs.Service.{service-called}
use Rattle.law_server.proofs.Events.{begun-goes, failures-go, hears-stand, only-own, opened-goes, row-goes, tells-go, with-own-past}
use Rattle.law_server.proofs.laws.packets_settle_in_order.Goals as goal

pub returns-clause-hears : goal.returns-clause-hears
returns-clause-hears g c = λ setting envelope server draw are.
    let stand = hears-stand setting envelope (begun server draw) (session_named (name_in envelope) server.sessions) refl (record { names = are.names; each = are.each }) in
    begun-goes _ _ stand

pub returns-clause-opens : goal.returns-clause-opens
returns-clause-opens g c = λ setting way message state session found on.
    let known : Known = record { new = c.numbers_are_judged_once.ensures.new; noted = c.marks_follow_history.ensures.noted } in
    opened-goes known service-called setting way message state session found on

pub returns-clause-row : goal.returns-clause-row
returns-clause-row g c = λ setting name number seq verdict body past numbers state told on. row-goes setting name number seq verdict body past numbers state told on

pub returns-clause-tells : goal.returns-clause-tells
returns-clause-tells g c = λ name number past numbers state on. tells-go name number past numbers state on

pub returns-clause-failures : goal.returns-clause-failures
returns-clause-failures g c = λ setting past opened state on. failures-go setting past opened state on

pub returns-clause-own_past : goal.returns-clause-own_past
returns-clause-own_past g c = λ name history past. with-own-past name history past

pub returns-clause-own_open : goal.returns-clause-own_open
returns-clause-own_open g c = λ name numbers. only-own name numbers
