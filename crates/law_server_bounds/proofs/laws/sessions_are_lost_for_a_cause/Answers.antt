use Rattle.server_rules.specs.Event.{Setting}
use Rattle.law_server_bounds.proofs.Losing.{lost-why}
use Rattle.law_server_bounds.proofs.laws.sessions_are_lost_for_a_cause.Goals as goal

pub returns : goal.returns
returns g c = λ setting serve service course event name session stands none.
    let D : Type 0 = g.row.D.Denot in
    let said = c.sessions_speak_for_themselves.ensures in
    lost-why (record { own = c.sessions_speak.ensures.own; others = c.sessions_speak.ensures.others }) setting
    (λ now.
    let at : Setting D = record setting { now = now } in
    record {
      owes_for = λ speaker number seq verdict body. said.owes at speaker number seq verdict body;
      gives_for = λ speaker content job. said.gives_up at speaker content job;
      finishes_for = λ speaker job reply. said.finishes at speaker job reply;
      attaches_for = λ speaker. said.attaches at speaker;
    })
    serve service course event name (session, stands) none
