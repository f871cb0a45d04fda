use Rattle.id_window.specs.Marks.{given}
use Rattle.inbox.specs.Judging.{first_mark, outcome_of}
use Rattle.inbox.specs.Kinds.{kind_of}
use Rattle.server_rules.specs.Answer.{message_in}
use Rattle.server_rules.specs.Server.{remembered}
use Rattle.law_server_bounds.proofs.Taking.{event-taken}
use Rattle.law_server_bounds.proofs.laws.lawful_messages_are_taken.Goals as goal

pub returns : goal.returns
returns g c = λ setting envelope server draw session is acceptable.
    let message = message_in envelope in
    let law = c.acceptable_messages_are_accepted.ensures in
    let own = remembered session in
    event-taken (record { own = c.sessions_speak.ensures.own; others = c.sessions_speak.ensures.others }) setting
    (record {
      owes_for = λ speaker number seq verdict body. c.sessions_speak_for_themselves.ensures.owes setting speaker number seq verdict body;
      gives_for = λ speaker content job. c.sessions_speak_for_themselves.ensures.gives_up setting speaker content job;
    })
    envelope server draw session is
    (record {
      accepted = law.accepted setting.now session.salts envelope.salt own message acceptable;
      marks = given message.number (first_mark (outcome_of (kind_of message))) own.marks;
      history = law.remembered setting.now session.salts envelope.salt own message acceptable;
    })
