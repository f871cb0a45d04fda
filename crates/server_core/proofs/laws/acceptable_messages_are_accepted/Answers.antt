use Rattle.server_rules.specs.Server.{remembered}
use Rattle.server_rules.specs.Answer.{message_in}
use Rattle.server_core.proofs.Accepted.{accepted-by}
use Rattle.server_core.proofs.laws.acceptable_messages_are_accepted.Goals as goal

pub returns : goal.returns
returns g c = λ setting envelope server draw session room order found acceptable.
    let said = c.sessions_speak_for_themselves.ensures in
    let law = c.acceptable_messages_are_accepted.ensures in
    let own = remembered session in
    let message = message_in envelope in
    let taken = c.lawful_messages_are_taken.ensures setting envelope server draw session found acceptable in
    accepted-by
    (record {
      owes = said.owes;
      gives = said.gives_up;
      tells = c.packets_are_judged.ensures.told;
      opens = c.packets_are_judged.ensures.opened;
      once = c.noticed_numbers_are_over.ensures.once;
      marks = c.packets_are_judged.ensures.marks;
    })
    setting envelope server draw session room order.unfailed (c.one_session_stays_in_order.ensures.heard setting envelope server draw order) found
    (law.accepted setting.now session.salts envelope.salt own message acceptable)
    (law.remembered setting.now session.salts envelope.salt own message acceptable)
    taken.recorded
