use Rattle.law_server.proofs.Little.{goes-together}
use Rattle.law_server.proofs.lives.new_sessions_owe_little.Goals as goal

pub returns : goal.returns
returns g c = λ setting envelope state session sent owed order found unheard.
    goes-together (record {
      own = c.sessions_speak.ensures.own;
      others = c.sessions_speak.ensures.others;
      owes = c.sessions_speak_for_themselves.ensures.owes;
      attaches = c.sessions_speak_for_themselves.ensures.attaches;
      gives_up = c.sessions_speak_for_themselves.ensures.gives_up;
      finishes = c.sessions_speak_for_themselves.ensures.finishes;
    })
    (record { replies = c.new_sessions_say_so.ensures.replies; jobs = c.new_sessions_say_so.ensures.jobs })
    (record { dropped = c.floors_never_fall.ensures.dropped; added = c.floors_never_fall.ensures.added })
    setting envelope state session sent owed order found unheard
