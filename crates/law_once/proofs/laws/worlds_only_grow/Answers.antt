use Rattle.world_rules.specs.Premises.{names_drawn}
use Rattle.server_rules.specs.Events.{Attach}
use Rattle.world_rules.specs.Ends.{serves}
use Rattle.world_rules.specs.Run.{after}
use Rattle.law_packets.specs.Lawful.{IsSealedPacket}
use Rattle.law_once.proofs.Counting.{fewer_fresh}
use Rattle.law_once.proofs.Names.{attached_at, names_stay}
use Rattle.law_once.proofs.Bags.{packets_stay}
use Rattle.law_once.proofs.laws.worlds_only_grow.Goals as goal

pub returns-clause-words : goal.returns-clause-words
returns-clause-words g c = λ setting world event ordered fresh.
    let back = fewer_fresh (names_drawn world) (names_drawn (after setting world event))
    (names_stay (record { own = c.sessions_speak.ensures.own; others = c.sessions_speak.ensures.others })
    (record { owes = c.sessions_speak_for_themselves.ensures.owes; gives_up = c.sessions_speak_for_themselves.ensures.gives_up; finishes = c.sessions_speak_for_themselves.ensures.finishes; attaches = c.sessions_speak_for_themselves.ensures.attaches; salts = record { owes = c.sessions_draw_salts.ensures.owes; opens = c.sessions_draw_salts.ensures.opens; attaches = c.sessions_draw_salts.ensures.attaches } })
    setting world ordered.names event) (fresh.some, fresh.apart) in
    record { some = back.0; apart = back.1 }

pub returns-clause-words_attached : goal.returns-clause-words_attached
returns-clause-words_attached g c = λ setting world name ordered fresh.
    let back = fewer_fresh (names_drawn world) (names_drawn (serves setting (Attach world.clock name) world))
    (attached_at (record { own = c.sessions_speak.ensures.own; others = c.sessions_speak.ensures.others })
    (record { owes = c.sessions_speak_for_themselves.ensures.owes; gives_up = c.sessions_speak_for_themselves.ensures.gives_up; finishes = c.sessions_speak_for_themselves.ensures.finishes; attaches = c.sessions_speak_for_themselves.ensures.attaches; salts = record { owes = c.sessions_draw_salts.ensures.owes; opens = c.sessions_draw_salts.ensures.opens; attaches = c.sessions_draw_salts.ensures.attaches } })
    setting world ordered.names name) (fresh.some, fresh.apart) in
    record { some = back.0; apart = back.1 }

pub returns-clause-packets : goal.returns-clause-packets
returns-clause-packets g c = λ lock ring setting world event h. packets_stay (IsSealedPacket lock ring setting) setting world event h
