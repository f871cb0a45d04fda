use Rattle.world_rules.specs.Setting.{at_server}
use Rattle.world_rules.specs.World.{begins}
use Rattle.world_rules.specs.Run.{after, run_of, run_of_any}
use Rattle.law_once.proofs.Served.{begins_served}
use Rattle.law_once.proofs.Drawing.{any_between, as_drawn, drawn_fresh, drawn_places, event_between, run_between}
use Rattle.law_once.proofs.laws.names_are_words_drawn.Goals as goal

pub returns-clause-event : goal.returns-clause-event
returns-clause-event g c = λ setting world event ordered.
    as_drawn setting world (after setting world event)
    (event_between setting (record { own = c.sessions_speak.ensures.own; others = c.sessions_speak.ensures.others })
    (record { owes = c.sessions_speak_for_themselves.ensures.owes; gives_up = c.sessions_speak_for_themselves.ensures.gives_up; finishes = c.sessions_speak_for_themselves.ensures.finishes; attaches = c.sessions_speak_for_themselves.ensures.attaches; salts = record { owes = c.sessions_draw_salts.ensures.owes; opens = c.sessions_draw_salts.ensures.opens; attaches = c.sessions_draw_salts.ensures.attaches } })
    (λ course event. c.servers_stay_in_order.ensures.event (at_server setting) setting.serve setting.fresh course event) world event ordered)

pub returns-clause-schedule : goal.returns-clause-schedule
returns-clause-schedule g c = λ setting draw events.
    let keeps = λ (course : _) (event : _). c.servers_stay_in_order.ensures.event (at_server setting) setting.serve setting.fresh course event in
    as_drawn setting (begins setting draw) (run_of setting draw events)
    (run_between setting (record { own = c.sessions_speak.ensures.own; others = c.sessions_speak.ensures.others })
    (record { owes = c.sessions_speak_for_themselves.ensures.owes; gives_up = c.sessions_speak_for_themselves.ensures.gives_up; finishes = c.sessions_speak_for_themselves.ensures.finishes; attaches = c.sessions_speak_for_themselves.ensures.attaches; salts = record { owes = c.sessions_draw_salts.ensures.owes; opens = c.sessions_draw_salts.ensures.opens; attaches = c.sessions_draw_salts.ensures.attaches } })
    keeps (begins setting draw) events (begins_served setting keeps c.servers_stay_in_order.ensures.fresh draw))

pub returns-clause-any : goal.returns-clause-any
returns-clause-any g c = λ setting draw events.
    let keeps = λ (course : _) (event : _). c.servers_stay_in_order.ensures.event (at_server setting) setting.serve setting.fresh course event in
    as_drawn setting (begins setting draw) (run_of_any setting draw events)
    (any_between setting (record { own = c.sessions_speak.ensures.own; others = c.sessions_speak.ensures.others })
    (record { owes = c.sessions_speak_for_themselves.ensures.owes; gives_up = c.sessions_speak_for_themselves.ensures.gives_up; finishes = c.sessions_speak_for_themselves.ensures.finishes; attaches = c.sessions_speak_for_themselves.ensures.attaches; salts = record { owes = c.sessions_draw_salts.ensures.owes; opens = c.sessions_draw_salts.ensures.opens; attaches = c.sessions_draw_salts.ensures.attaches } })
    keeps (begins setting draw) events (begins_served setting keeps c.servers_stay_in_order.ensures.fresh draw))

pub returns-clause-fresh : goal.returns-clause-fresh
returns-clause-fresh g c = λ setting draw n world h some apart. drawn_fresh setting draw n world h (some, apart)

pub returns-clause-places : goal.returns-clause-places
returns-clause-places g c = λ setting draw n world h. drawn_places setting draw n world h
