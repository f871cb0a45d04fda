use Rattle.law_moves.specs.World.{start}
use Rattle.world_rules.specs.Setting.{at_server}
use Rattle.world_rules.specs.World.{begins}
use Rattle.law_server_moves.specs.Worlds.{past_in}
use Rattle.law_once.proofs.Served.{begins_served}
use Rattle.law_once.proofs.Events.{Laws, goes_on}
use Rattle.law_once.proofs.Servers.{attached}
use Rattle.law_once.proofs.Runs.{begun, run_all, run_any}
use Rattle.law_once.proofs.laws.worlds_are_moves.Goals as goal

module _ (g : Rattle.law_once.proofs.laws.worlds_are_moves.Given.Over) (c : goal.After-packets_of_worlds_are_lawful g) where
  known : Laws g.row.D.Denot g.row.V.Denot
  known = record {
    moving = record { reached = c.moves_go_on.ensures.reached; extends = c.moves_only_add.ensures; owned = c.clients_and_bodies_last.ensures.owned; one_owner = c.names_are_apart.ensures.one_owner; clients = c.moves_leave.ensures.clients; calls = c.moves_leave.ensures.calls; submitted = c.moves_leave.ensures.submitted; other_clients = c.moves_leave.ensures.other_clients; other_calls = c.moves_leave.ensures.other_calls };
    still = record { clients = c.others_stand_still.ensures.clients; servers = c.others_stand_still.ensures.servers };
    servers = λ v mover list other lawful its s. c.servers_stand_still.ensures v mover list (past_in other) other.server.sessions other.server.jobs lawful its s;
    acts = record { joins = c.clients_join.ensures.stands; joins_so = c.clients_join.ensures.temporary; joins_lawfully = c.clients_join.ensures.lawful; submits_lawfully = c.clients_submit.ensures.lawful; submits = c.clients_submit.ensures.stands; attached = c.wishes_are_no_moves.ensures.attached; ticked = c.wishes_are_no_moves.ensures.ticked; pinged = c.wishes_are_no_moves.ensures.pinged; salts_asked = c.wishes_are_no_moves.ensures.salts_asked; dropped = c.wishes_are_no_moves.ensures.dropped; renews_lawfully = c.clients_renew_and_end.ensures.renews; renews = c.clients_renew_and_end.ensures.renewed; ends_lawfully = c.clients_renew_and_end.ensures.ends; ends = c.clients_renew_and_end.ensures.ended; hears = c.clients_hear.ensures.heard; passes_over = c.clients_hear.ensures.passed_over; unopened = c.clients_hear.ensures.unopened };
    flushes = c.clients_flush.ensures;
    alone = record { owes = c.sessions_speak_for_themselves.ensures.owes; gives_up = c.sessions_speak_for_themselves.ensures.gives_up; finishes = c.sessions_speak_for_themselves.ensures.finishes; attaches = c.sessions_speak_for_themselves.ensures.attaches; salts = record { owes = c.sessions_draw_salts.ensures.owes; opens = c.sessions_draw_salts.ensures.opens; attaches = c.sessions_draw_salts.ensures.attaches } };
    serves = record { tick = c.events_of_worlds_are_moves.ensures.tick; work = c.events_of_worlds_are_moves.ensures.work; attach = c.events_of_worlds_are_moves.ensures.attach; loss = c.events_of_worlds_are_moves.ensures.loss; restart = c.events_of_worlds_are_moves.ensures.restart; unopened = c.events_of_worlds_are_moves.ensures.unopened; packet = c.packets_of_worlds_are_moves.ensures; kept = λ setting course event fits. c.sizes_stay_small.ensures.event (at_server setting) setting.serve setting.fresh course event fits.words fits.replies; whole = λ setting course event fits. c.packets_are_whole.ensures.event (at_server setting) setting.serve setting.fresh course event fits.words fits.replies };
    judged = c.packets_sent_are_up.ensures;
    read = c.packets_are_read_as_they_went_out.ensures;
    order = λ setting course event. c.servers_stay_in_order.ensures.event (at_server setting) setting.serve setting.fresh course event;
  }

pub returns-clause-begins : goal.returns-clause-begins
returns-clause-begins g c = λ setting draw. begun setting draw c.servers_stay_in_order.ensures.fresh

pub returns-clause-event : goal.returns-clause-event
returns-clause-event g c = λ lock ring setting w world event seals so fits h sealed chance fresh behind.
    goes_on
    (known g c)
    lock ring setting seals so w world h sealed event chance fresh (behind, fits)

pub returns-clause-attach : goal.returns-clause-attach
returns-clause-attach g c = λ lock ring setting w world name seals fits h fresh behind.
    let k = known g c in
    attached k.moving k.still k.alone k.serves k.order k.read lock ring seals setting w world h name fresh (behind, fits)

pub returns-clause-schedule : goal.returns-clause-schedule
returns-clause-schedule g c = λ lock ring setting draw events seals sizes so sound bytes fresh.
    run_all
    (known g c)
    (record { own = c.sessions_speak.ensures.own; others = c.sessions_speak.ensures.others })
    lock ring setting seals so (record { words = sound.words; replies = sound.replies }) (begins setting draw) events (start, begun setting draw c.servers_stay_in_order.ensures.fresh)
    (begins_served setting (λ course event. c.servers_stay_in_order.ensures.event (at_server setting) setting.serve setting.fresh course event) c.servers_stay_in_order.ensures.fresh draw) fresh
    (c.packets_of_worlds_are_lawful.ensures.schedule lock ring setting draw events sizes so sound bytes)

pub returns-clause-any : goal.returns-clause-any
returns-clause-any g c = λ lock ring setting draw events seals sizes so sound bytes chance fresh.
    run_any
    (known g c)
    (record { own = c.sessions_speak.ensures.own; others = c.sessions_speak.ensures.others })
    lock ring setting seals so (record { words = sound.words; replies = sound.replies }) (begins setting draw) events (start, begun setting draw c.servers_stay_in_order.ensures.fresh)
    (begins_served setting (λ course event. c.servers_stay_in_order.ensures.event (at_server setting) setting.serve setting.fresh course event) c.servers_stay_in_order.ensures.fresh draw) chance fresh
    (c.packets_of_worlds_are_lawful.ensures.any lock ring setting draw events sizes so sound bytes)
