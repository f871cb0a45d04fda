use Rattle.world_rules.specs.World.{begins}
use Rattle.law_once.proofs.Served.{all_served, all_served_any, attached, begins_served, goes_on}
use Rattle.law_once.proofs.laws.starts_are_served.Goals as goal

pub returns-clause-begins : goal.returns-clause-begins
returns-clause-begins g c = λ setting draw.
    let keeps = λ (course : _) (event : _). c.servers_stay_in_order.ensures.event (Rattle.world_rules.specs.Setting.at_server setting) setting.serve setting.fresh course event in
    begins_served setting keeps c.servers_stay_in_order.ensures.fresh draw

pub returns-clause-event : goal.returns-clause-event
returns-clause-event g c = λ setting world event h.
    let keeps = λ (course : _) (event : _). c.servers_stay_in_order.ensures.event (Rattle.world_rules.specs.Setting.at_server setting) setting.serve setting.fresh course event in
    goes_on setting keeps world event h

pub returns-clause-attach : goal.returns-clause-attach
returns-clause-attach g c = λ setting world name h.
    let keeps = λ (course : _) (event : _). c.servers_stay_in_order.ensures.event (Rattle.world_rules.specs.Setting.at_server setting) setting.serve setting.fresh course event in
    attached setting keeps world world.clock name h

pub returns-clause-all : goal.returns-clause-all
returns-clause-all g c = λ setting draw events start.
    let keeps = λ (course : _) (event : _). c.servers_stay_in_order.ensures.event (Rattle.world_rules.specs.Setting.at_server setting) setting.serve setting.fresh course event in
    (all_served setting keeps (begins setting draw) events (begins_served setting keeps c.servers_stay_in_order.ensures.fresh draw)).past start

pub returns-clause-any : goal.returns-clause-any
returns-clause-any g c = λ setting draw events start.
    let keeps = λ (course : _) (event : _). c.servers_stay_in_order.ensures.event (Rattle.world_rules.specs.Setting.at_server setting) setting.serve setting.fresh course event in
    (all_served_any setting keeps (begins setting draw) events (begins_served setting keeps c.servers_stay_in_order.ensures.fresh draw)).past start
