use Rattle.envelope.specs.Lock.{mt_lock}
use Rattle.law_runs.specs.Joining.{setting_under}
use Rattle.law_runs.proofs.laws.runs_execute_once.Goals as goal

pub returns-clause-once : goal.returns-clause-once
returns-clause-once g c = λ step ring draw served called steps joint some words chance fresh.
    c.connections_execute_once.ensures.once mt_lock ring (setting_under step ring) draw steps c.opens_what_it_sealed.ensures c.locks_keep_sizes.ensures.protocol
    (c.settings_seal.ensures step ring) (c.settings_are_sound.ensures step ring some words) (c.runs_are_of_the_ring.ensures step ring draw served called steps joint) chance fresh

pub returns-clause-in_order : goal.returns-clause-in_order
returns-clause-in_order g c = λ step ring draw served called steps joint some words chance fresh.
    c.connections_execute_once.ensures.in_order mt_lock ring (setting_under step ring) draw steps c.opens_what_it_sealed.ensures c.locks_keep_sizes.ensures.protocol
    (c.settings_seal.ensures step ring) (c.settings_are_sound.ensures step ring some words) (c.runs_are_of_the_ring.ensures step ring draw served called steps joint) chance fresh

pub returns-clause-clients : goal.returns-clause-clients
returns-clause-clients g c = c.clients_are_left.ensures

pub returns-clause-server : goal.returns-clause-server
returns-clause-server g c = c.servers_are_left.ensures
