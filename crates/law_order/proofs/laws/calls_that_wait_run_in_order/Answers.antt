use Rattle.world_rules.specs.Run.{run_of, run_of_any}
use Rattle.law_order.proofs.Waiting.{waiting-in-order}
use Rattle.law_order.proofs.laws.calls_that_wait_run_in_order.Goals as goal

pub returns-clause-schedule : goal.returns-clause-schedule
returns-clause-schedule g c = λ lock ring setting draw events seals sizes so sound bytes fresh.
    let world = run_of setting draw events in
    let moves = c.worlds_are_moves.ensures.schedule lock ring setting draw events seals sizes so sound bytes fresh in
    waiting-in-order
    (record {
      front = c.parts_are_bytes.ensures.front;
      back = c.parts_are_bytes.ensures.back;
      drop = c.parts_are_bytes.ensures.drop;
      begins = c.packed_is_unfolded.ensures.begins;
      lawful = c.parts_are_exact.ensures.only_lawful;
      rows = c.items_exact.ensures.read;
    })
    (record {
      of_one = c.names_are_apart.ensures.of_one;
      newest = c.names_are_apart.ensures.newest;
      once = c.numbers_are_given_once.ensures.once;
      no_name = c.numbers_are_given_once.ensures.no_name;
    })
    c.packets_sent_are_up.ensures setting moves.0 world moves.1
    (c.calls_execute_once.ensures.schedule lock ring setting draw events seals sizes so sound bytes fresh)
    (c.worlds_keep_order.ensures.schedule lock ring setting draw events seals sizes so sound bytes fresh)

pub returns-clause-any : goal.returns-clause-any
returns-clause-any g c = λ lock ring setting draw events seals sizes so sound bytes chance fresh.
    let world = run_of_any setting draw events in
    let moves = c.worlds_are_moves.ensures.any lock ring setting draw events seals sizes so sound bytes chance fresh in
    waiting-in-order
    (record {
      front = c.parts_are_bytes.ensures.front;
      back = c.parts_are_bytes.ensures.back;
      drop = c.parts_are_bytes.ensures.drop;
      begins = c.packed_is_unfolded.ensures.begins;
      lawful = c.parts_are_exact.ensures.only_lawful;
      rows = c.items_exact.ensures.read;
    })
    (record {
      of_one = c.names_are_apart.ensures.of_one;
      newest = c.names_are_apart.ensures.newest;
      once = c.numbers_are_given_once.ensures.once;
      no_name = c.numbers_are_given_once.ensures.no_name;
    })
    c.packets_sent_are_up.ensures setting moves.0 world moves.1
    (c.calls_execute_once.ensures.any lock ring setting draw events seals sizes so sound bytes chance fresh)
    (c.worlds_keep_order.ensures.any lock ring setting draw events seals sizes so sound bytes chance fresh)

pub returns-clause-standing : goal.returns-clause-standing
returns-clause-standing g c = λ setting w world stands once kept.
    waiting-in-order
    (record {
      front = c.parts_are_bytes.ensures.front;
      back = c.parts_are_bytes.ensures.back;
      drop = c.parts_are_bytes.ensures.drop;
      begins = c.packed_is_unfolded.ensures.begins;
      lawful = c.parts_are_exact.ensures.only_lawful;
      rows = c.items_exact.ensures.read;
    })
    (record {
      of_one = c.names_are_apart.ensures.of_one;
      newest = c.names_are_apart.ensures.newest;
      once = c.numbers_are_given_once.ensures.once;
      no_name = c.numbers_are_given_once.ensures.no_name;
    })
    c.packets_sent_are_up.ensures setting w world stands once kept
