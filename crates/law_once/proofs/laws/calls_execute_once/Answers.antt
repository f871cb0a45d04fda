use Rattle.world_rules.specs.Run.{run_of, run_of_any}
use Rattle.law_once.specs.Standing.{HasMoves}
use Rattle.law_once.proofs.Timely.{lost_later}
use Rattle.law_once.proofs.Outstanding.{all_named}
use Rattle.law_once.proofs.OnceHere.{once_here}
use Rattle.law_once.proofs.laws.calls_execute_once.Goals as goal

pub returns-clause-standing : goal.returns-clause-standing
returns-clause-standing g c = λ setting w world h served.
    once_here setting
    (record { one_owner = c.names_are_apart.ensures.one_owner; of_name = c.names_are_apart.ensures.of_name; blank = c.what_was_not_made_is_blank.ensures.servers; lost_later = lost_later c.moves_leave.ensures.servers })
    w world h (c.moves_execute_once.ensures.once w h.reached) (all_named w h.reached) served

pub returns-clause-schedule : goal.returns-clause-schedule
returns-clause-schedule g c = λ lock ring setting draw events seals sizes so sound bytes fresh.
    let h : HasMoves (run_of setting draw events) = c.worlds_are_moves.ensures.schedule lock ring setting draw events seals sizes so sound bytes fresh in
    once_here setting
    (record { one_owner = c.names_are_apart.ensures.one_owner; of_name = c.names_are_apart.ensures.of_name; blank = c.what_was_not_made_is_blank.ensures.servers; lost_later = lost_later c.moves_leave.ensures.servers })
    h.0 (run_of setting draw events) h.1 (c.moves_execute_once.ensures.once h.0 h.1.reached) (all_named h.0 h.1.reached) (c.starts_are_served.ensures.all setting draw events)

pub returns-clause-any : goal.returns-clause-any
returns-clause-any g c = λ lock ring setting draw events seals sizes so sound bytes chance fresh.
    let h : HasMoves (run_of_any setting draw events) = c.worlds_are_moves.ensures.any lock ring setting draw events seals sizes so sound bytes chance fresh in
    once_here setting
    (record { one_owner = c.names_are_apart.ensures.one_owner; of_name = c.names_are_apart.ensures.of_name; blank = c.what_was_not_made_is_blank.ensures.servers; lost_later = lost_later c.moves_leave.ensures.servers })
    h.0 (run_of_any setting draw events) h.1 (c.moves_execute_once.ensures.once h.0 h.1.reached) (all_named h.0 h.1.reached) (c.starts_are_served.ensures.any setting draw events)
