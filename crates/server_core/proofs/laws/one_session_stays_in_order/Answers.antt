use Rattle.server_core.proofs.Ordered.{KeepsOrder, heard-order, opened-order, settled-order}
use Rattle.server_core.proofs.laws.one_session_stays_in_order.Goals as goal

pub returns-clause-heard : goal.returns-clause-heard
returns-clause-heard g c = λ setting envelope server draw ordered. heard-order setting envelope server draw ordered

pub returns-clause-opens : goal.returns-clause-opens
returns-clause-opens g c = λ setting history judged name opened speaker is midway.
    let D : Type 0 = g.row.D.Denot in
    let speech = c.speech_keeps_order.ensures in
    let rows = c.rows_keep_order.ensures in
    let keeps : KeepsOrder D = record {
      says = speech.says;
      notices = speech.notices;
      again = speech.came_again;
      left = speech.left;
      tells = speech.tells;
      accepts = rows.accepts;
      new = speech.new;
      acknowledges = speech.acknowledges;
      gives = rows.gives_up;
      takes = c.taken_jobs_are_open.ensures.first;
    } in
    opened-order keeps setting history judged name opened speaker is midway

pub returns-clause-settles : goal.returns-clause-settles
returns-clause-settles g c = λ setting name others past judgement judged body among alone told order.
    let D : Type 0 = g.row.D.Denot in
    let speech = c.speech_keeps_order.ensures in
    let rows = c.rows_keep_order.ensures in
    let keeps : KeepsOrder D = record {
      says = speech.says;
      notices = speech.notices;
      again = speech.came_again;
      left = speech.left;
      tells = speech.tells;
      accepts = rows.accepts;
      new = speech.new;
      acknowledges = speech.acknowledges;
      gives = rows.gives_up;
      takes = c.taken_jobs_are_open.ensures.first;
    } in
    settled-order keeps c.sessions_speak_for_themselves.ensures.owes setting name others past judgement judged body among alone told order
