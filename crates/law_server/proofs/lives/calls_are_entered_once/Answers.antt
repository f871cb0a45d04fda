use Rattle.std.proofs.Common.{List, []}
use Rattle.std.proofs.lemmas.List.Elements.{All-nil, All-weaker}
use Rattle.regs_service.specs.Served.{Step}
use Rattle.server_rules.specs.Event.{Setting}
use Rattle.server_rules.specs.Events.{Event, begun_course}
use Rattle.law_server.specs.Lives.{Life, told_of}
use Rattle.law_server.specs.Finality.{IsFinal, IsStanding}
use Rattle.law_server.proofs.LivedEvents.{IsEven}
use Rattle.law_server.proofs.Living.{Laws, AreLives, IsRecorded, told-lives}
use Rattle.law_server.proofs.Final.{is-final, is-standing}
use Rattle.law_server.proofs.lives.calls_are_entered_once.Goals as goal

module _ (g : Rattle.law_server.proofs.lives.calls_are_entered_once.Given.Over) (c : goal.After-sessions_speak_for_themselves g) where
  lives : (setting : Setting g.row.D.Denot) (serve : Step g.row.V.Denot) (service : g.row.V.Denot) (draw : g.row.D.Denot) (events : List Event)
      → AreLives g.row.D.Denot g.row.V.Denot (told_of setting serve service draw events)
  lives setting serve service draw events =
      let laws : Laws g.row.D.Denot g.row.V.Denot setting serve service = record {
        speech = record {
          own = c.sessions_speak.ensures.own;
          others = c.sessions_speak.ensures.others;
          owes = c.sessions_speak_for_themselves.ensures.owes;
          attaches = c.sessions_speak_for_themselves.ensures.attaches;
          gives_up = c.sessions_speak_for_themselves.ensures.gives_up;
          finishes = c.sessions_speak_for_themselves.ensures.finishes;
        };
        once = λ way session message jobs order. (c.packets_are_judged.ensures.opened way session message jobs order).order.judged;
        ordered = c.servers_stay_in_order.ensures.event setting serve service;
      } in
      told-lives setting serve service laws events (record { course = begun_course service draw; lives = [] }) (record {
        ordered = c.servers_stay_in_order.ensures.fresh;
        lives = All-nil (λ (life : Life). IsEven (begun_course service draw).server life × IsRecorded life);
      })

pub returns-clause-standing : goal.returns-clause-standing
returns-clause-standing g c = λ setting serve service draw events.
    let told = told_of setting serve service draw events in
    let server = told.course.server in
    All-weaker (λ (life : Life). IsEven server life × IsRecorded life) (IsStanding server.sessions) (λ life is. is-standing server life is.0) told.lives
    (lives g c setting serve service draw events).lives

pub returns-clause-final_ : goal.returns-clause-final_
returns-clause-final_ g c = λ setting serve service draw events.
    let told = told_of setting serve service draw events in
    let server = told.course.server in
    All-weaker (λ (life : Life). IsEven server life × IsRecorded life) (IsFinal server.jobs) (λ life is. is-final server life is.0 is.1) told.lives
    (lives g c setting serve service draw events).lives
