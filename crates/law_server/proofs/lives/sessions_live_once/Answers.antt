use Rattle.std.proofs.Common.{List, [], arith}
use Rattle.std.proofs.lemmas.List.Elements.{All-nil}
use Rattle.regs_service.specs.Served.{Step}
use Rattle.server_rules.specs.Event.{Setting}
use Rattle.server_rules.specs.Events.{Event, begun_course}
use Rattle.law_server.specs.Lives.{Life, told_of}
use Rattle.law_server.specs.Finality.{AreLived, AreApart}
use Rattle.law_server.proofs.LivedEvents.{IsEven}
use Rattle.law_server.proofs.Living.{Laws, AreLives, IsRecorded, told-lives}
use Rattle.law_server.proofs.LivedNames.{none-some}
use Rattle.law_server.proofs.Lived.{told-lived, jobs-lived}
use Rattle.law_server.proofs.lives.sessions_live_once.Goals as goal

module _ (g : Rattle.law_server.proofs.lives.sessions_live_once.Given.Over) (c : goal.After-sessions_speak_for_themselves g) where
  laws : (setting : Setting g.row.D.Denot) (serve : Step g.row.V.Denot) (service : g.row.V.Denot) → Laws g.row.D.Denot g.row.V.Denot setting serve service
  laws setting serve service = record {
    speech = record {
      own = c.sessions_speak.ensures.own;
      others = c.sessions_speak.ensures.others;
      owes = c.sessions_speak_for_themselves.ensures.owes;
      attaches = c.sessions_speak_for_themselves.ensures.attaches;
      gives_up = c.sessions_speak_for_themselves.ensures.gives_up;
      finishes = c.sessions_speak_for_themselves.ensures.finishes;
    };
    once = λ way session message jobs order. (c.packets_are_judged.ensures.opened way session message jobs order).order.judged;
    ordered = c.servers_stay_in_order.ensures.event setting serve service;
  }

  lives : (setting : Setting g.row.D.Denot) (serve : Step g.row.V.Denot) (service : g.row.V.Denot) (draw : g.row.D.Denot) (events : List Event)
      → AreLives g.row.D.Denot g.row.V.Denot (told_of setting serve service draw events)
  lives setting serve service draw events =
      told-lives setting serve service (laws setting serve service) events (record { course = begun_course service draw; lives = [] }) (record {
        ordered = c.servers_stay_in_order.ensures.fresh;
        lives = All-nil (λ (life : Life). IsEven (begun_course service draw).server life × IsRecorded life);
      })

  lived : (setting : Setting g.row.D.Denot) (serve : Step g.row.V.Denot) (service : g.row.V.Denot) (draw : g.row.D.Denot) (events : List Event)
      → AreLived (told_of setting serve service draw events).course.server.sessions (told_of setting serve service draw events).lives
      × AreApart (told_of setting serve service draw events).lives
  lived setting serve service draw events =
      told-lived setting serve service (laws setting serve service) events (record { course = begun_course service draw; lives = [] })
      (record {
        ordered = c.servers_stay_in_order.ensures.fresh;
        lives = All-nil (λ (life : Life). IsEven (begun_course service draw).server life × IsRecorded life);
      })
      (λ name session is. absurd (none-some session is))
      (λ i j k lt within. absurd (omega arith))

pub returns-clause-lived : goal.returns-clause-lived
returns-clause-lived g c = λ setting serve service draw events. (lived g c setting serve service draw events).0

pub returns-clause-apart : goal.returns-clause-apart
returns-clause-apart g c = λ setting serve service draw events. (lived g c setting serve service draw events).1

pub returns-clause-jobs : goal.returns-clause-jobs
returns-clause-jobs g c = λ setting serve service draw events.
    let told = told_of setting serve service draw events in
    let are = lives g c setting serve service draw events in
    jobs-lived told.course.server told.lives are.ordered (lived g c setting serve service draw events).0 are.lives
