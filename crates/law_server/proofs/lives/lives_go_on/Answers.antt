use Rattle.std.proofs.Common.{List, [], sym, subst}
use Rattle.std.proofs.lemmas.List.Elements.{All-nil}
use Rattle.regs_service.specs.Served.{Step}
use Rattle.server_rules.specs.Event.{Setting}
use Rattle.server_rules.specs.Events.{Event, begun_course}
use Rattle.law_server.specs.Lives.{Life, Told, told_of}
use Rattle.law_server.specs.Courses.{GoOn}
use Rattle.law_server.proofs.LivedEvents.{IsEven}
use Rattle.law_server.proofs.Living.{Laws, AreLives, IsRecorded, told-lives}
use Rattle.law_server.proofs.Onward.{Floors, events-go, told-append}
use Rattle.law_server.proofs.lives.lives_go_on.Goals as goal

module _ (g : Rattle.law_server.proofs.lives.lives_go_on.Given.Over) (c : goal.After-floors_never_fall g) where
  laws : (setting : Setting g.row.D.Denot) (serve : Step g.row.V.Denot) (service : g.row.V.Denot) → Laws g.row.D.Denot g.row.V.Denot setting serve service
  laws setting serve service = record {
    speech = record {
      own = c.sessions_speak.ensures.own;
      others = c.sessions_speak.ensures.others;
      owes = c.sessions_speak_for_themselves.ensures.owes;
      attaches = c.sessions_speak_for_themselves.ensures.attaches;
      gives_up = c.sessions_speak_for_themselves.ensures.gives_up;
      finishes = c.sessions_speak_for_themselves.ensures.finishes;
    };
    once = λ way session message jobs order. (c.packets_are_judged.ensures.opened way session message jobs order).order.judged;
    ordered = c.servers_stay_in_order.ensures.event setting serve service;
  }

  lives : (setting : Setting g.row.D.Denot) (serve : Step g.row.V.Denot) (service : g.row.V.Denot) (draw : g.row.D.Denot) (events : List Event)
      → AreLives g.row.D.Denot g.row.V.Denot (told_of setting serve service draw events)
  lives setting serve service draw events =
      told-lives setting serve service (laws setting serve service) events (record { course = begun_course service draw; lives = [] }) (record {
        ordered = c.servers_stay_in_order.ensures.fresh;
        lives = All-nil (λ (life : Life). IsEven (begun_course service draw).server life × IsRecorded life);
      })

pub returns : goal.returns
returns g c = λ setting serve service draw events more.
    let floors : Floors = record { dropped = c.floors_never_fall.ensures.dropped; added = c.floors_never_fall.ensures.added } in
    let first = told_of setting serve service draw events in
    let begun : Told g.row.D.Denot g.row.V.Denot = record { course = begun_course service draw; lives = [] } in
    let P : Told g.row.D.Denot g.row.V.Denot → Type 0 = λ told. GoOn first.lives told.lives in
    subst P (sym (told-append setting serve service begun events more))
    (events-go floors setting serve service (laws g c setting serve service) first more (lives g c setting serve service draw events))
