use Rattle.std.proofs.Common.{[]}
use Rattle.std.proofs.lemmas.List.Elements.{All-nil}
use Rattle.regs_service.specs.Served.{Step}
use Rattle.server_rules.specs.Event.{Setting}
use Rattle.server_rules.specs.Events.{begun_course}
use Rattle.law_server.specs.Lives.{Life, Told}
use Rattle.law_server.specs.Announced.{IsAnnounced}
use Rattle.law_server.proofs.LivedEvents.{IsEven}
use Rattle.law_server.proofs.Living.{Laws, IsRecorded}
use Rattle.law_server.proofs.Onward.{Floors}
use Rattle.law_server.proofs.Announced.{Quiet, told-announced}
use Rattle.law_server.proofs.lives.new_sessions_always_begin.Goals as goal

module _ (g : Rattle.law_server.proofs.lives.new_sessions_always_begin.Given.Over) (c : goal.After-new_sessions_say_so g) where
  laws : (setting : Setting g.row.D.Denot) (serve : Step g.row.V.Denot) (service : g.row.V.Denot) → Laws g.row.D.Denot g.row.V.Denot setting serve service
  laws setting serve service = record {
    speech = record {
      own = c.sessions_speak.ensures.own;
      others = c.sessions_speak.ensures.others;
      owes = c.sessions_speak_for_themselves.ensures.owes;
      attaches = c.sessions_speak_for_themselves.ensures.attaches;
      gives_up = c.sessions_speak_for_themselves.ensures.gives_up;
      finishes = c.sessions_speak_for_themselves.ensures.finishes;
    };
    once = λ way session message jobs order. (c.packets_are_judged.ensures.opened way session message jobs order).order.judged;
    ordered = c.servers_stay_in_order.ensures.event setting serve service;
  }

pub returns : goal.returns
returns g c = λ setting serve service draw events.
    let floors : Floors = record { dropped = c.floors_never_fall.ensures.dropped; added = c.floors_never_fall.ensures.added } in
    let quiet : Quiet = record { replies = c.new_sessions_say_so.ensures.replies; jobs = c.new_sessions_say_so.ensures.jobs } in
    let begun : Told g.row.D.Denot g.row.V.Denot = record { course = begun_course service draw; lives = [] } in
    told-announced setting serve service (laws g c setting serve service) quiet floors events begun
    (record {
      ordered = c.servers_stay_in_order.ensures.fresh;
      lives = All-nil (λ (life : Life). IsEven (begun_course service draw).server life × IsRecorded life);
    })
    (All-nil IsAnnounced)
