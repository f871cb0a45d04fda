use Rattle.std.specs.Prelude.{ℕ, Bool}
use Rattle.regs_service.specs.Served.{Step}
use Rattle.server_rules.specs.Event.{Setting}
use Rattle.server_rules.specs.Events.{Course, Event, after_event}
use Rattle.law_server_bounds.specs.Small.{DrawsWords}
use Rattle.law_server_bounds.specs.Steady.{IsFair, IsSteady}
use Rattle.law_server_bounds.proofs.Ending.{Laws}
use Rattle.law_server_bounds.proofs.Events.{Below, Goes, event-goes, event-sealable, event-steady}
use Rattle.law_server_bounds.proofs.laws.packets_may_be_sealed.Goals as goal

module _ (g : Rattle.law_server_bounds.proofs.laws.packets_may_be_sealed.Given.Over) (c : goal.After-packets_are_whole g) where
  abbrev D : Type 0
  D = g.row.D.Denot

  abbrev V : Type 0
  V = g.row.V.Denot

  laws : Laws D
  laws = record {
    speak = record { own = c.sessions_speak.ensures.own; others = c.sessions_speak.ensures.others };
    falls = c.room_lasts.ensures.falls_by_one;
    has = c.room_lasts.ensures.has_next;
    have = c.packets_have_all_messages.ensures.all;
    packets = c.packets_have_all_messages.ensures.packets;
    padded = c.drawn_padding_is_lawful.ensures;
  }

  below : (setting : Setting D) (service : V) (course : Course D V) (event : Event) → DrawsWords setting → Below setting service course event
  below setting service course event draws = record {
    sizes = λ told replies small kept. c.sizes_stay_small.ensures.event setting told service course event draws replies small kept;
    whole = λ told replies small kept whole. c.packets_are_whole.ensures.event setting told service course event draws replies small kept whole;
    room = λ told all. c.sessions_have_room.ensures.event setting told service course event all;
    replies = λ told short all. c.replies_are_few.ensures.event setting told service course event short all;
    jobs = λ told within. c.jobs_are_few.ensures.event setting told service course event within;
  }

  goes : (known : ℕ → Bool) (setting : Setting D) (serve : Step V) (service : V) (course : Course D V) (event : Event) → DrawsWords setting → IsFair known serve course event
      → IsSteady known course.server → Goes known course (after_event setting serve service course event)
  goes known setting serve service course event draws fair steady =
      event-goes laws c.parts_are_exact.ensures.only_lawful
      (record {
        packet = c.what_is_owed_is_small.ensures.packet;
        work = c.what_is_owed_is_small.ensures.work;
        tick = c.what_is_owed_is_small.ensures.tick;
        attach = c.what_is_owed_is_small.ensures.attach;
      })
      known setting draws serve service course event fair steady

pub returns-clause-steady : goal.returns-clause-steady
returns-clause-steady g c = λ known setting serve service course event draws fair steady.
    event-steady known setting serve service course event (below g c setting service course event draws) fair steady (goes g c known setting serve service course event draws fair steady)

pub returns-clause-packets : goal.returns-clause-packets
returns-clause-packets g c = λ known setting serve service course event draws fair steady all.
    event-sealable known setting serve service course event (below g c setting service course event draws) fair steady (goes g c known setting serve service course event draws fair steady) all
