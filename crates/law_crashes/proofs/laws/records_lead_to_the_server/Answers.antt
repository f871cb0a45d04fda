use Rattle.std.proofs.Common.{ℕ, List}
use Rattle.auth_keys.specs.declared.ring.RingKey.{RingKey}
use Rattle.envelope.specs.declared.parts.Dir.TheVariants.{Up}
use Rattle.envelope.specs.Packet.{Lock}
use Rattle.sess_journal.specs.Replay.{Basis, always}
use Rattle.world_rules.specs.Setting.{Setting}
use Rattle.world_rules.specs.Premises.{IsSealed}
use Rattle.law_crashes.specs.Reached.{SeesRing, basis_of}
use Rattle.law_crashes.proofs.Traces.{Facts}
use Rattle.law_crashes.proofs.TracedSteps.{opened_behind, reached_by_all}
use Rattle.law_crashes.proofs.Worlds.{Growing}
use Rattle.law_crashes.proofs.laws.records_lead_to_the_server.Goals as goal

module _ (g : Rattle.law_crashes.proofs.laws.records_lead_to_the_server.Given.Over) (c : goal.After-worlds_keep_what_holds g) where
  growing : Growing g.row.D.Denot g.row.V.Denot
  growing = record {
    words = c.worlds_only_grow.ensures.words;
    words_attached = c.worlds_only_grow.ensures.words_attached;
    words_step = c.worlds_keep_what_holds.ensures.words;
    served = c.starts_are_served.ensures.event;
    served_attached = c.starts_are_served.ensures.attach;
    served_step = c.worlds_keep_what_holds.ensures.served;
  }

  abbrev basis : Lock → List RingKey → List ℕ → Basis g.row.D.Denot
  basis lock ring seed = basis_of lock ring g.D.Draw.step (g.D.Seeded.standing_at seed) g.D.Seeded.place_of

  facts : (lock : Lock) (ring : List RingKey) (seed : List ℕ) (setting : Setting g.row.D.Denot g.row.V.Denot) → IsSealed lock ring setting → SeesRing g.D.Draw.step ring setting
      → Facts (basis lock ring seed) setting
  facts lock ring seed setting so sees = record {
    sees = sees;
    opens = λ now packet envelope. so.opens now Up packet envelope;
    at_place = g.met.D.Seeded.places seed;
    goes = c.seeded_draws_go_on.ensures.after seed;
    whole = c.records_lead_to_one_server.ensures.whole (basis lock ring seed);
    packet_draws = c.events_draw_words.ensures.packet;
    tick_draws = c.events_draw_words.ensures.tick;
    attach_draws = c.events_draw_words.ensures.attach;
    reply_draws = λ s place reply server draw. c.events_draw_words.ensures.work s place always reply server draw;
    quiet_tick = c.quiet_events_change_nothing.ensures.tick;
    quiet_attach = c.quiet_events_change_nothing.ensures.attach;
    packet_room = c.events_leave_room.ensures.packet;
    tick_room = c.events_leave_room.ensures.tick;
    attach_room = c.events_leave_room.ensures.attach;
    reply_room = λ s place reply server draw. c.events_leave_room.ensures.work s place always reply server draw;
  }

pub returns-clause-all : goal.returns-clause-all
returns-clause-all g c = λ lock ring seed setting steps so sees.
    reached_by_all (basis g c lock ring seed) setting (facts g c lock ring seed setting so sees) (growing g c) steps
    (c.starts_are_served.ensures.begins setting (g.D.Seeded.standing_at seed 0))

pub returns-clause-opened : goal.returns-clause-opened
returns-clause-opened g c = λ lock ring seed setting steps call left now so sees.
    opened_behind (basis g c lock ring seed) setting (facts g c lock ring seed setting so sees) (growing g c) steps call left now
    (c.starts_are_served.ensures.begins setting (g.D.Seeded.standing_at seed 0))
