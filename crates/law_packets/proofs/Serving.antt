-- An event of the server leaves a world steady.
use Rattle.std.proofs.Common.{◌≡◌, ℕ, Option, Some, None, List, refl}
use Rattle.std.specs.Prelude.{option_map, map}
use Rattle.auth_keys.specs.declared.ring.RingKey.{RingKey}
use Rattle.envelope.specs.declared.parts.Dir.TheVariants.{Down, Up}
use Rattle.envelope.specs.declared.parts.Envelope.{Envelope}
use Rattle.envelope.specs.Packet.{Lock}
use Rattle.server_rules.specs.Event.{Sent}
use Rattle.server_rules.specs.Events.{Event, Packet as Comes, Work, after_event}
use Rattle.law_server_bounds.specs.Steady as kept
use Rattle.world_rules.specs.Ends.{comes_up, course_in, sent_down, serves}
use Rattle.world_rules.specs.Setting.{Setting, as_heard, as_sealed, at_server}
use Rattle.world_rules.specs.World.{World, server_now}
use Rattle.law_packets.specs.Lawful.{IsSealedPacket, IsSteady, is_held}
use Rattle.law_packets.proofs.Below.{Laws, Premises, is-sealed, opened-is}
use Rattle.law_packets.proofs.Lists.{rec-append, rec-map}

module _ {S V : Type 0} (laws : Laws S V) (lock : Lock) (ring : List RingKey) (setting : Setting S V) (premises : Premises lock ring setting) where
  down-sealed : (sent : Sent) → kept.IsSealable (is_held ring) sent → IsSealedPacket lock ring setting (sent_down sent)
  down-sealed sent one =
      let whole = one.whole in
      is-sealed laws lock ring setting premises Down (as_sealed sent.envelope) sent.padding one.key
      (record { key = whole.key; salt = whole.salt; session = whole.session; number = one.number; seq = one.seq; bytes = whole.bytes; words = whole.words })
      whole.short one.padded

  pub served-steady : (event : Event) (world : World S V) → kept.IsFair (is_held ring) setting.serve (course_in world) event → IsSteady lock ring setting world
      → IsSteady lock ring setting (serves setting event world)
  served-steady event world fair s =
      let known = is_held ring in
      let course = course_in world in
      let done = after_event (at_server setting) setting.serve setting.fresh course event in
      let packets = laws.packets known (at_server setting) setting.serve setting.fresh course event premises.sound.words fair s.server tt in
      record {
        seats = s.seats;
        server = laws.steady known (at_server setting) setting.serve setting.fresh course event premises.sound.words fair s.server;
        bag = rec-append (IsSealedPacket lock ring setting) world.bag (map sent_down done.packets) s.bag
            (rec-map (kept.IsSealable known) (IsSealedPacket lock ring setting) sent_down done.packets down-sealed packets);
      }

  heard-fair : (found : Option Envelope) (bytes : List ℕ) (world : World S V) → setting.opens (server_now world) Up bytes ≡ found
      → kept.IsFair (is_held ring) setting.serve (course_in world) (Comes world.clock (option_map as_heard found))
  heard-fair None bytes world is = tt
  heard-fair (Some envelope) bytes world is =
      let opened = opened-is laws lock ring setting premises (server_now world) Up bytes envelope is in
      let lawful = opened.lawful in
      (record { key = lawful.key; session = lawful.session; number = lawful.number; bytes = lawful.bytes }, opened.held)

  pub up-steady : (bytes : List ℕ) (world : World S V) → IsSteady lock ring setting world → IsSteady lock ring setting (comes_up setting bytes world)
  up-steady bytes world s =
      served-steady (Comes world.clock (option_map as_heard (setting.opens (server_now world) Up bytes))) world
      (heard-fair (setting.opens (server_now world) Up bytes) bytes world refl) s

  pub work-steady : (place : ℕ) (world : World S V) → IsSteady lock ring setting world → IsSteady lock ring setting (serves setting (Work world.clock place) world)
  work-steady place world s = served-steady (Work world.clock place) world (λ job is. premises.sound.replies world.service job.request) s
