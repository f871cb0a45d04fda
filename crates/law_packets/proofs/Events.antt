-- Each event of a schedule leaves a world steady, and so do all.
use Rattle.std.proofs.Common.{ℕ, ◌≤◌, zero, suc, Bool, Some, None, List, [], ◌∷◌, fold, arith}
use Rattle.std.specs.Prelude.{is_some, option_map}
use Rattle.std.specs.List.{All}
use Rattle.std.proofs.lemmas.Bool.{cond_both}
use Rattle.std.proofs.lemmas.List.Elements.{All-head, All-nil, All-tail}
use Rattle.auth_keys.specs.declared.ring.RingKey.{RingKey}
use Rattle.envelope.specs.Packet.{Lock}
use Rattle.msg_ids.specs.Counters.{room}
use Rattle.outbox.specs.Replies.{IsWithin}
use Rattle.sched_text.specs.declared.event.Event.{Event}
use Rattle.sched_text.specs.declared.event.Event.TheVariants as line
use Rattle.server_rules.specs.Server.{fresh_server, kept_replies}
use Rattle.server_rules.specs.Events.{Attach, Loss, Restart, Tick}
use Rattle.client_rules.specs.Client.{temporary_of}
use Rattle.client_rules.specs.Events as wishes
use Rattle.law_packets.specs.Steady as own
use Rattle.law_server_bounds.specs.Steady as kept
use Rattle.world_rules.specs.Ends.{acts, comes_down, flushes, serves}
use Rattle.world_rules.specs.Premises.{IsOfBytes}
use Rattle.world_rules.specs.Refusals.{call_numbered, refusal}
use Rattle.world_rules.specs.Run.{after, is_in_the_way, present_name, set, step, step_any, wishes_so, works}
use Rattle.world_rules.specs.Setting.{Setting}
use Rattle.world_rules.specs.World.{Seat, World, begins, counted}
use Rattle.law_packets.specs.Lawful.{IsSteady, is_held}
use Rattle.law_packets.proofs.Below.{Laws, Premises}
use Rattle.law_packets.proofs.Lists.{rec-changed, rec-map}
use Rattle.law_packets.proofs.Serving.{served-steady, up-steady, work-steady}
use Rattle.law_packets.proofs.Acting.{acts-steady, arrives-steady, down-steady, flushes-steady, joins-steady, with-seat}

-- ---- the beginning

fresh-steady : (known : ℕ → Bool) → kept.IsSteady known fresh_server
fresh-steady known =
    record {
      now = omega arith;
      kept = record { sessions = tt; jobs = tt };
      room = All-nil (λ session. 16384 ≤ room session.counters);
      replies = All-nil (λ session. IsWithin (kept_replies session.replies));
      jobs = λ key session. (omega arith, omega arith);
      keys = tt;
    }

pub begins-steady : {S V : Type 0} (lock : Lock) (ring : List RingKey) (setting : Setting S V) (draw : S) → IsSteady lock ring setting (begins setting draw)
begins-steady lock ring setting draw = record { seats = tt; server = fresh-steady (is_held ring); bag = tt }

-- ---- one event

module _ {S V : Type 0} (laws : Laws S V) (lock : Lock) (ring : List RingKey) (setting : Setting S V) (premises : Premises lock ring setting) where
  abbrev Is : World S V → Type 0
  Is world = IsSteady lock ring setting world

  wish : (client : ℕ) (event : wishes.Event) (world : World S V) → own.IsFair event → Is world → Is (wishes_so setting client event world)
  wish client event world fair s =
      with-seat laws lock ring setting premises client (λ seat. acts setting client seat event) world
      (λ seat is. acts-steady laws lock ring setting premises client seat event world fair is s) s

  working : (place : ℕ) (world : World S V) → Is world → Is (works setting place world)
  working zero world s = s
  working (suc place) world s = work-steady laws lock ring setting premises place world s

  pub after-steady : (world : World S V) (event : Event) → IsOfBytes event → Is world → Is (after setting world event)
  after-steady world line.Client bytes s = joins-steady laws lock ring setting premises setting.keys.permanent None world premises.sound.permanent tt s
  after-steady world line.ClientTemp bytes s =
      joins-steady laws lock ring setting premises setting.keys.temporary (Some (temporary_of setting.keys.permanent setting.keys.expires)) world premises.sound.temporary tt s
  after-steady world (line.ClockAll at) bytes s =
      let IsSeat : Seat → Type 0 = λ seat. own.IsSteady (is_held ring) seat.client in
      record { seats = rec-map IsSeat IsSeat (set at) world.seats (λ seat is. is) s.seats; server = s.server; bag = s.bag }
  after-steady world (line.ClockServer at) bytes s = record { seats = s.seats; server = s.server; bag = s.bag }
  after-steady world (line.ClockClient client at) bytes s =
      let IsSeat : Seat → Type 0 = λ seat. own.IsSteady (is_held ring) seat.client in
      record { seats = rec-changed IsSeat client (set at) world.seats (λ seat is. is) s.seats; server = s.server; bag = s.bag }
  after-steady world (line.Call client body earlier) bytes s = wish client (wishes.Submit body (option_map call_numbered earlier)) world bytes s
  after-steady world (line.Flush client) bytes s =
      with-seat laws lock ring setting premises client (flushes setting client) world (λ seat is. flushes-steady laws lock ring setting premises client seat world is s) s
  after-steady world (line.Give packet) bytes s = arrives-steady laws lock ring setting premises (counted packet world.bag) world s
  after-steady world (line.ForeignServer text) bytes s = up-steady laws lock ring setting premises text world s
  after-steady world (line.ForeignClient client text) bytes s =
      with-seat laws lock ring setting premises client (comes_down setting client text) world (λ seat is. down-steady laws lock ring setting premises client text seat world is s) s
  after-steady world (line.Work job) bytes s = working job world s
  after-steady world line.TickServer bytes s = served-steady laws lock ring setting premises (Tick world.clock) world tt s
  after-steady world (line.TickClient client) bytes s = wish client wishes.Tick world tt s
  after-steady world (line.AttachServer client) bytes s =
      with-seat laws lock ring setting premises client (λ seat. serves setting (Attach world.clock (present_name seat))) world
      (λ seat is. served-steady laws lock ring setting premises (Attach world.clock (present_name seat)) world tt s) s
  after-steady world (line.AttachClient client) bytes s = wish client wishes.Attach world tt s
  after-steady world (line.Ping client) bytes s = wish client (wishes.Ping 1) world tt s
  after-steady world (line.Salts client count) bytes s = wish client (wishes.AskSalts count) world tt s
  after-steady world (line.DropAnswer client call) bytes s = wish client (wishes.Drop (call_numbered call)) world tt s
  after-steady world (line.Renew client) bytes s = wish client wishes.Renew world tt s
  after-steady world (line.End client) bytes s = wish client wishes.End world tt s
  after-steady world (line.Lose client) bytes s =
      with-seat laws lock ring setting premises client (λ seat. serves setting (Loss (present_name seat))) world
      (λ seat is. served-steady laws lock ring setting premises (Loss (present_name seat)) world tt s) s
  after-steady world line.Restart bytes s =
      let again = served-steady laws lock ring setting premises Restart world tt s in
      record { seats = again.seats; server = again.server; bag = again.bag }

  -- ---- all events

  step-steady : (world : World S V) (event : Event) → IsOfBytes event → Is world → Is (step setting world event)
  step-steady world event bytes s = cond_both (is_some (refusal setting world event)) world (after setting world event) Is (λ is. s) (λ is. after-steady world event bytes s)

  any-steady : (world : World S V) (event : Event) → IsOfBytes event → Is world → Is (step_any setting world event)
  any-steady world event bytes s = cond_both (is_in_the_way (refusal setting world event)) world (after setting world event) Is (λ is. s) (λ is. after-steady world event bytes s)

  pub all-steady : (events : List Event) (world : World S V) → All IsOfBytes events → Is world → Is (fold (step setting) world events)
  all-steady [] world all s = s
  all-steady (event ∷ events) world all s =
      all-steady events (step setting world event) (All-tail IsOfBytes event events all) (step-steady world event (All-head IsOfBytes event events all) s)

  pub all-any : (events : List Event) (world : World S V) → All IsOfBytes events → Is world → Is (fold (step_any setting) world events)
  all-any [] world all s = s
  all-any (event ∷ events) world all s =
      all-any events (step_any setting world event) (All-tail IsOfBytes event events all) (any-steady world event (All-head IsOfBytes event events all) s)
