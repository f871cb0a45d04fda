-- The present session of a client at the server, and foreign bytes.
use Rattle.std.proofs.Common.{◌≡◌, ◌∙◌, ℕ, Bool, true, false, List, Option, Some, None, ap, sym, subst, refl}
use Rattle.std.specs.Prelude.{is_some, not}
use Rattle.envelope.specs.declared.parts.Dir.TheVariants.{Up}
use Rattle.sched_text.specs.declared.event.Event.TheVariants as line
use Rattle.client_rules.specs.Client.{Client}
use Rattle.client_core.specs.Holding.{kept_of}
use Rattle.client_core.specs.Kept.{Stands as ClientStands}
use Rattle.client_core.specs.declared.holder.Holder.{Holder}
use Rattle.sim_clients.specs.Told.{IsClientOf}
use Rattle.server_rules.specs.Server.{Name}
use Rattle.server_rules.specs.Events.{Event}
use Rattle.world_rules.specs.Ends.{seated, serves, with_seat}
use Rattle.world_rules.specs.Refusals.{ForeignOpens, at_client, nothing_more, refusal, unless}
use Rattle.world_rules.specs.Run.{present_name}
use Rattle.world_rules.specs.Setting.{Setting}
use Rattle.world_rules.specs.World.{Seat, World as Rules, counted, server_now}
use Rattle.sim_world.specs.Worlds.{Stands, World}

abbrev pub named : ℕ → ℕ → Name
named key session = record { key = key; session = session }

-- the client is there, and this is its present session
pub record IsPresent (found : Option Seat) (key session : ℕ) : Type 0 where
  pub seat : Seat
  pub there : found ≡ Some seat
  pub name : named key session ≡ present_name seat

pub is-present : (holder : Holder) (found : Option Seat) (key session : ℕ) → IsClientOf holder found
    → ((client : Client) → ClientStands (kept_of holder) client → key ≡ client.key)
    → ((client : Client) → ClientStands (kept_of holder) client → session ≡ client.session) → IsPresent found key session
is-present holder None key session is key_is session_is = absurd is
is-present holder (Some seat) key session is key_is session_is =
    record {
      seat = seat;
      there = refl;
      name = ap (λ (n : ℕ). named n session) (key_is seat.client is) ∙ ap (λ (n : ℕ). named seat.client.key n) (session_is seat.client is);
    }

-- it isn't refused
pub present-free : (found : Option Seat) (key session : ℕ) → IsPresent found key session → at_client found nothing_more ≡ None
present-free found key session present = ap (λ (one : Option Seat). at_client one nothing_more) present.there

-- what an event of that session does
pub at-present : {S V D : Type 0} (setting : Setting D V) (event : Name → Event) (kept : World S V D) (world : Rules D V) (number key session : ℕ)
    → IsPresent (counted number world.seats) key session → Stands setting kept (serves setting (event (named key session)) world)
    → Stands setting kept (with_seat number (λ seat. serves setting (event (present_name seat))) world)
at-present setting event kept world number key session present stands =
    subst (λ (found : Option Seat). Stands setting kept (seated found (λ seat. serves setting (event (present_name seat))) world)) (sym present.there)
    (subst (λ (name : Name). Stands setting kept (serves setting (event name) world)) present.name stands)

-- foreign bytes are refused exactly where they open
pub foreign-opens : {D V : Type 0} (setting : Setting D V) (world : Rules D V) (bytes : List ℕ)
    → true ≡ is_some (setting.opens (server_now world) Up bytes) → refusal setting world (line.ForeignServer bytes) ≡ Some ForeignOpens
foreign-opens setting world bytes is = ap (λ (opens : Bool). unless (not opens) ForeignOpens) (sym is)

pub foreign-free : {D V : Type 0} (setting : Setting D V) (world : Rules D V) (bytes : List ℕ)
    → false ≡ is_some (setting.opens (server_now world) Up bytes) → refusal setting world (line.ForeignServer bytes) ≡ None
foreign-free setting world bytes is = ap (λ (opens : Bool). unless (not opens) ForeignOpens) (sym is)
