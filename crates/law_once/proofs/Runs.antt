-- All events of a schedule, one after the other.
use Rattle.std.proofs.Common.{◌≡◌, ℕ, Bool, false, not, Option, None, Some, List, [], ◌∷◌, fold, if◌then◌else◌, inl, inr, refl, sym, ap, subst, ◌∙◌}
use Rattle.std.specs.Prelude.{◌⊎◌, is_some}
use Rattle.std.proofs.lemmas.Bool.{cases_Bool}
use Rattle.auth_keys.specs.declared.ring.RingKey.{RingKey}
use Rattle.envelope.specs.declared.parts.Dir.TheVariants.{Up, Down}
use Rattle.envelope.specs.declared.parts.Envelope.{Envelope}
use Rattle.envelope.specs.Lawful.{OpensWhatItSealed}
use Rattle.envelope.specs.Packet.{Lock}
use Rattle.sched_text.specs.declared.event.Event.{Event}
use Rattle.sched_text.specs.declared.event.Event.TheVariants as line
use Rattle.law_server.specs.Order.{AreOrdered}
use Rattle.law_moves.specs.World.{World as Moved, start}
use Rattle.law_moves.specs.Reached.{after_all}
use Rattle.world_rules.specs.Setting.{Setting}
use Rattle.world_rules.specs.World.{Seat, World, begins, counted, seat_now, server_now}
use Rattle.world_rules.specs.Premises.{Fresh, IsByNoChance, IsSealed, NoChance, OpensOnly, names_drawn}
use Rattle.world_rules.specs.Refusals.{ForeignOpens, NoClient, Refusal, by_client, opened, refusal, unless}
use Rattle.world_rules.specs.Refusals as refusals
use Rattle.world_rules.specs.Run.{after, is_in_the_way, step, step_any}
use Rattle.law_once.specs.Small.{Fits}
use Rattle.law_once.specs.Standing.{HasMoves, MovesOn, WorldStands}
use Rattle.law_packets.specs.Lawful.{AreLawfulPackets, IsSealedPacket}
use Rattle.law_once.proofs.Counting.{fewer_fresh}
use Rattle.law_once.proofs.Growing.{Speaks}
use Rattle.law_once.proofs.Names.{names_stay}
use Rattle.law_once.proofs.Bags.{packets_stay}
use Rattle.law_once.specs.Served.{IsServed}
use Rattle.law_once.proofs.Served.{goes_on as served_on}
use Rattle.law_once.proofs.Events.{Laws, goes_on}

-- ---- it begins

pub begun : {S V : Type 0} (setting : Setting S V) (draw : S) → AreOrdered [] [] → WorldStands start (begins setting draw)
begun setting draw ordered = record {
  reached = ([], tt, refl);
  seats = λ place. record { parts = refl; submitted = refl; calls = λ at. refl };
  server = record {
    standing = tt;
    working = tt;
    gone = tt;
    apart = tt;
    only = λ unique made. absurd (made refl);
    entered = tt;
  };
  ordered = ordered;
  keys = tt;
  bag = tt;
  kept = record { sessions = tt; jobs = tt };
}

-- ---- a schedule refuses foreign bytes that open

not_opened : (found : Option Envelope) (envelope : Envelope) → is_some (unless (not (is_some found)) ForeignOpens) ≡ false → found ≡ Some envelope → ⊥
not_opened None envelope fine is = let e : None ≡ Some envelope = is in absurd (cc)
not_opened (Some other) envelope fine is = absurd (cc)

module _ {S V : Type 0} (setting : Setting S V) (world : World S V) where
  foreign_fine : (client : ℕ) (bytes : List ℕ) (seat : Seat) → counted client world.seats ≡ Some seat → is_some (refusal setting world (line.ForeignClient client bytes)) ≡ false
      → OpensOnly setting world (seat_now seat) Down bytes
  foreign_fine client bytes seat at fine envelope is =
      absurd (not_opened (setting.opens (seat_now seat) Down bytes) envelope
      (sym (ap (λ (found : Option Seat). is_some (refusals.at_client found (opened setting client bytes))) at) ∙ fine) is)

  pub no_chance : (event : Event) → is_some (refusal setting world event) ≡ false → IsByNoChance setting world event
  no_chance (line.ForeignServer bytes) fine = λ envelope is. absurd (not_opened (setting.opens (server_now world) Up bytes) envelope fine is)
  no_chance (line.ForeignClient client bytes) fine = λ seat at. foreign_fine client bytes seat at fine
  no_chance line.Client fine = tt
  no_chance line.ClientTemp fine = tt
  no_chance (line.ClockAll moment) fine = tt
  no_chance (line.ClockServer moment) fine = tt
  no_chance (line.ClockClient client moment) fine = tt
  no_chance (line.Call client body earlier) fine = tt
  no_chance (line.Flush client) fine = tt
  no_chance (line.Give packet) fine = tt
  no_chance (line.Work job) fine = tt
  no_chance line.TickServer fine = tt
  no_chance (line.TickClient client) fine = tt
  no_chance (line.AttachServer client) fine = tt
  no_chance (line.AttachClient client) fine = tt
  no_chance (line.Ping client) fine = tt
  no_chance (line.Salts client count) fine = tt
  no_chance (line.DropAnswer client call) fine = tt
  no_chance (line.Renew client) fine = tt
  no_chance (line.End client) fine = tt
  no_chance (line.Lose client) fine = tt
  no_chance line.Restart fine = tt

-- ---- runs

-- where moves lead on, they lead there
led_on : {S V : Type 0} (w : Moved) (world : World S V) → MovesOn w world → HasMoves world
led_on w world on = (after_all w on.0, on.2)

module _ {S V : Type 0} (laws : Laws S V) (k : Speaks S) (lock : Lock) (ring : List RingKey) (setting : Setting S V) (seals : OpensWhatItSealed lock) (so : IsSealed lock ring setting) (fits : Fits setting) where
  abbrev Keeps : World S V → Type 0
  Keeps world = IsServed setting world

  abbrev SealedIn : World S V → Type 0
  SealedIn world = AreLawfulPackets lock ring setting world

  event_served : (world : World S V) (event : Event) → Keeps world → Keeps (after setting world event)
  event_served world event h = served_on setting (laws.order setting) world event h

  event_fresh : (world : World S V) (event : Event) → Keeps world → Fresh (after setting world event) → Fresh world
  event_fresh world event h fresh =
      let back = fewer_fresh (names_drawn world) (names_drawn (after setting world event)) (names_stay k laws.alone setting world h.ordered.names event) (fresh.some, fresh.apart) in
      record { some = back.0; apart = back.1 }

  event_sealed : (world : World S V) (event : Event) → SealedIn (after setting world event) → SealedIn world
  event_sealed world event h = packets_stay (IsSealedPacket lock ring setting) setting world event h

  -- what a step keeps
  abbrev Steps : (World S V → Event → World S V) → Type 0
  Steps next = (world : World S V) (event : Event) → (next world event ≡ world) ⊎ (next world event ≡ after setting world event)

  module _ (next : World S V → Event → World S V) (steps : Steps next) where
    next_served : (world : World S V) (event : Event) → Keeps world → Keeps (next world event)
    next_served world event h =
        elim (steps world event) [
          | inl same ↦ subst Keeps (sym same) h
          | inr on ↦ subst Keeps (sym on) (event_served world event h)
        ]

    fresh_back : (world : World S V) (events : List Event) → Keeps world → Fresh (fold next world events) → Fresh world
    fresh_back world [] h fresh = fresh
    fresh_back world (event ∷ events) h fresh =
        let there : Fresh (next world event) = fresh_back (next world event) events (next_served world event h) fresh in
        elim (steps world event) [
          | inl same ↦ subst Fresh same there
          | inr on ↦ event_fresh world event h (subst Fresh on there)
        ]

    sealed_back : (world : World S V) (events : List Event) → SealedIn (fold next world events) → SealedIn world
    sealed_back world [] h = h
    sealed_back world (event ∷ events) h =
        let there : SealedIn (next world event) = sealed_back (next world event) events h in
        elim (steps world event) [
          | inl same ↦ subst SealedIn same there
          | inr on ↦ event_sealed world event (subst SealedIn on there)
        ]

    next_moves : (world : World S V) (event : Event) → HasMoves world → SealedIn world → Fresh (next world event) → SealedIn (next world event) → (next world event ≡ after setting world event → IsByNoChance setting world event)
        → HasMoves (next world event)
    next_moves world event h sealed fresh behind chance =
        elim (steps world event) [
          | inl same ↦ subst HasMoves (sym same) h
          | inr on ↦ subst HasMoves (sym on)
              (led_on h.0 (after setting world event)
              (goes_on laws lock ring setting seals so h.0 world h.1 sealed event (chance on) (subst Fresh on fresh) (subst SealedIn on behind, fits)))
        ]

  any_steps : Steps (step_any setting)
  any_steps world event =
      elim (cases_Bool (is_in_the_way (refusal setting world event))) [
        | inl is ↦ inl (rw is refl)
        | inr fine ↦ inr (rw fine refl)
      ]

  its_steps : Steps (step setting)
  its_steps world event =
      elim (cases_Bool (is_some (refusal setting world event))) [
        | inl is ↦ inl (rw is refl)
        | inr fine ↦ inr (rw fine refl)
      ]

  pub run_any : (world : World S V) (events : List Event) → HasMoves world → Keeps world → NoChance setting world events → Fresh (fold (step_any setting) world events)
      → SealedIn (fold (step_any setting) world events) → HasMoves (fold (step_any setting) world events)
  run_any world [] h kept chance fresh sealed = h
  run_any world (event ∷ events) h kept chance fresh sealed =
      let behind : World S V = step_any setting world event in
      let kept_on : Keeps behind = next_served (step_any setting) any_steps world event kept in
      run_any behind events
      (next_moves (step_any setting) any_steps world event h (sealed_back (step_any setting) any_steps world (event ∷ events) sealed)
      (fresh_back (step_any setting) any_steps behind events kept_on fresh) (sealed_back (step_any setting) any_steps behind events sealed) (λ on. chance.0))
      kept_on chance.1 fresh sealed

  step_moves : (world : World S V) (event : Event) → HasMoves world → SealedIn world → Fresh (step setting world event) → SealedIn (step setting world event)
      → HasMoves (step setting world event)
  step_moves world event h sealed fresh behind =
      elim (cases_Bool (is_some (refusal setting world event))) [
        | inl is ↦ rw is h
        | inr fine ↦
            rw fine (led_on h.0 (after setting world event)
            (goes_on laws lock ring setting seals so h.0 world h.1 sealed event (no_chance setting world event fine)
            (subst (λ (b : Bool). Fresh (if b then world else after setting world event)) fine fresh) (subst (λ (b : Bool). SealedIn (if b then world else after setting world event)) fine behind, fits)))
      ]

  pub run_all : (world : World S V) (events : List Event) → HasMoves world → Keeps world → Fresh (fold (step setting) world events) → SealedIn (fold (step setting) world events)
      → HasMoves (fold (step setting) world events)
  run_all world [] h kept fresh sealed = h
  run_all world (event ∷ events) h kept fresh sealed =
      let behind : World S V = step setting world event in
      let kept_on : Keeps behind = next_served (step setting) its_steps world event kept in
      run_all behind events
      (step_moves world event h (sealed_back (step setting) its_steps world (event ∷ events) sealed) (fresh_back (step setting) its_steps behind events kept_on fresh) (sealed_back (step setting) its_steps behind events sealed))
      kept_on fresh sealed
