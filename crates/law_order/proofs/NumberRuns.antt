-- All events of a schedule, one after the other.
use Rattle.std.proofs.Common.{◌≡◌, ℕ, zero, suc, false, Some, List, [], ◌∷◌, fold, inl, inr, refl, sym, subst}
use Rattle.std.specs.Prelude.{◌⊎◌, ⊤, is_some}
use Rattle.std.specs.List.{Contains}
use Rattle.std.proofs.lemmas.Bool.{cases_Bool}
use Rattle.auth_keys.specs.declared.ring.RingKey.{RingKey}
use Rattle.msg_ids.specs.Moments.{moment_of}
use Rattle.envelope.specs.declared.parts.Dir.TheVariants.{Up}
use Rattle.envelope.specs.declared.parts.Envelope.{Envelope}
use Rattle.envelope.specs.Packet.{Lock}
use Rattle.sched_text.specs.declared.event.Event.{Event}
use Rattle.server_rules.specs.Events.{Restart, after_event}
use Rattle.client_rules.specs.Events as wishes
use Rattle.law_order.specs.Apart.{IsPacketOf, Kinds}
use Rattle.world_rules.specs.Setting.{Setting, as_heard, at_client, at_server}
use Rattle.world_rules.specs.World.{Packet, Seat, World, counted, server_now}
use Rattle.world_rules.specs.Premises.{IsByNoChance, NoChance}
use Rattle.world_rules.specs.Refusals.{opened, refusal}
use Rattle.world_rules.specs.Ends.{acts, course_in, flushes}
use Rattle.world_rules.specs.Run.{after, is_in_the_way, step, step_any}
use Rattle.law_packets.specs.Lawful.{AreLawfulPackets}
use Rattle.law_once.specs.Made.{IsOfPacket, IsShort}
use Rattle.law_order.proofs.Lists.{each_of, none-some}
use Rattle.law_order.proofs.Walking.{AreOpened, IsWish, walked}
use Rattle.law_order.proofs.Arrivals.{IsAny, IsOrdered, Opens, any-opened, opened-so}
use Rattle.law_order.proofs.Giving.{AreApart, Keeps, Numbers, acted-keeps, all_set-keeps, flushed-keeps, joined-keeps, one_set-keeps, served-keeps}
use Rattle.law_order.proofs.Telling.{ArePacketsOf, IsTold, Opened, Serves, told-walk}

module _ {S V : Type 0} (lock : Lock) (ring : List RingKey) (setting : Setting S V) (opens : Opens S V lock ring setting) (world : World S V) (sealed : AreLawfulPackets lock ring setting world) where
  of-bag : (kinds : Kinds) (packet : Packet) (envelope : Envelope) → ArePacketsOf kinds world.bag → Contains world.bag packet → packet.dir ≡ Up → packet.envelope ≡ envelope → IsShort envelope
      → IsPacketOf kinds (as_heard envelope)
  of-bag kinds packet envelope are among up same short =
      subst (λ (envelope : Envelope). IsPacketOf kinds (as_heard envelope)) same
      (each_of (λ (packet : Packet). packet.dir ≡ Up → IsShort packet.envelope → IsPacketOf kinds (as_heard packet.envelope)) world.bag are packet among up
      (subst IsShort (sym same) short))

  from-bag : (bytes : List ℕ) → ((envelope : Envelope) → setting.opens (server_now world) Up bytes ≡ Some envelope → IsOfPacket world Up envelope × IsShort envelope) → Opened setting world bytes
  from-bag bytes of kinds are envelope opened =
      let it = of envelope opened in
      let packet = it.0 in
      of-bag kinds packet.packet envelope are packet.made packet.way packet.same it.1

  pub opened-up : (event : Event) → IsByNoChance setting world event → AreOpened setting world (Opened setting world) event
  opened-up event chance = opened-so lock ring setting opens world sealed (Opened setting world) from-bag event chance

-- one event
pub event-told : {S V : Type 0} (lock : Lock) (ring : List RingKey) (setting : Setting S V) (opens : Opens S V lock ring setting) (known : Serves S V setting) (world : World S V) (event : Event)
    → AreLawfulPackets lock ring setting world → IsByNoChance setting world event → (told : IsTold world) → IsTold (after setting world event)
event-told lock ring setting opens known world event sealed chance told =
    walked setting world IsTold (Opened setting world) (told-walk setting known world told) event (opened-up lock ring setting opens world sealed event chance)

-- ---- numbers

module _ {S V : Type 0} (setting : Setting S V) (numbers : Numbers S (at_client setting)) (world : World S V) (k : Keeps world.seats world.bag) (now : AreApart world.seats) where
  -- where session numbers differ behind the event
  abbrev pub P : World S V → Type 0
  P behind = AreApart behind.seats → Keeps behind.seats behind.bag

  acted-so : (number : ℕ) (seat : Seat) → counted number world.seats ≡ Some seat → (wish : wishes.Event) → IsWish wish → P (acts setting number seat wish world)
  acted-so zero seat is wish wished apart = absurd (none-some seat is)
  acted-so (suc place) seat is wish wished apart = acted-keeps (at_client setting) numbers world.seats world.bag k place seat is world.draw wish wished apart

  flushed-so : (number : ℕ) (seat : Seat) → counted number world.seats ≡ Some seat → P (flushes setting number seat world)
  flushed-so zero seat is apart = absurd (none-some seat is)
  flushed-so (suc place) seat is apart = flushed-keeps (at_client setting) numbers world.seats world.bag k place seat is world.draw (moment_of seat.clock) now

  pub event-keeps : (event : Event) → P (after setting world event)
  event-keeps event =
      walked setting world P IsAny
      (record {
        still = λ apart. k;
        joined = λ key temporary idle apart.
            joined-keeps world.seats world.bag (record { client = (wishes.made (at_client setting) key temporary world.draw).client; clock = 0 }) refl
            (numbers.made key temporary world.draw idle) apart k;
        all_set = λ moment apart. all_set-keeps world.seats world.bag moment k;
        server_set = λ moment apart. k;
        one_set = λ number moment apart. one_set-keeps world.seats world.bag number moment k;
        acted = acted-so;
        flushed = flushed-so;
        served = λ event quiet apart. served-keeps world.seats world.bag _ k;
        again = λ apart. served-keeps world.seats world.bag (after_event (at_server setting) setting.serve setting.fresh (course_in world) Restart).packets k;
        came = λ bytes any apart. served-keeps world.seats world.bag _ k;
      })
      event (any-opened setting world event)

-- ---- runs

-- what an event of a world keeps, where it may come, and what it had before
pub record Known (S V : Type 0) (setting : Setting S V) (Q : World S V → Event → Type 0) (F P : World S V → Type 0) : Type 0 where
  pub ordered : (world : World S V) (event : Event) → IsOrdered world → IsOrdered (after setting world event)
  pub before : (world : World S V) (event : Event) → IsOrdered world → F (after setting world event) → F world
  pub kept : (world : World S V) (event : Event) → Q world event → F world → F (after setting world event) → P world → P (after setting world event)

module _ {S V : Type 0} (setting : Setting S V) (Q : World S V → Event → Type 0) (F P : World S V → Type 0) (known : Known S V setting Q F P) where
  -- an event is refused, or happens
  abbrev IsStep : World S V → Event → World S V → Type 0
  IsStep world event behind = (behind ≡ world) ⊎ ((behind ≡ after setting world event) × Q world event)

  module _ (next : World S V → Event → World S V) where
    -- one after the other
    abbrev pub Steps : World S V → List Event → Type 0
    Steps world [] = Unit {0}
    Steps world (event ∷ events) = IsStep world event (next world event) × Steps (next world event) events

    next-ordered : (world : World S V) (event : Event) → IsStep world event (next world event) → IsOrdered world → IsOrdered (next world event)
    next-ordered world event (inl same) ordered = subst IsOrdered (sym same) ordered
    next-ordered world event (inr on) ordered = subst IsOrdered (sym on.0) (known.ordered world event ordered)

    back : (world : World S V) (events : List Event) → Steps world events → IsOrdered world → F (fold next world events) → F world
    back world [] steps ordered f = f
    back world (event ∷ events) steps ordered f =
        let there : F (next world event) = back (next world event) events steps.1 (next-ordered world event steps.0 ordered) f in
        elim steps.0 [
          | inl same ↦ subst F same there
          | inr on ↦ known.before world event ordered (subst F on.0 there)
        ]

    next-kept : (world : World S V) (event : Event) → IsStep world event (next world event) → F world → F (next world event) → P world → P (next world event)
    next-kept world event (inl same) f g p = subst P (sym same) p
    next-kept world event (inr on) f g p = subst P (sym on.0) (known.kept world event on.1 f (subst F on.0 g) p)

    pub all-kept : (world : World S V) (events : List Event) → Steps world events → P world → IsOrdered world → F (fold next world events) → P (fold next world events)
    all-kept world [] steps p ordered f = p
    all-kept world (event ∷ events) steps p ordered f =
        let behind = next world event in
        let on = next-ordered world event steps.0 ordered in
        all-kept behind events steps.1 (next-kept world event steps.0 (back world (event ∷ events) steps ordered f) (back behind events steps.1 on f) p) on f

  -- ---- a schedule, and a run in which foreign bytes are taken

  pub its-steps : ((world : World S V) (event : Event) → is_some (refusal setting world event) ≡ false → Q world event) → (world : World S V) (events : List Event) → Steps (step setting) world events
  its-steps so world [] = tt
  its-steps so world (event ∷ events) = (
    elim (cases_Bool (is_some (refusal setting world event))) [
      | inl is ↦ inl (rw is refl)
      | inr fine ↦ inr (rw fine refl, so world event fine)
    ],
    its-steps so (step setting world event) events,
  )

  -- each event of the run may come
  abbrev pub MayCome : World S V → List Event → Type 0
  MayCome world [] = Unit {0}
  MayCome world (event ∷ events) = Q world event × MayCome (step_any setting world event) events

  pub any-steps : (world : World S V) (events : List Event) → MayCome world events → Steps (step_any setting) world events
  any-steps world [] may = tt
  any-steps world (event ∷ events) may = (
    elim (cases_Bool (is_in_the_way (refusal setting world event))) [
      | inl is ↦ inl (rw is refl)
      | inr fine ↦ inr (rw fine refl, may.0)
    ],
    any-steps (step_any setting world event) events may.1,
  )

pub by-chance : {S V : Type 0} (setting : Setting S V) (F P : World S V → Type 0) (known : Known S V setting (IsByNoChance setting) F P) (world : World S V) (events : List Event)
    → NoChance setting world events → MayCome setting (IsByNoChance setting) F P known world events
by-chance setting F P known world [] chance = tt
by-chance setting F P known world (event ∷ events) chance = (chance.0, by-chance setting F P known (step_any setting world event) events chance.1)

abbrev pub IsAnyEvent : {S V : Type 0} → World S V → Event → Type 0
IsAnyEvent world event = ⊤

pub by-any : {S V : Type 0} (setting : Setting S V) (F P : World S V → Type 0) (known : Known S V setting IsAnyEvent F P) (world : World S V) (events : List Event)
    → MayCome setting IsAnyEvent F P known world events
by-any setting F P known world [] = tt
by-any setting F P known world (event ∷ events) = (tt, by-any setting F P known (step_any setting world event) events)
