-- All events of a schedule, one after the other.
use Rattle.std.proofs.Common.{◌≡◌, ℕ, Some, List, [], ◌∷◌, fold, inl, inr, refl, sym, subst}
use Rattle.std.specs.Prelude.{◌⊎◌, is_some}
use Rattle.std.specs.List.{Contains}
use Rattle.std.proofs.lemmas.Bool.{cases_Bool}
use Rattle.auth_keys.specs.declared.ring.RingKey.{RingKey}
use Rattle.envelope.specs.declared.parts.Dir.TheVariants.{Up}
use Rattle.envelope.specs.declared.parts.Envelope.{Envelope}
use Rattle.envelope.specs.Packet.{Lock}
use Rattle.sched_text.specs.declared.event.Event.{Event}
use Rattle.law_order.specs.After.{IsPacketFor, Pair}
use Rattle.world_rules.specs.Setting.{Setting, as_heard}
use Rattle.world_rules.specs.World.{Packet, World, server_now}
use Rattle.world_rules.specs.Premises.{Fresh, IsByNoChance, NoChance}
use Rattle.world_rules.specs.Refusals.{refusal}
use Rattle.world_rules.specs.Run.{after, is_in_the_way, step, step_any}
use Rattle.law_packets.specs.Lawful.{AreLawfulPackets}
use Rattle.law_once.specs.Made.{IsOfPacket, IsShort}
use Rattle.law_once.specs.Standing.{HasMoves}
use Rattle.law_order.specs.Keeping.{ArePacketsFor, KeepsOrder}
use Rattle.law_order.proofs.Lists.{each_of}
use Rattle.law_order.proofs.Keeping.{Ends, Opened, walk}
use Rattle.law_order.proofs.Walking.{AreOpened, walked}
use Rattle.law_order.proofs.Arrivals.{IsOrdered, Opens, no-chance, opened-so}

module _ {S V : Type 0} (lock : Lock) (ring : List RingKey) (setting : Setting S V) (opens : Opens S V lock ring setting) (world : World S V) (sealed : AreLawfulPackets lock ring setting world) where
  abbrev Comes-up : List ℕ → Type 0
  Comes-up bytes = (pair : Pair) → ArePacketsFor pair world.bag → (envelope : Envelope) → setting.opens (server_now world) Up bytes ≡ Some envelope → IsPacketFor pair (as_heard envelope)

  of-bag : (pair : Pair) (packet : Packet) (envelope : Envelope) → ArePacketsFor pair world.bag → Contains world.bag packet → packet.dir ≡ Up → packet.envelope ≡ envelope → IsShort envelope
      → IsPacketFor pair (as_heard envelope)
  of-bag pair packet envelope are among up same short =
      subst (λ (envelope : Envelope). IsPacketFor pair (as_heard envelope)) same
      (each_of (λ (packet : Packet). packet.dir ≡ Up → IsShort packet.envelope → IsPacketFor pair (as_heard packet.envelope)) world.bag are packet among up
      (subst IsShort (sym same) short))

  from-bag : (bytes : List ℕ) → ((envelope : Envelope) → setting.opens (server_now world) Up bytes ≡ Some envelope → IsOfPacket world Up envelope × IsShort envelope) → Comes-up bytes
  from-bag bytes of pair are envelope opened =
      let it = of envelope opened in
      let packet = it.0 in
      of-bag pair packet.packet envelope are packet.made packet.way packet.same it.1

  pub opened-up : (event : Event) → IsByNoChance setting world event → AreOpened setting world Comes-up event
  opened-up event chance = opened-so lock ring setting opens world sealed Comes-up from-bag event chance

-- one event
pub event-kept : {S V : Type 0} (lock : Lock) (ring : List RingKey) (setting : Setting S V) (opens : Opens S V lock ring setting) (ends : Ends S V setting) (world : World S V) (event : Event)
    → HasMoves world → AreLawfulPackets lock ring setting world → IsByNoChance setting world event → KeepsOrder world → KeepsOrder (after setting world event)
event-kept lock ring setting opens ends world event moves sealed chance kept =
    walked setting world KeepsOrder (Opened setting ends world kept) (walk setting ends world kept moves.0 moves.1) event
    (opened-up lock ring setting opens world sealed event chance)

-- ---- runs

-- what an event of a world keeps or had before, under the premises
pub record Known (S V : Type 0) (lock : Lock) (ring : List RingKey) (setting : Setting S V) (P : World S V → Type 0) : Type 0 where
  pub ordered : (world : World S V) (event : Event) → IsOrdered world → IsOrdered (after setting world event)
  pub words : (world : World S V) (event : Event) → IsOrdered world → Fresh (after setting world event) → Fresh world
  pub packets : (world : World S V) (event : Event) → AreLawfulPackets lock ring setting (after setting world event) → AreLawfulPackets lock ring setting world
  pub moves : (world : World S V) (event : Event) → HasMoves world → AreLawfulPackets lock ring setting world → IsByNoChance setting world event
      → Fresh (after setting world event) → AreLawfulPackets lock ring setting (after setting world event) → HasMoves (after setting world event)
  pub kept : (world : World S V) (event : Event) → HasMoves world → AreLawfulPackets lock ring setting world → HasMoves (after setting world event) → IsByNoChance setting world event
      → P world → P (after setting world event)

module _ {S V : Type 0} (lock : Lock) (ring : List RingKey) (setting : Setting S V) (P : World S V → Type 0) (known : Known S V lock ring setting P) where
  abbrev SealedIn : World S V → Type 0
  SealedIn world = AreLawfulPackets lock ring setting world

  -- an event is refused, or happens, where foreign bytes open by no chance
  abbrev IsStep : World S V → Event → World S V → Type 0
  IsStep world event behind = (behind ≡ world) ⊎ ((behind ≡ after setting world event) × IsByNoChance setting world event)

  module _ (next : World S V → Event → World S V) where
    -- one after the other
    abbrev pub Steps : World S V → List Event → Type 0
    Steps world [] = Unit {0}
    Steps world (event ∷ events) = IsStep world event (next world event) × Steps (next world event) events

    pub next-ordered : (world : World S V) (event : Event) → IsStep world event (next world event) → IsOrdered world → IsOrdered (next world event)
    next-ordered world event (inl same) ordered = subst IsOrdered (sym same) ordered
    next-ordered world event (inr on) ordered = subst IsOrdered (sym on.0) (known.ordered world event ordered)

    pub fresh-back : (world : World S V) (events : List Event) → Steps world events → IsOrdered world → Fresh (fold next world events) → Fresh world
    fresh-back world [] steps ordered fresh = fresh
    fresh-back world (event ∷ events) steps ordered fresh =
        let there : Fresh (next world event) = fresh-back (next world event) events steps.1 (next-ordered world event steps.0 ordered) fresh in
        elim steps.0 [
          | inl same ↦ subst Fresh same there
          | inr on ↦ known.words world event ordered (subst Fresh on.0 there)
        ]

    pub sealed-back : (world : World S V) (events : List Event) → Steps world events → SealedIn (fold next world events) → SealedIn world
    sealed-back world [] steps sealed = sealed
    sealed-back world (event ∷ events) steps sealed =
        let there : SealedIn (next world event) = sealed-back (next world event) events steps.1 sealed in
        elim steps.0 [
          | inl same ↦ subst SealedIn same there
          | inr on ↦ known.packets world event (subst SealedIn on.0 there)
        ]

    abbrev Both : World S V → Type 0
    Both world = HasMoves world × P world

    pub next-both : (world : World S V) (event : Event) → IsStep world event (next world event) → SealedIn world → Fresh (next world event) → SealedIn (next world event)
        → Both world → Both (next world event)
    next-both world event (inl same) sealed fresh behind both = subst Both (sym same) both
    next-both world event (inr on) sealed fresh behind both =
        let moves = known.moves world event both.0 sealed on.1 (subst Fresh on.0 fresh) (subst SealedIn on.0 behind) in
        subst Both (sym on.0) (moves, known.kept world event both.0 sealed moves on.1 both.1)

    pub all-kept : (world : World S V) (events : List Event) → Steps world events → Both world → IsOrdered world → Fresh (fold next world events) → SealedIn (fold next world events)
        → Both (fold next world events)
    all-kept world [] steps both ordered fresh sealed = both
    all-kept world (event ∷ events) steps both ordered fresh sealed =
        let behind = next world event in
        let on = next-ordered world event steps.0 ordered in
        all-kept behind events steps.1
        (next-both world event steps.0 (sealed-back world (event ∷ events) steps sealed) (fresh-back behind events steps.1 on fresh) (sealed-back behind events steps.1 sealed) both)
        on fresh sealed

-- ---- a schedule, and a run in which foreign bytes are taken

pub its-steps : {S V : Type 0} (lock : Lock) (ring : List RingKey) (setting : Setting S V) (P : World S V → Type 0) (known : Known S V lock ring setting P) (world : World S V) (events : List Event)
    → Steps lock ring setting P known (step setting) world events
its-steps lock ring setting P known world [] = tt
its-steps lock ring setting P known world (event ∷ events) = (
  elim (cases_Bool (is_some (refusal setting world event))) [
    | inl is ↦ inl (rw is refl)
    | inr fine ↦ inr (rw fine refl, no-chance setting world event fine)
  ],
  its-steps lock ring setting P known (step setting world event) events,
)

pub any-steps : {S V : Type 0} (lock : Lock) (ring : List RingKey) (setting : Setting S V) (P : World S V → Type 0) (known : Known S V lock ring setting P) (world : World S V) (events : List Event)
    → NoChance setting world events → Steps lock ring setting P known (step_any setting) world events
any-steps lock ring setting P known world [] chance = tt
any-steps lock ring setting P known world (event ∷ events) chance = (
  elim (cases_Bool (is_in_the_way (refusal setting world event))) [
    | inl is ↦ inl (rw is refl)
    | inr fine ↦ inr (rw fine refl, chance.0)
  ],
  any-steps lock ring setting P known (step_any setting world event) events chance.1,
)
