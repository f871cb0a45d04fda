-- Calls are in order behind each event of a schedule.
use Rattle.std.proofs.Common.{◌≡◌, ◌∙◌, List, [], ◌∷◌, ◌++◌, length, length-append, arith, fold, refl, sym, ap, subst, inl, inr}
use Rattle.auth_keys.specs.declared.ring.RingKey.{RingKey}
use Rattle.envelope.specs.Packet.{Lock}
use Rattle.msg_ids.specs.Moments.{moment_of}
use Rattle.sched_text.specs.declared.event.Event.{Event}
use Rattle.client_rules.specs.Events as wishes
use Rattle.law_moves.specs.World.{World as Moved}
use Rattle.world_rules.specs.Setting.{Setting}
use Rattle.world_rules.specs.World.{World, begins}
use Rattle.world_rules.specs.Once.{InOrder, Once}
use Rattle.world_rules.specs.Premises.{Fresh}
use Rattle.world_rules.specs.Run.{set}
use Rattle.law_packets.specs.Lawful.{AreLawfulPackets}
use Rattle.law_once.specs.Standing.{HasMoves, WorldStands}
use Rattle.law_order.specs.Keeping.{KeepsOrder, WaitingInOrder}
use Rattle.law_order.proofs.Seats.{changed-go, more-go, set-go, set-later, stand-still}
use Rattle.law_order.proofs.Walking.{Walk, walked}
use Rattle.law_order.proofs.Keeping.{Ends, go}
use Rattle.law_order.proofs.Arrivals.{IsAny, IsOrdered, any-opened}
use Rattle.law_order.proofs.Runs.{Known, Steps, fresh-back, next-both, next-ordered, sealed-back}
use Rattle.law_order.proofs.Ordering.{clients-order, server-order}

-- behind an event, where calls are executed once and those that wait are in order
abbrev pub InOrderThen : {S V : Type 0} → Setting S V → World S V → Type 0
InOrderThen setting behind = Once setting behind → WaitingInOrder behind → InOrder behind

pub order-walk : {S V : Type 0} (setting : Setting S V) (ends : Ends S V setting) (m : Moved) (world : World S V) → WorldStands m world → KeepsOrder world → Once setting world → InOrder world
    → Walk S V setting world (InOrderThen setting) IsAny
order-walk setting ends m world h kept once order = record {
  still = λ once_on waiting. order;
  joined = λ key temporary idle once_on waiting. clients-order setting world _ (more-go world.seats _) refl once once_on kept.clients order;
  all_set = λ moment once_on waiting. clients-order setting world _ (set-go world.seats moment) refl once once_on kept.clients order;
  server_set = λ moment once_on waiting. clients-order setting world _ (stand-still world.seats) refl once once_on kept.clients order;
  one_set = λ number moment once_on waiting.
      clients-order setting world _ (changed-go world.seats number (set moment) (λ seat is. set-later moment seat)) refl once once_on kept.clients order;
  acted = λ number seat is wish wished once_on waiting. clients-order setting world _ (go setting ends world kept number seat is wish) refl once once_on kept.clients order;
  flushed = λ number seat is once_on waiting.
      clients-order setting world _ (go setting ends world kept number seat is (wishes.Flush (moment_of seat.clock))) refl once once_on kept.clients order;
  served = λ event quiet once_on waiting. server-order setting m world _ h refl _ refl once kept waiting order;
  again = λ once_on waiting. server-order setting m world _ h refl _ refl once kept waiting order;
  came = λ bytes any once_on waiting. server-order setting m world _ h refl _ refl once kept waiting order;
}

-- nothing was entered yet
pub unordered : {S V : Type 0} (setting : Setting S V) (draw : S) → InOrder (begins setting draw)
unordered setting draw number place client call earlier before rest entered of is_earlier is named ran =
    let count : 0 ≡ length (before ++ entered ∷ rest) = ap length is in
    let more = length-append before (entered ∷ rest) in absurd (omega arith)

fold-last : {S V : Type 0} (f : World S V → Event → World S V) (world : World S V) (prefix : List Event) (event : Event) → fold f world (prefix ++ event ∷ []) ≡ f (fold f world prefix) event
fold-last f world [] event = refl
fold-last f world (first ∷ prefix) event = fold-last f (f world first) prefix event

module _ {S V : Type 0} (lock : Lock) (ring : List RingKey) (setting : Setting S V) (known : Known S V lock ring setting KeepsOrder) (ends : Ends S V setting) (next : World S V → Event → World S V)
    (begin : World S V) (here : (prefix : List Event) → HasMoves (fold next begin prefix) × KeepsOrder (fold next begin prefix)
    → Once setting (fold next begin prefix) × WaitingInOrder (fold next begin prefix)) where
  abbrev IsHere : World S V → Type 0
  IsHere world = HasMoves world × KeepsOrder world → Once setting world × WaitingInOrder world

  pub ordered-run : (events prefix : List Event) (world : World S V) → fold next begin prefix ≡ world → Steps lock ring setting KeepsOrder known next world events
      → HasMoves world × KeepsOrder world → IsOrdered world → InOrder world
      → Fresh (fold next world events) → AreLawfulPackets lock ring setting (fold next world events) → InOrder (fold next world events)
  ordered-run [] prefix world is steps both ordered order fresh sealed = order
  ordered-run (event ∷ events) prefix world is steps both ordered order fresh sealed =
      let behind = next world event in
      let ordered_on = next-ordered lock ring setting KeepsOrder known next world event steps.0 ordered in
      let fresh_on = fresh-back lock ring setting KeepsOrder known next behind events steps.1 ordered_on fresh in
      let sealed_here = sealed-back lock ring setting KeepsOrder known next world (event ∷ events) steps sealed in
      let sealed_on = sealed-back lock ring setting KeepsOrder known next behind events steps.1 sealed in
      let is_on : fold next begin (prefix ++ event ∷ []) ≡ behind = fold-last next begin prefix event ∙ ap (λ (world : World S V). next world event) is in
      let both_on = next-both lock ring setting KeepsOrder known next world event steps.0 sealed_here fresh_on sealed_on both in
      let now = subst IsHere is (here prefix) both in
      let on = subst IsHere is_on (here (prefix ++ event ∷ [])) both_on in
      let order_on : InOrder behind =
      elim steps.0 [
        | inl same ↦ subst InOrder (sym same) order
        | inr acts ↦
            subst InOrder (sym acts.0)
            (walked setting world (InOrderThen setting) IsAny (order-walk setting ends both.0.0 world both.0.1 both.1 now.0 order) event (any-opened setting world event)
            (subst (Once setting) acts.0 on.0) (subst WaitingInOrder acts.0 on.1))
      ] in
      ordered-run events (prefix ++ event ∷ []) behind is_on steps.1 both_on ordered_on order_on fresh sealed
