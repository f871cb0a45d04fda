-- What is computed of the schedule that is shown: whether the packets that come were made; and its keys and bodies.
use Rattle.std.proofs.Common.{◌≡◌, ℕ, Bool, true, false, Option, Some, None, List, [], ◌∷◌, refl}
use Rattle.std.specs.Prelude.{◌&&◌, IfSome}
use Rattle.std.specs.List.{AllByRecursion}
use Rattle.envelope.specs.declared.parts.Dir.{Dir}
use Rattle.envelope.specs.declared.parts.Dir.TheVariants as way
use Rattle.regs_service.specs.Registers as registers
use Rattle.world_rules.specs.World.{World, counted}
use Rattle.world_rules.specs.Premises.{OpensOnly}
use Rattle.law_connections.specs.Computed.{is_made}
use Rattle.law_connections.specs.Joint.{Attaches, Draws, Flushes, Hears, Renews, Submits, at_client_moment, at_moment}
use Rattle.law_connections.specs.Premises.{AreHeld, IsOfBytes}
use Rattle.law_connections.specs.Witness.{bytes_in, ring, setting}
use Rattle.law_crashes.specs.Records.{Attach, Hear, Tick, Work}
use Rattle.law_crashes.specs.Crashes.{Answers, Begins, Crashes, Does, Spares, Step, goes_on}
use Rattle.law_crashes.specs.Premises.{AreOf, IsLivingStepByNoChance, IsLivingStepOf, NoChance}
use Rattle.law_crashes.specs.Witness.{Down, Goes, Shown, Turn, Undone, Up, place_of, step_in, steps_in}

-- a packet of the world that goes this way is the only one to which its bytes open
abbrev pub PacketsOpen : Type 0
PacketsOpen = (world : World ℕ registers.Sums) (now number : ℕ) (dir : Dir) → is_made dir (counted number world.bag) ≡ true
    → OpensOnly setting world now dir (bytes_in setting (counted number world.bag))

-- nothing comes to an end
abbrev pub is_quiet : Step ℕ → Bool
is_quiet (Answers (Hear now packet)) = false
is_quiet (Crashes (Some (Hear now packet)) left now_then) = false
is_quiet (Does number (Hears now packet)) = false
is_quiet step = true

abbrev pub turn_made : Shown → Turn → Bool
turn_made living (Goes step) = is_quiet step
turn_made living (Up number) = is_made way.Up (counted number living.joint.world.bag)
turn_made living (Down number) = is_made way.Down (counted number living.joint.world.bag)
turn_made living (Undone number) = is_made way.Up (counted number living.joint.world.bag)

-- each packet that comes is one of the schedule that goes that way
abbrev pub turns_made : Shown → List Turn → Bool
turns_made living [] = true
turns_made living (turn ∷ turns) = turn_made living turn && turns_made (goes_on setting place_of living (step_in living turn)) turns

both : (one other : Bool) → (one && other) ≡ true → (one ≡ true) × (other ≡ true)
both true other is = (refl, is)
both false other is = absurd (let e : false ≡ true = is in cc)

never : {P : Type 0} → false ≡ true → P
never is = absurd (let e : false ≡ true = is in cc)

quiet_step : (living : Shown) (step : Step ℕ) → is_quiet step ≡ true → IsLivingStepByNoChance setting living step
quiet_step living (Begins keys draw) is = tt
quiet_step living (Does number (Submits body earlier)) is = tt
quiet_step living (Does number (Draws words)) is = tt
quiet_step living (Does number Attaches) is = tt
quiet_step living (Does number Renews) is = tt
quiet_step living (Does number (Flushes now)) is = tt
quiet_step living (Does number (Hears now packet)) is = never is
quiet_step living (Answers (Hear now packet)) is = never is
quiet_step living (Answers (Attach now name)) is = tt
quiet_step living (Answers (Tick now)) is = tt
quiet_step living (Answers (Work now place)) is = tt
quiet_step living (Spares now place) is = tt
quiet_step living (Crashes None left now) is = tt
quiet_step living (Crashes (Some (Hear at packet)) left now) is = never is
quiet_step living (Crashes (Some (Attach at name)) left now) is = tt
quiet_step living (Crashes (Some (Tick at)) left now) is = tt
quiet_step living (Crashes (Some (Work at place)) left now) is = tt

module _ (packets : PacketsOpen) where
  turn_so : (living : Shown) (turn : Turn) → turn_made living turn ≡ true → IsLivingStepByNoChance setting living (step_in living turn)
  turn_so living (Goes step) is = quiet_step living step is
  turn_so living (Up number) is = packets (at_moment 0 living.joint.world) _ number way.Up is
  turn_so living (Down number) is = λ seat at. packets (at_client_moment setting 1 0 living.joint.world) _ number way.Down is
  turn_so living (Undone number) is = packets (at_moment 0 living.joint.world) _ number way.Up is

  pub no_chance : (turns : List Turn) (living : Shown) → turns_made living turns ≡ true → NoChance setting place_of living (steps_in living turns)
  no_chance [] living is = tt
  no_chance (turn ∷ turns) living is =
      let parts = both (turn_made living turn) (turns_made (goes_on setting place_of living (step_in living turn)) turns) is in
      (turn_so living turn parts.0, no_chance turns (goes_on setting place_of living (step_in living turn)) parts.1)

-- ---- keys and bodies

abbrev pub IsOwn : Turn → Type 0
IsOwn (Goes (Begins keys draw)) = AreHeld ring keys
IsOwn (Goes (Does number deed)) = IsOfBytes deed
IsOwn turn = Unit {0}

if_there : {X : Type 0} (found : Option X) (P : Type 0) → P → IfSome found (λ x. P)
if_there None P p = tt
if_there (Some x) P p = p

turn_of : (living : Shown) (turn : Turn) → IsOwn turn → IsLivingStepOf ring living (step_in living turn)
turn_of living (Goes (Begins keys draw)) own = own
turn_of living (Goes (Does number deed)) own = if_there (counted number living.joint.draws) (IsOfBytes deed) own
turn_of living (Goes (Answers call)) own = tt
turn_of living (Goes (Spares now place)) own = tt
turn_of living (Goes (Crashes call left now)) own = tt
turn_of living (Up number) own = tt
turn_of living (Down number) own = if_there (counted 1 living.joint.draws) (Unit {0}) tt
turn_of living (Undone number) own = tt

pub all_of : (turns : List Turn) (living : Shown) → AllByRecursion IsOwn turns → AreOf ring setting place_of living (steps_in living turns)
all_of [] living own = tt
all_of (turn ∷ turns) living own = (turn_of living turn own.0, all_of turns (goes_on setting place_of living (step_in living turn)) own.1)
