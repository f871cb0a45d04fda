-- A schedule that shows what the definitions give: a crash before a packet is recorded, and one inside a run. Packets are laid out
-- as the protocol lays them out, without a cipher; the service is that of the registers.
use Rattle.std.specs.Prelude.{ℕ, Some, None, List, [], ◌∷◌}
use Rattle.draws.specs.Draws.{word_after}
use Rattle.regs_service.specs.Registers as registers
use Rattle.world_rules.specs.Report.{report}
use Rattle.world_rules.specs.Witness.{add_x}
use Rattle.world_rules.specs.World.{counted}
use Rattle.law_connections.specs.Joint.{Attaches, Draws, Flushes, Hears, Submits}
use Rattle.law_connections.specs.Witness.{bytes_in, client_draw, key_number, keys, setting}
use Rattle.law_crashes.specs.Records.{Attach, Hear, Tick, Work}
use Rattle.law_crashes.specs.Crashes.{Answers, Begins, Crashes, Does, Living, Step, created, goes_on, living_of}

-- ---- steps that bring packets of the schedule

-- A step as it stands; or the packet of this number, counted from 1, comes to the server or to the first client; or a crash cuts
-- the server off before the packet that came is recorded.
pub data Turn : Type 0 where
  Goes : Step ℕ → Turn
  Up : ℕ → Turn
  Down : ℕ → Turn
  Undone : ℕ → Turn

abbrev pub Shown : Type 0
Shown = Living ℕ registers.Sums

abbrev pub packet_at : ℕ → Shown → List ℕ
packet_at number living = bytes_in setting (counted number living.joint.world.bag)

-- a draw of this setting is its place
abbrev pub place_of : ℕ → ℕ
place_of draw = draw

abbrev pub step_in : Shown → Turn → Step ℕ
step_in living (Goes step) = step
step_in living (Up number) = Answers (Hear 0 (packet_at number living))
step_in living (Down number) = Does 1 (Hears 0 (packet_at number living))
step_in living (Undone number) = Crashes (Some (Hear 0 (packet_at number living))) 0 0

abbrev pub steps_in : Shown → List Turn → List (Step ℕ)
steps_in living [] = []
steps_in living (turn ∷ turns) = let step = step_in living turn in step ∷ steps_in (goes_on setting place_of living step) turns

-- ---- the schedule

-- a connection is opened, and what is due goes
abbrev pub opens : List Turn → List Turn
opens turns = Goes (Does 1 (Draws 8)) ∷ Goes (Does 1 Attaches) ∷ Goes (Does 1 (Flushes 0)) ∷ turns

-- behind a first packet the connection is attached to the client's session, and there is a tick
abbrev pub attached : List Turn → List Turn
attached turns =
    Goes (Answers (Attach 0 (record { key = key_number; session = word_after setting.step 0 client_draw }))) ∷ Goes (Answers (Tick 0)) ∷ turns

-- The first packet makes a session, and a crash undoes that; it comes again, and the session is made of the same words. The call
-- goes again under its salt, runs and is answered. A crash cuts another one's run off; over the next connection the call goes
-- again in the same session, and is told that its run was cut off.
abbrev pub cut_turns : List Turn
cut_turns =
    Goes (Begins keys client_draw) ∷ Goes (Does 1 (Submits (add_x 5) None))
    ∷ opens (Undone 1 ∷ Up 1 ∷ attached (Down 2 ∷ Down 3 ∷ Goes (Does 1 (Flushes 0)) ∷ Up 4 ∷ Goes (Answers (Tick 0)) ∷ Goes (Answers (Work 0 0))
    ∷ Down 5 ∷ Down 6 ∷ Goes (Does 1 (Submits (add_x 7) None)) ∷ Goes (Does 1 (Flushes 0)) ∷ Up 7 ∷ Goes (Answers (Tick 0))
    ∷ Goes (Crashes (Some (Work 0 0)) 1 0) ∷ opens (Up 10 ∷ attached (Down 11 ∷ []))))

unfoldable pub cut : List (Step ℕ)
cut = steps_in (created setting 0) cut_turns

-- what is told of its world
abbrev pub told : List (Step ℕ) → List ℕ
told steps = report (living_of setting place_of 0 steps).joint.world
