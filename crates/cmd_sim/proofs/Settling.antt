-- The setting of the world of `sim`, and what a world over its ring stands for.
use Rattle.std.proofs.Common.{◌≡◌, ◌∙◌, ◌<◌, ◌↔◌, ℕ, List, Option, Some, Result, ap, sym, subst, refl}
use Rattle.std.specs.Prelude.{OnOk, IsTrue, Bool}
use Rattle.auth_keys.specs.declared.ring.RingKey.{RingKey}
use Rattle.envelope.specs.declared.parts.Dir.{Dir}
use Rattle.envelope.specs.declared.parts.Envelope.{Envelope}
use Rattle.envelope.specs.Lock.{mt_lock}
use Rattle.envelope.specs.Opening.{Opens}
use Rattle.sim_server.specs.Settings.{IsOf, Sealing}
use Rattle.regs_service.specs.Registers as registers
use Rattle.ring_rules.specs.Binding.{keys_of}
use Rattle.ring_rules.specs.Opening.{opened}
use Rattle.ring_rules.specs.Sealing.{packet_under}
use Rattle.server_dispatch.specs.Rings.{AreOf}
use Rattle.sched_text.specs.declared.event.Event.{Event}
use Rattle.world_rules.specs.Load.{load}
use Rattle.world_rules.specs.Refusals.{refusal}
use Rattle.world_rules.specs.Run.{step}
use Rattle.world_rules.specs.Setting.{Setting}
use Rattle.world_rules.specs.World.{World as Rules, begins}
use Rattle.sim_world.specs.declared.fault.StepFault.{StepFault}
use Rattle.sim_world.specs.Told.{Tells}
use Rattle.sim_world.specs.Worlds.{Stands, world_setting}
use Rattle.cmd_sim.specs.KeysOfSim.{sim_ring}
use Rattle.cmd_sim.specs.Words.{counted_step}
use Rattle.cmd_sim.specs.Worlds.{KeptWorld, Registers, StandsFor, sim_sealing, sim_setting}

-- the setting over some ring
abbrev pub setting_at : List RingKey → Setting ℕ Registers
setting_at ring = world_setting counted_step registers.step registers.fresh ring sim_sealing

pub over-its-ring : setting_at sim_ring ≡ sim_setting
unfolding sim_setting
over-its-ring = refl

-- ---- what the seal does

pub setting-is-of : ((ring : List RingKey) (now : ℕ) (dir : Dir) (packet : List ℕ) (envelope : Envelope) → (opened mt_lock ring now dir packet ≡ Some envelope ↔ Opens mt_lock ring now dir packet envelope))
    → ((ring : List RingKey) → AreOf ring (keys_of ring)) → IsOf mt_lock sim_ring sim_setting
unfolding sim_setting sim_sealing
setting-is-of opens keys = record {
  seal = record {
    sealed = λ dir envelope padding entry found. ap (λ (key : Option RingKey). packet_under mt_lock key dir envelope padding) found;
    opens = λ now dir bytes envelope. opens sim_ring now dir bytes envelope;
  };
  rings = keys sim_ring;
}

-- ---- over a ring that is the one of `sim`

module _ (ring : List RingKey) (own : ring ≡ sim_ring) where
  pub begun : (kept : KeptWorld) (draw : ℕ) → draw ≡ 0 → Stands (setting_at ring) kept (begins (setting_at ring) draw) → StandsFor kept (begins sim_setting 0)
  begun kept draw none h =
      subst (λ (setting : Setting ℕ Registers). Stands setting kept (begins setting 0)) (ap setting_at own ∙ over-its-ring)
      (subst (λ (given : ℕ). Stands (setting_at ring) kept (begins (setting_at ring) given)) none h)

  pub told : (kept : KeptWorld) (event : Event) (result : Result (Unit {0}) StepFault) → IsOf mt_lock sim_ring sim_setting
      → ((sealing : Sealing) (world : Rules ℕ Registers) → let setting : Setting ℕ Registers = world_setting counted_step registers.step registers.fresh ring sealing in
      IsOf mt_lock ring setting → Stands setting kept world → Tells (refusal setting world event) result)
      → (world : Rules ℕ Registers) → StandsFor kept world → Tells (refusal sim_setting world event) result
  told kept event result of h world stands =
      subst (λ (setting : Setting ℕ Registers). IsOf mt_lock ring setting → Stands setting kept world → Tells (refusal setting world event) result) (ap setting_at own ∙ over-its-ring)
      (h sim_sealing world) (subst (λ (keys : List RingKey). IsOf mt_lock keys sim_setting) (sym own) of) stands

  pub stepped : (kept after : KeptWorld) (event : Event) (result : Result (Unit {0}) StepFault) → IsOf mt_lock sim_ring sim_setting
      → ((sealing : Sealing) (world : Rules ℕ Registers) → let setting : Setting ℕ Registers = world_setting counted_step registers.step registers.fresh ring sealing in
      IsOf mt_lock ring setting → Stands setting kept world → OnOk result (Stands setting after (step setting world event)))
      → (world : Rules ℕ Registers) → StandsFor kept world → OnOk result (StandsFor after (step sim_setting world event))
  stepped kept after event result of h world stands =
      subst (λ (setting : Setting ℕ Registers). IsOf mt_lock ring setting → Stands setting kept world → OnOk result (Stands setting after (step setting world event))) (ap setting_at own ∙ over-its-ring)
      (h sim_sealing world) (subst (λ (keys : List RingKey). IsOf mt_lock keys sim_setting) (sym own) of) stands

  pub loaded : (kept after : KeptWorld) (calls : ℕ) → IsOf mt_lock sim_ring sim_setting
      → ((sealing : Sealing) (draw : ℕ) → let setting : Setting ℕ Registers = world_setting counted_step registers.step registers.fresh ring sealing in
      IsOf mt_lock ring setting → Stands setting kept (begins setting draw) → Stands setting after (load setting draw calls))
      → StandsFor kept (begins sim_setting 0) → StandsFor after (load sim_setting 0 calls)
  loaded kept after calls of h stands =
      subst (λ (setting : Setting ℕ Registers). IsOf mt_lock ring setting → Stands setting kept (begins setting 0) → Stands setting after (load setting 0 calls)) (ap setting_at own ∙ over-its-ring)
      (h sim_sealing 0) (subst (λ (keys : List RingKey). IsOf mt_lock keys sim_setting) (sym own) of) stands

-- the draw is the world's
pub drawn-below : (kept : KeptWorld) (world : Rules ℕ Registers) (counts_on : Bool) (max : ℕ) → (IsTrue counts_on ↔ (kept.draw < max)) → StandsFor kept world → (IsTrue counts_on ↔ (world.draw < max))
drawn-below kept world counts_on max h stands = subst (λ (draw : ℕ). IsTrue counts_on ↔ (draw < max)) stands.host.drawn h
