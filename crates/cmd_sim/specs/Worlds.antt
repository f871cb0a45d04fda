-- The world of `sim`: the rules of servers and clients, with the protocol's seal, the keys of `sim`, the register service
-- and the words that are counted.
use Rattle.std.specs.Prelude.{ℕ, Option, List}
use Rattle.auth_keys.specs.declared.ring.RingKey.{RingKey}
use Rattle.auth_keys.specs.Rings.{entry_of, key_in}
use Rattle.client_core.specs.Flushed.{binding_under}
use Rattle.envelope.specs.Lock.{mt_lock}
use Rattle.sim_server.specs.Settings.{Sealing}
use Rattle.regs_service.specs.Registers as registers
use Rattle.ring_rules.specs.Binding.{keys_of}
use Rattle.ring_rules.specs.Opening.{opened}
use Rattle.ring_rules.specs.Sealing.{packet_under}
use Rattle.sched_text.specs.declared.schedule.Placed.{Placed}
use Rattle.world_rules.specs.Run.{events_of, first_refused, run_of}
use Rattle.world_rules.specs.Refusals.{Refusal}
use Rattle.world_rules.specs.Setting.{Setting}
use Rattle.world_rules.specs.World.{World, begins}
use Rattle.sim_world.specs.Keys.{world_keys}
use Rattle.sim_world.specs.Worlds.{World as Kept, Stands, world_setting}
use Rattle.cmd_sim.specs.KeysOfSim.{sim_ring}
use Rattle.cmd_sim.specs.Words.{counted_step}

-- the state of the register service
abbrev pub Registers : Type 0
Registers = registers.Sums

-- what the protocol's seal does under the keys of `sim`
unfoldable pub sim_sealing : Sealing
sim_sealing =
    record {
      sealed = λ dir envelope. packet_under mt_lock (entry_of envelope.key sim_ring) dir envelope;
      opens = opened mt_lock sim_ring;
      binding_message = λ perm. binding_under (key_in (entry_of perm sim_ring));
      rings = keys_of sim_ring;
      keys = world_keys;
    }

-- the setting of the world
unfoldable pub sim_setting : Setting ℕ Registers
sim_setting = world_setting counted_step registers.step registers.fresh sim_ring sim_sealing

-- the world of a schedule's events, and the first of them that is refused, with its line
abbrev pub sim_world : List Placed → World ℕ Registers
sim_world events = run_of sim_setting 0 (events_of events)

abbrev pub sim_refused : List Placed → Option (ℕ × Refusal)
sim_refused events = first_refused sim_setting (begins sim_setting 0) events

-- ---- a world as it is kept: scaffolding, and no promise

abbrev pub KeptWorld : Type 0
KeptWorld = Kept (List RingKey) Registers ℕ

-- it stands for a world of the rules
abbrev pub StandsFor : KeptWorld → World ℕ Registers → Type 0
StandsFor kept world = Stands sim_setting kept world
