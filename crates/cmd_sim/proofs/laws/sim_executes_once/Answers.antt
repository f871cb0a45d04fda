use Rattle.envelope.specs.Lock.{mt_lock}
use Rattle.world_rules.specs.Run.{events_of}
use Rattle.cmd_sim.specs.KeysOfSim.{sim_ring}
use Rattle.cmd_sim.specs.Worlds.{sim_setting, sim_world}
use Rattle.cmd_sim.proofs.Fresh.{fresh-drawn}
use Rattle.cmd_sim.proofs.laws.sim_executes_once.Goals as goal

pub returns : goal.returns
returns c = λ events bytes few.
    let drawn = c.names_are_words_drawn.ensures.schedule sim_setting 0 (events_of events) in
    let fresh =
    fresh-drawn c.names_are_words_drawn.ensures.fresh c.step_words_are_fresh.ensures.not_zero c.step_words_are_fresh.ensures.apart drawn.0 (sim_world events) drawn.1 few in
    record {
      once = c.calls_execute_once.ensures.schedule mt_lock sim_ring sim_setting 0 (events_of events) c.opens_what_it_sealed.ensures c.locks_keep_sizes.ensures.protocol
          c.setting_of_sim.ensures.seal.seal c.setting_is_sound.ensures bytes fresh;
      in_order = c.calls_run_in_order.ensures.schedule mt_lock sim_ring sim_setting 0 (events_of events) c.opens_what_it_sealed.ensures c.locks_keep_sizes.ensures.protocol
          c.setting_of_sim.ensures.seal.seal c.setting_is_sound.ensures bytes fresh;
      numbers = c.numbers_are_given_once.ensures.schedule sim_setting 0 (events_of events) fresh;
      no_notice_19 = c.notice_19_never_comes.ensures.schedule mt_lock sim_ring sim_setting 0 (events_of events) c.opens_what_it_sealed.ensures c.locks_keep_sizes.ensures.protocol
          c.setting_of_sim.ensures.seal.seal c.setting_is_sound.ensures bytes fresh;
    }
