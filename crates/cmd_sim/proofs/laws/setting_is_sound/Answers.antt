use Rattle.cmd_sim.proofs.Sound.{setting-sound}
use Rattle.cmd_sim.proofs.laws.setting_is_sound.Goals as goal

pub returns : goal.returns
returns c = setting-sound c.bytes_stay_bytes.ensures.nil c.bindings_are_bytes.ensures c.registers_give_replies.ensures
