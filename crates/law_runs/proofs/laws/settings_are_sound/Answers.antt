use Rattle.law_runs.proofs.Sound.{sound-under}
use Rattle.law_runs.proofs.laws.settings_are_sound.Goals as goal

pub returns : goal.returns
returns g c = sound-under c.bytes_stay_bytes.ensures.nil c.bindings_are_bytes.ensures c.registers_give_replies.ensures
