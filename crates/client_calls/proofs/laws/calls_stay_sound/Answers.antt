use Rattle.client_calls.proofs.SoundLemmas.{sound_again, sound_flagged, sound_later, sound_sent, sound_settled}
use Rattle.client_calls.proofs.laws.calls_stay_sound.Goals as goal

pub returns-clause-settled : goal.returns-clause-settled
returns-clause-settled c = sound_settled

pub returns-clause-flagged : goal.returns-clause-flagged
returns-clause-flagged c = sound_flagged

pub returns-clause-again : goal.returns-clause-again
returns-clause-again c = sound_again

pub returns-clause-sent : goal.returns-clause-sent
returns-clause-sent c = sound_sent

pub returns-clause-later : goal.returns-clause-later
returns-clause-later c last later rows le sound = sound_later last later rows le sound
