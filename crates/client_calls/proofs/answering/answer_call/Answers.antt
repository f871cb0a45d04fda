use Rattle.call_table.specs.declared.call.Fate.TheVariants.{Done}
use Rattle.client_calls.proofs.SoundLemmas.{sound_settled}
use Rattle.client_calls.proofs.answering.answer_call.Goals as goal

pub returns-clause-sound : goal.returns-clause-sound
returns-clause-sound c last sound = rw (c.settle.ensures.kept) (sound_settled last _ (Done c.args.answer) _ sound)
