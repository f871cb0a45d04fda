use Rattle.sess_journal.proofs.ReplayLemmas.{OneList, opened}
use Rattle.sess_journal.proofs.laws.lawful_files_are_opened.Goals as goal

pub returns : goal.returns
returns g c = λ by_seed seed entries reached file at unseals spells replays.
    let law : OneList = record { front = c.files_spell_one_list.ensures.front; no_fault = c.files_spell_one_list.ensures.no_fault } in
    opened law by_seed seed unseals entries reached file at spells replays
