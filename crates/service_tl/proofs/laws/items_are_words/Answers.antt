use Rattle.service_tl.proofs.WordsLemmas.{item_words}
use Rattle.service_tl.proofs.laws.items_are_words.Goals as goal

pub returns : goal.returns
returns c = item_words c.sizes_of_spellings.ensures
