use Rattle.server_output.specs.Items.{item_of}
use Rattle.server_output.proofs.Sizes.{said-size, said-is_words, said-short}
use Rattle.server_output.proofs.laws.sizes_of_said.Goals as goal

pub returns-clause-size : goal.returns-clause-size
returns-clause-size c said fits = said-size c.sizes_of_spellings.ensures said fits

pub returns-clause-words : goal.returns-clause-words
returns-clause-words c said can fits = c.items_are_words.ensures (item_of said) fits (said-is_words said can)

pub returns-clause-short : goal.returns-clause-short
returns-clause-short c said can = said-short said can
