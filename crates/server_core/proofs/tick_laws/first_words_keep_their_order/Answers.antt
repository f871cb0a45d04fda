use Rattle.server_core.proofs.FirstWords.{first-words}
use Rattle.server_core.proofs.tick_laws.first_words_keep_their_order.Goals as goal

pub returns : goal.returns
returns c = λ name owed one later all. first-words name owed one later all
