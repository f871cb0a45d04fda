use Rattle.law_server.proofs.Drawing.{attaches_drawn, opens_drawn, owes_drawn}
use Rattle.law_server.proofs.lives.sessions_draw_salts.Goals as goal

pub returns-clause-owes : goal.returns-clause-owes
returns-clause-owes g c = λ setting speaker number seq verdict body. owes_drawn setting number seq verdict body speaker

pub returns-clause-opens : goal.returns-clause-opens
returns-clause-opens g c = λ setting speaker history judged. opens_drawn setting history judged speaker

pub returns-clause-attaches : goal.returns-clause-attaches
returns-clause-attaches g c = λ setting speaker. attaches_drawn setting speaker
