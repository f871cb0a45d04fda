use Rattle.law_server_replay.proofs.Drawing.{OfSalts, attach_later, packet_later, tick_later, work_later}
use Rattle.law_server_replay.proofs.laws.events_draw_words.Goals as goal

module _ (g : Rattle.law_server_replay.proofs.laws.events_draw_words.Given.Over) (c : goal.After-sessions_draw_salts g) where
  known : OfSalts g.row.D.Denot
  known = record { owes = c.sessions_draw_salts.ensures.owes; opens = c.sessions_draw_salts.ensures.opens; attaches = c.sessions_draw_salts.ensures.attaches }

pub returns-clause-packet : goal.returns-clause-packet
returns-clause-packet g c = λ setting envelope server draw. packet_later (known g c) setting server draw envelope

pub returns-clause-tick : goal.returns-clause-tick
returns-clause-tick g c = λ setting server draw. tick_later (known g c) setting server draw

pub returns-clause-attach : goal.returns-clause-attach
returns-clause-attach g c = λ setting name server draw. attach_later (known g c) setting server draw name

pub returns-clause-work : goal.returns-clause-work
returns-clause-work g c = λ setting place serve service server draw. work_later (known g c) setting server draw place serve service
