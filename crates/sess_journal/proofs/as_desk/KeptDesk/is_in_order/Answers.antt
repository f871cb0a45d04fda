use Rattle.sess_journal.proofs.as_desk.KeptDesk.is_in_order.Goals as goal

pub returns : goal.returns
returns g c = λ desk server stands. stands.1.stands.between
