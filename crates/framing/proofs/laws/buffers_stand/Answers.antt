use Rattle.framing.proofs.Steps.{fresh, fed}
use Rattle.framing.proofs.laws.buffers_stand.Goals as goal

pub returns-clause-fresh : goal.returns-clause-fresh
returns-clause-fresh g c = λ form. fresh (g.F.Framing.form form) (g.met.F.Framing.lawful form)

pub returns-clause-fed : goal.returns-clause-fed
returns-clause-fed g c = λ form. fed (g.F.Framing.form form) (g.met.F.Framing.lawful form)
