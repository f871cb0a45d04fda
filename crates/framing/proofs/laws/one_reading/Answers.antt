use Rattle.framing.proofs.Readings.{one_stream, stream_or_fault, one_faulty}
use Rattle.framing.proofs.laws.one_reading.Goals as goal

pub returns-clause-stream : goal.returns-clause-stream
returns-clause-stream g c = λ form. one_stream (g.F.Framing.form form) (g.met.F.Framing.lawful form)

pub returns-clause-apart : goal.returns-clause-apart
returns-clause-apart g c = λ form. stream_or_fault (g.F.Framing.form form) (g.met.F.Framing.lawful form)

pub returns-clause-fault : goal.returns-clause-fault
returns-clause-fault g c = λ form. one_faulty (g.F.Framing.form form) (g.met.F.Framing.lawful form)
