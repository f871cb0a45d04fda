use Rattle.server_node.proofs.Serving.{trace_unbegun}
use Rattle.server_node.proofs.serve.serve_one.Goals as goal

pub returns-in-Ok-clause-trace : goal.returns-in-Ok-clause-trace
returns-in-Ok-clause-trace g c = rw (← c.conn.view_is) c.take_turns-end.ensures.trace

pub returns-in-Err-clause-trace : goal.returns-in-Err-clause-trace
returns-in-Err-clause-trace g c outside talk is begins = rw (← c.conn.view_is)
    (trace_unbegun _ talk (g.K.Desk.StandsFor c.args.desk.now) (g.K.Desk.Behind c.args.desk.now) (g.K.Desk.drawn c.args.desk.now) c.args.service.now _ begins)

pub returns-in-Ok-clause-record : goal.returns-in-Ok-clause-record
returns-in-Ok-clause-record g c = rw (← c.conn.view_is) c.take_turns-end.ensures.record

pub returns-in-Ok-clause-first_fault : goal.returns-in-Ok-clause-first_fault
returns-in-Ok-clause-first_fault g c = rw (← c.conn.view_is) c.take_turns-end.ensures.first_fault
