-- The events of a server that the trace of its connections tells of, in order.
use Rattle.std.specs.Prelude.{List, [], ◌∷◌, ◌++◌}
use Rattle.server_core.specs.declared.desk.DeskFault.{DeskFault}
use Rattle.server_rules.specs.Server.{Server}
use Rattle.server_node.specs.Connection.{Close, Heard, Hearing, Place, ServerTrace, Sight, Spent, Turn, Unbegun, Unfed, Unread, Working, began, turns_from}
use Rattle.server_node.specs.Trace.{Act, Rules, Talk, packets_acts, work_acts}
use Rattle.server_node.specs.declared.conn.ConnEnd.{ConnEnd}
use Rattle.cmd_serve.specs.Connections.{AreConnections, Between, Connection}

-- of a turn: the packets of the piece, each with the attach that follows a session's first one, a tick, and the jobs that run
abbrev pub turn_acts : {S V : Type 0} → Rules S V → Turn → Place S V → List Act
turn_acts rules turn place = packets_acts rules turn.now turn.packets place.talk ++ work_acts turn.now turn.runs

-- of a list of turns, the last one first
abbrev pub turns_acts : {S V : Type 0} → Rules S V → Place S V → List Turn → List Act
turns_acts rules place [] = []
turns_acts rules place (last ∷ earlier) = turns_acts rules place earlier ++ turn_acts rules last (turns_from rules place earlier)

-- of what came behind the turns
abbrev pub close_acts : {S V : Type 0} → Rules S V → Close → Place S V → List Act
close_acts rules Unbegun place = []
close_acts rules (Unread answer) place = []
close_acts rules Spent place = []
close_acts rules (Unfed piece now end) place = []
close_acts rules (Heard piece now packets end) place = packets_acts rules now packets place.talk
close_acts rules (Hearing piece now packets packet acts end) place = packets_acts rules now packets place.talk ++ acts
close_acts rules (Working turn acts end) place = packets_acts rules turn.now turn.packets place.talk ++ acts

-- of a connection
abbrev pub connection_acts : {S V : Type 0} → Rules S V → Talk S V → List Turn → Close → List Act
connection_acts rules talk turns close = turns_acts rules (began talk) turns ++ close_acts rules close (turns_from rules (began talk) turns)

abbrev pub trace_acts : {S V : Type 0} {rules : Rules S V} {talk : Talk S V} {before : Sight} {end : ConnEnd} {desk : Server → Type 0} {behind : DeskFault → Server → Type 0} {drawn : S} {service : V} {after : Sight}
    → ServerTrace rules talk before end desk behind drawn service after → List Act
trace_acts {rules = rules} {talk = talk} trace = connection_acts rules talk trace.turns trace.close

-- of all connections of a run, the last one first
abbrev pub run_acts : {S V : Type 0} (rules : Rules S V) (first : Between S V) (connections : List (Connection S V)) → AreConnections rules first connections → List Act
run_acts rules first [] are = []
run_acts rules first (last ∷ earlier) are = run_acts rules first earlier are.0 ++ trace_acts are.1.trace
