use Rattle.std.proofs.Common.{[], ◌∙◌}
use Rattle.mt_edge.specs.declared.source.Got.TheVariants as got
use Rattle.server_node.specs.Writes.{end_in}
use Rattle.server_node.specs.declared.line.Line.TheVariants.{Raw}
use Rattle.server_node.proofs.Reading.{turn_missed, turn_of}
use Rattle.server_node.proofs.serve.take_turn.Goals as goal

pub returns-in-Bytes-clause-took : goal.returns-in-Bytes-clause-took
returns-in-Bytes-clause-took g c =
    turn_of g.K.D.Draw.step g.V.Service.step g.K.S.Seal.lock (g.K.Desk.keys c.args.desk.now) c.in-Bytes.count c.read.new.into c.now-now.result (end_in c.take_piece.result)
    (record { desk = g.K.Desk.StandsFor c.args.desk.now; behind = g.K.Desk.Behind c.args.desk.now; drawn = g.K.Desk.drawn c.args.desk.now; service = c.args.service.now; heard = c.args.heard.now; line = c.args.line; told = g.L.Link.told c.args.link.now })
    _ (g.L.Link.told c.read.new.self) (g.C.Clock.given c.args.clock.now) (g.C.Clock.given c.now-now.new.self) c.args.left.now c.take_piece.new.left
    (c.read.auto.into ∙ c.requires.room) c.in-Bytes.ensures.within c.in-Bytes.ensures.told (record { told = c.now-now.ensures.told; goes_on = c.now-now.ensures.goes_on }) c.take_piece.ensures.took

pub returns-in-End-clause-took : goal.returns-in-End-clause-took
returns-in-End-clause-took g c =
    turn_missed g.K.D.Draw.step g.V.Service.step g.K.S.Seal.lock (g.K.Desk.keys c.args.desk.now) got.End c.read.new.into
    (record { desk = g.K.Desk.StandsFor c.args.desk.now; behind = g.K.Desk.Behind c.args.desk.now; drawn = g.K.Desk.drawn c.args.desk.now; service = c.args.service.now; heard = c.args.heard.now; line = c.args.line; told = g.L.Link.told c.args.link.now })
    (Raw []) (g.L.Link.told c.read.new.self) (g.C.Clock.given c.args.clock.now) c.args.left.now tt (c.read.auto.into ∙ c.requires.room) c.in-End.ensures.told

pub returns-in-Failed-clause-took : goal.returns-in-Failed-clause-took
returns-in-Failed-clause-took g c =
    turn_missed g.K.D.Draw.step g.V.Service.step g.K.S.Seal.lock (g.K.Desk.keys c.args.desk.now) got.Failed c.read.new.into
    (record { desk = g.K.Desk.StandsFor c.args.desk.now; behind = g.K.Desk.Behind c.args.desk.now; drawn = g.K.Desk.drawn c.args.desk.now; service = c.args.service.now; heard = c.args.heard.now; line = c.args.line; told = g.L.Link.told c.args.link.now })
    (Raw []) (g.L.Link.told c.read.new.self) (g.C.Clock.given c.args.clock.now) c.args.left.now tt (c.read.auto.into ∙ c.requires.room) c.in-Failed.ensures.told
