use Rattle.std.proofs.Common.{[], arith, length-append, refl}
use Rattle.server_node.specs.declared.line.Line.TheVariants.{Raw}
use Rattle.server_node.proofs.Pieces.{piece_done, piece_unfed, piece_working, stands_fed, whole_done, whole_ended}
use Rattle.server_node.proofs.serve.take_piece.Goals as goal

pub returns-in-Err-clause-took : goal.returns-in-Err-clause-took
returns-in-Err-clause-took g c =
    piece_unfed g.K.D.Draw.step g.V.Service.step g.K.S.Seal.lock (g.K.Desk.keys c.args.desk.now)
    (record { desk = g.K.Desk.StandsFor c.args.desk.now; behind = g.K.Desk.Behind c.args.desk.now; drawn = g.K.Desk.drawn c.args.desk.now; service = c.args.service.now; heard = c.args.heard.now; line = c.args.line; told = g.L.Link.told c.args.link.now })
    c.args.piece.now c.args.now c.args.left.now c.in-Err.end (Raw []) c.in-Err.ensures.ends c.in-Err.ensures.unfed

pub returns-in-Err-take_whole-clause-took : goal.returns-in-Err-take_whole-clause-took
returns-in-Err-take_whole-clause-took g c outside place bytes first is stands few before =
    whole_ended g.K.D.Draw.step g.V.Service.step g.K.S.Seal.lock (g.K.Desk.keys c.args.desk.now)
    (λ service. record { desk = g.K.Desk.StandsFor c.args.desk.now; behind = g.K.Desk.Behind c.args.desk.now; drawn = g.K.Desk.drawn c.args.desk.now; service = service; heard = c.args.heard.now; line = c.in-Ok.line; told = g.L.Link.told c.args.link.now })
    (λ service. record { desk = g.K.Desk.StandsFor c.take_whole.new.desk; behind = g.K.Desk.Behind c.take_whole.new.desk; drawn = g.K.Desk.drawn c.take_whole.new.desk; service = service; heard = c.take_whole.new.heard; line = c.take_whole.new.line; told = g.L.Link.told c.take_whole.new.link })
    c.args.piece.now c.args.now c.in-Ok.line c.take_whole.new.line c.args.left.now c.take_whole.new.left g.K.Desk.MayAnswer c.in-Err-take_whole.end (Raw []) c.args.service.now outside place bytes first
    c.in-Err-take_whole.ensures.ends is
    (stands_fed (record { desk = g.K.Desk.StandsFor c.args.desk.now; behind = g.K.Desk.Behind c.args.desk.now; drawn = g.K.Desk.drawn c.args.desk.now; service = c.args.service.now; heard = c.args.heard.now; line = c.args.line; told = g.L.Link.told c.args.link.now })
    c.in-Ok.line c.args.piece.now c.args.now place bytes c.in-Ok.ensures.fed stands)
    refl refl before c.in-Err-take_whole.ensures.took c.requires.some c.in-Err-take_whole.ensures.left.stops

pub returns-in-Ok-work_all-clause-took : goal.returns-in-Ok-work_all-clause-took
returns-in-Ok-work_all-clause-took g c outside place bytes first is stands few before =
    piece_done g.K.D.Draw.step g.V.Service.step g.K.S.Seal.lock (g.K.Desk.keys c.args.desk.now) (g.K.Desk.keys c.take_whole.new.desk)
    (record { desk = g.K.Desk.StandsFor c.args.desk.now; behind = g.K.Desk.Behind c.args.desk.now; drawn = g.K.Desk.drawn c.args.desk.now; service = c.args.service.now; heard = c.args.heard.now; line = c.in-Ok.line; told = g.L.Link.told c.args.link.now }) (record { desk = g.K.Desk.StandsFor c.take_whole.new.desk; behind = g.K.Desk.Behind c.take_whole.new.desk; drawn = g.K.Desk.drawn c.take_whole.new.desk; service = c.args.service.now; heard = c.take_whole.new.heard; line = c.take_whole.new.line; told = g.L.Link.told c.take_whole.new.link })
    (record { desk = g.K.Desk.StandsFor c.work_all.new.desk; behind = g.K.Desk.Behind c.work_all.new.desk; drawn = g.K.Desk.drawn c.work_all.new.desk; service = c.work_all.new.service; heard = c.take_whole.new.heard; line = c.work_all.new.line; told = g.L.Link.told c.work_all.new.link })
    c.args.piece.now c.args.now outside place bytes first c.take_whole.new.left c.take_whole.ensures.same_keys is
    (whole_done g.K.D.Draw.step g.V.Service.step g.K.S.Seal.lock (g.K.Desk.keys c.args.desk.now)
    (λ service. record { desk = g.K.Desk.StandsFor c.args.desk.now; behind = g.K.Desk.Behind c.args.desk.now; drawn = g.K.Desk.drawn c.args.desk.now; service = service; heard = c.args.heard.now; line = c.in-Ok.line; told = g.L.Link.told c.args.link.now })
    (λ service. record { desk = g.K.Desk.StandsFor c.take_whole.new.desk; behind = g.K.Desk.Behind c.take_whole.new.desk; drawn = g.K.Desk.drawn c.take_whole.new.desk; service = service; heard = c.take_whole.new.heard; line = c.take_whole.new.line; told = g.L.Link.told c.take_whole.new.link })
    c.args.now c.in-Ok.line c.take_whole.new.line c.args.left.now c.take_whole.new.left c.args.service.now outside _ bytes first is
    (stands_fed (record { desk = g.K.Desk.StandsFor c.args.desk.now; behind = g.K.Desk.Behind c.args.desk.now; drawn = g.K.Desk.drawn c.args.desk.now; service = c.args.service.now; heard = c.args.heard.now; line = c.args.line; told = g.L.Link.told c.args.link.now })
    c.in-Ok.line c.args.piece.now c.args.now place bytes c.in-Ok.ensures.fed stands)
    refl refl (omega (arith, few, length-append place.came c.args.piece.now)) before c.in_default.ensures.took)
    c.work_all.ensures.same_in c.in-Ok-work_all.ensures.worked c.in_default.ensures.left.stops

pub returns-in-Err-work_all-clause-took : goal.returns-in-Err-work_all-clause-took
returns-in-Err-work_all-clause-took g c outside place bytes first is stands few before =
    piece_working g.K.D.Draw.step g.V.Service.step g.K.S.Seal.lock (g.K.Desk.keys c.args.desk.now) (g.K.Desk.keys c.take_whole.new.desk)
    (record { desk = g.K.Desk.StandsFor c.args.desk.now; behind = g.K.Desk.Behind c.args.desk.now; drawn = g.K.Desk.drawn c.args.desk.now; service = c.args.service.now; heard = c.args.heard.now; line = c.in-Ok.line; told = g.L.Link.told c.args.link.now }) (record { desk = g.K.Desk.StandsFor c.take_whole.new.desk; behind = g.K.Desk.Behind c.take_whole.new.desk; drawn = g.K.Desk.drawn c.take_whole.new.desk; service = c.args.service.now; heard = c.take_whole.new.heard; line = c.take_whole.new.line; told = g.L.Link.told c.take_whole.new.link })
    (record { desk = g.K.Desk.StandsFor c.work_all.new.desk; behind = g.K.Desk.Behind c.work_all.new.desk; drawn = g.K.Desk.drawn c.work_all.new.desk; service = c.work_all.new.service; heard = c.take_whole.new.heard; line = c.work_all.new.line; told = g.L.Link.told c.work_all.new.link })
    c.args.piece.now c.args.now g.K.Desk.MayAnswer c.in-Err-work_all.end (Raw []) outside place bytes first c.take_whole.new.left c.in-Err-work_all.ensures.ends c.take_whole.ensures.same_keys is
    (whole_done g.K.D.Draw.step g.V.Service.step g.K.S.Seal.lock (g.K.Desk.keys c.args.desk.now)
    (λ service. record { desk = g.K.Desk.StandsFor c.args.desk.now; behind = g.K.Desk.Behind c.args.desk.now; drawn = g.K.Desk.drawn c.args.desk.now; service = service; heard = c.args.heard.now; line = c.in-Ok.line; told = g.L.Link.told c.args.link.now })
    (λ service. record { desk = g.K.Desk.StandsFor c.take_whole.new.desk; behind = g.K.Desk.Behind c.take_whole.new.desk; drawn = g.K.Desk.drawn c.take_whole.new.desk; service = service; heard = c.take_whole.new.heard; line = c.take_whole.new.line; told = g.L.Link.told c.take_whole.new.link })
    c.args.now c.in-Ok.line c.take_whole.new.line c.args.left.now c.take_whole.new.left c.args.service.now outside _ bytes first is
    (stands_fed (record { desk = g.K.Desk.StandsFor c.args.desk.now; behind = g.K.Desk.Behind c.args.desk.now; drawn = g.K.Desk.drawn c.args.desk.now; service = c.args.service.now; heard = c.args.heard.now; line = c.args.line; told = g.L.Link.told c.args.link.now })
    c.in-Ok.line c.args.piece.now c.args.now place bytes c.in-Ok.ensures.fed stands)
    refl refl (omega (arith, few, length-append place.came c.args.piece.now)) before c.in_default.ensures.took)
    c.work_all.ensures.same_in c.in-Err-work_all.ensures.worked c.in_default.ensures.left.stops
