use Rattle.std.proofs.Common.{refl}
use Rattle.server_node.proofs.Answering.{came_none, hear_answered, hear_failed}
use Rattle.server_node.proofs.taking.hear.Goals as goal

pub returns-in-Ok-Some-clause-came : goal.returns-in-Ok-Some-clause-came
returns-in-Ok-Some-clause-came g c =
    hear_answered g.K.D.Draw.step g.V.Service.step g.K.S.Seal.lock (g.K.Desk.keys c.args.desk.now) (g.K.Desk.StandsFor c.args.desk.now) (g.K.Desk.StandsFor c.take_next.new.desk) (g.K.Desk.Behind c.args.desk.now) (g.K.Desk.Behind c.take_next.new.desk)
    (g.K.Desk.drawn c.args.desk.now) (g.K.Desk.drawn c.take_next.new.desk) c.args.heard.now c.answer.new.heard c.args.wire.now c.take_next.new.wire c.answer.new.wire
    (g.L.Link.told c.args.link.now) (g.L.Link.told c.answer.new.link) c.args.now c.in-Ok-Some.reply c.in-Ok-Some.reply.heard c.answer.result refl
    c.opens_what_it_sealed.ensures (c.one_refusal.ensures g.K.S.Seal.lock) c.take_next.ensures.same_out c.answer.ensures.same_in (rw (c.in-Ok-Some.field-0-is) at c.in-Ok-Some.ensures.next) c.answer.ensures.ends c.answer.ensures.says

pub returns-in-Ok-None-clause-came : goal.returns-in-Ok-None-clause-came
returns-in-Ok-None-clause-came g c =
    let next = rw (c.in-Ok-None.field-0-is) at c.in-Ok-None.ensures.next in (
      next.0,
      came_none g.K.D.Draw.step g.V.Service.step g.K.S.Seal.lock (g.K.Desk.keys c.args.desk.now) (g.K.Desk.StandsFor c.args.desk.now) (g.K.Desk.StandsFor c.take_next.new.desk) (g.K.Desk.Behind c.args.desk.now) (g.K.Desk.Behind c.take_next.new.desk)
          (g.K.Desk.drawn c.args.desk.now) (g.K.Desk.drawn c.take_next.new.desk) c.args.heard.now c.args.wire.now c.take_next.new.wire (g.L.Link.told c.args.link.now) next.1 c.take_next.ensures.same_out,
    )

pub returns-in-Err-clause-came : goal.returns-in-Err-clause-came
returns-in-Err-clause-came g c =
    hear_failed g.K.D.Draw.step g.V.Service.step g.K.S.Seal.lock (g.K.Desk.keys c.args.desk.now) (g.K.Desk.StandsFor c.args.desk.now) (g.K.Desk.StandsFor c.take_next.new.desk) (g.K.Desk.Behind c.args.desk.now) (g.K.Desk.Behind c.take_next.new.desk)
    (g.K.Desk.drawn c.args.desk.now) (g.K.Desk.drawn c.take_next.new.desk) c.args.heard.now c.args.wire.now c.take_next.new.wire (g.L.Link.told c.args.link.now) c.args.now c.in-Err.end
    c.take_next.ensures.same_out c.in-Err.ensures.next
