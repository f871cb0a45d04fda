use Rattle.std.proofs.Common.{[], rules, arith, length, refl, ◌∙◌}
use Rattle.server_node.specs.declared.line.Line.TheVariants.{Raw}
use Rattle.server_node.proofs.Goings.{fewer_both, same_fewer}
use Rattle.server_node.proofs.Serving.{turn_more, turns_ended, turns_none, turns_spent}
use Rattle.server_node.proofs.Turning.{none_read, one_more_read, read_to_end}
use Rattle.server_node.proofs.serve.take_turns.Goals as goal

pub turns-init : goal.turns-init
turns-init g c = record {
  so_far = λ outside talk is begins.
      turns_none _ talk (g.K.Desk.StandsFor c.args.desk.now) (g.K.Desk.Behind c.args.desk.now) (g.K.Desk.drawn c.args.desk.now) c.args.service.now c.new-heard.result c.server.result
      (record { told = g.L.Link.told c.args.link.now; given = g.C.Clock.given c.args.clock.now; left = c.args.left.now }) c.new-heard.ensures c.server.ensures begins;
  room = c.requires.room;
  read = none_read (g.L.Link.told c.args.link.now);
  place = refl;
  faults = refl;
  tells = λ is none. is;
  fewer = same_fewer c.args.left.now;
  some = c.requires.some;
  same_keys = refl;
  same_binding = refl;
  desk_counted = refl;
}

pub returns-in-Err-clause-record : goal.returns-in-Err-clause-record
returns-in-Err-clause-record g c =
    read_to_end g.K.Desk.MayAnswer c.in-Err.end c.turns._count (length c.take_turn.new.into) (g.L.Link.told c.args.link.now) (g.L.Link.told c.turns.link) (g.L.Link.told c.take_turn.new.link)
    (search rules) (omega (arith, c.turns-test.true, c.turns.auto._count-end)) c.in-Err.ensures.ends c.turns.invariant.read c.in-Err.ensures.turned

pub returns-in-Err-clause-trace : goal.returns-in-Err-clause-trace
returns-in-Err-clause-trace g c outside talk is begins =
    turns_ended g.K.D.Draw.step g.V.Service.step g.K.S.Seal.lock (g.K.Desk.keys c.args.desk.now) (g.K.Desk.keys c.turns.desk) outside talk _ c.turns._count
    (record { desk = g.K.Desk.StandsFor c.turns.desk; behind = g.K.Desk.Behind c.turns.desk; drawn = g.K.Desk.drawn c.turns.desk; service = c.turns.service; heard = c.turns.heard; line = c.turns.line; told = g.L.Link.told c.turns.link })
    (record { desk = g.K.Desk.StandsFor c.take_turn.new.desk; behind = g.K.Desk.Behind c.take_turn.new.desk; drawn = g.K.Desk.drawn c.take_turn.new.desk; service = c.take_turn.new.service; heard = c.take_turn.new.heard; line = Raw []; told = g.L.Link.told c.take_turn.new.link })
    (record { told = g.L.Link.told c.turns.link; given = g.C.Clock.given c.turns.clock; left = c.turns.left }) (record { told = g.L.Link.told c.take_turn.new.link; given = g.C.Clock.given c.take_turn.new.clock; left = c.take_turn.new.left }) c.in-Err.end
    c.turns.invariant.same_keys (omega (arith, c.turns-test.true, c.turns.auto._count-end)) is (c.turns.invariant.so_far outside talk is begins) c.in-Err.ensures.took

pub returns-clause-trace : goal.returns-clause-trace
returns-clause-trace g c outside talk is begins =
    turns_spent _ talk _ c.turns._count
    (record { desk = g.K.Desk.StandsFor c.turns.desk; behind = g.K.Desk.Behind c.turns.desk; drawn = g.K.Desk.drawn c.turns.desk; service = c.turns.service; heard = c.turns.heard; line = c.turns.line; told = g.L.Link.told c.turns.link })
    (record { told = g.L.Link.told c.turns.link; given = g.C.Clock.given c.turns.clock; left = c.turns.left })
    (omega (arith, c.turns-test.false, c.turns.auto._count-end)) (c.turns.invariant.so_far outside talk is begins)

pub turns-preserved : goal.turns-preserved
turns-preserved g c =
    let so_far = c.turns.invariant in
    let turn = c.in-Ok.ensures in
    record {
      so_far = λ outside talk is begins.
          turn_more g.K.D.Draw.step g.V.Service.step g.K.S.Seal.lock (g.K.Desk.keys c.args.desk.now) (g.K.Desk.keys c.turns.desk) outside talk _ c.turns._count
          (record { desk = g.K.Desk.StandsFor c.turns.desk; behind = g.K.Desk.Behind c.turns.desk; drawn = g.K.Desk.drawn c.turns.desk; service = c.turns.service; heard = c.turns.heard; line = c.turns.line; told = g.L.Link.told c.turns.link })
          (record { desk = g.K.Desk.StandsFor c.take_turn.new.desk; behind = g.K.Desk.Behind c.take_turn.new.desk; drawn = g.K.Desk.drawn c.take_turn.new.desk; service = c.take_turn.new.service; heard = c.take_turn.new.heard; line = c.in-Ok.next; told = g.L.Link.told c.take_turn.new.link })
          (record { told = g.L.Link.told c.turns.link; given = g.C.Clock.given c.turns.clock; left = c.turns.left }) (record { told = g.L.Link.told c.take_turn.new.link; given = g.C.Clock.given c.take_turn.new.clock; left = c.take_turn.new.left })
          so_far.same_keys (omega (arith, c.turns-test.true, c.turns.auto._count-end)) is (so_far.so_far outside talk is begins) turn.took;
      room = search rules;
      read = one_more_read c.turns._count (length c.take_turn.new.into) (g.L.Link.told c.args.link.now) (g.L.Link.told c.turns.link) (g.L.Link.told c.take_turn.new.link) (search rules) so_far.read turn.turned;
      place = c.take_turn.ensures.same_standing ∙ so_far.place;
      faults = turn.counted ∙ so_far.faults;
      tells = λ is none. c.take_turn.ensures.first_fault (so_far.tells is none) (so_far.faults ∙ none);
      fewer = fewer_both c.args.left.now c.turns.left c.take_turn.new.left so_far.fewer turn.left.fewer;
      some = turn.left.stops;
      same_keys = c.take_turn.ensures.same_keys ∙ so_far.same_keys;
      same_binding = c.take_turn.ensures.same_binding ∙ so_far.same_binding;
      desk_counted = turn.desk_counted ∙ so_far.desk_counted;
    }
