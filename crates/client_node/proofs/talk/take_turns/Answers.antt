use Rattle.std.proofs.Common.{ℕ, Result, IsSome, OnOk, rules, refl, subst, ◌∙◌, arith}
use Rattle.client_node.specs.Ends.{CountsTurn}
use Rattle.client_node.specs.Talks.{began, rules_of}
use Rattle.client_node.specs.Writes.{seen}
use Rattle.client_node.specs.declared.end.End.{End}
use Rattle.client_node.proofs.Turning.{no_turns, stopped, turn_ended, turn_more, turns_done}
use Rattle.client_node.proofs.talk.take_turns.Goals as goal

pub returns-in-Err-turn-clause-keys : goal.returns-in-Err-turn-clause-keys
returns-in-Err-turn-clause-keys g c = c.take_turn-next.ensures.keys (g.S.Seal.keys c.args.seal.now) c.flush_all.ensures.keys

pub turns-preserved : goal.turns-preserved
turns-preserved g c =
    let turn = c.take_turn-next.ensures in
    let told = g.L.Link.told c.take_turn-next.new.link in
    let took = rw (c.in-Ok.is) at turn.turn in
    record {
      keys = turn.keys (g.S.Seal.keys c.args.seal.now) c.flush_all.ensures.keys;
      calls = turn.count ∙ c.flush_all.ensures.count ∙ c.turns.invariant.calls;
      room = search rules;
      goes_on = λ is. subst (λ (answer : Result ℕ End). OnOk answer (IsSome told)) c.in-Ok.is (turn.goes_on (c.in_default.ensures.goes_on (c.turns.invariant.goes_on is)));
      faults = subst (λ (answer : Result ℕ End). CountsTurn answer (g.L.Link.faults c.flush_all.new.link) (g.L.Link.faults c.take_turn-next.new.link)) c.in-Ok.is turn.counted
          ∙ c.in_default.ensures.counted ∙ c.turns.invariant.faults;
      place = turn.same_standing ∙ c.flush_all.ensures.same_standing ∙ c.turns.invariant.place;
      so_far = λ course reading opening read_so stands some opens.
          turn_more g.D.Draw.step g.S.Seal.lock (g.S.Seal.keys c.args.seal.now) reading opening (began c.args.first course) c.turns._count c.turns.now
          c.turns.client c.turns.draw c.turns.wire (seen (g.L.Link.told c.turns.link) (g.L.Link.faults c.turns.link)) (g.C.Clock.given c.turns.clock)
          (seen (g.L.Link.told c.args.link.now) (g.L.Link.faults c.args.link.now)) (g.C.Clock.given c.args.clock.now)
          c.flush_all.new.client c.flush_all.new.draw c.flush_all.new.wire (seen (g.L.Link.told c.flush_all.new.link) (g.L.Link.faults c.flush_all.new.link))
          took.0 c.in-Ok.moment c.take_turn-next.result.0 c.take_turn-next.new.draw c.take_turn-next.new.wire
          (seen (g.L.Link.told c.take_turn-next.new.link) (g.L.Link.faults c.take_turn-next.new.link)) (g.C.Clock.given c.take_turn-next.new.clock)
          c.turns-test.true read_so (c.turns.invariant.so_far course reading opening read_so stands some opens) c.in_default.ensures.flow c.in_default.ensures.same_in took.1 turn.same_out;
    }

pub turns-init : goal.turns-init
turns-init g c =
    record {
      keys = c.requires.keys;
      calls = refl;
      room = c.requires.room;
      goes_on = λ is. is;
      faults = refl;
      place = refl;
      so_far = λ course reading opening read_so stands some opens.
          no_turns (rules_of g.D.Draw.step g.S.Seal.lock (g.S.Seal.keys c.args.seal.now) reading) opening (began c.args.first course)
          c.args.client c.args.draw.now c.args.wire.now (seen (g.L.Link.told c.args.link.now) (g.L.Link.faults c.args.link.now)) (g.C.Clock.given c.args.clock.now)
          refl refl refl refl refl stands some opens.form opens.hears opens.tells;
    }

pub returns-in-Err-clause-talked : goal.returns-in-Err-clause-talked
returns-in-Err-clause-talked g c course reading opening read_so stands some opens =
    stopped g.D.Draw.step g.S.Seal.lock (g.S.Seal.keys c.args.seal.now) reading opening (began c.args.first course) c.turns._count c.turns.now
    c.turns.client c.turns.draw c.turns.wire (seen (g.L.Link.told c.turns.link) (g.L.Link.faults c.turns.link)) (g.C.Clock.given c.turns.clock)
    (seen (g.L.Link.told c.args.link.now) (g.L.Link.faults c.args.link.now)) (g.C.Clock.given c.args.clock.now)
    c.in-Err.end c.flush_all.new.client c.flush_all.new.draw c.flush_all.new.wire (seen (g.L.Link.told c.flush_all.new.link) (g.L.Link.faults c.flush_all.new.link))
    (omega (arith, c.turns-test.true)) (c.turns.invariant.so_far course reading opening read_so stands some opens) c.in-Err.ensures.flow c.in-Err.ensures.same_in.0

pub returns-in-Err-turn-clause-talked : goal.returns-in-Err-turn-clause-talked
returns-in-Err-turn-clause-talked g c course reading opening read_so stands some opens =
    turn_ended g.D.Draw.step g.S.Seal.lock (g.S.Seal.keys c.args.seal.now) reading opening (began c.args.first course) c.turns._count c.turns.now
    c.turns.client c.turns.draw c.turns.wire (seen (g.L.Link.told c.turns.link) (g.L.Link.faults c.turns.link)) (g.C.Clock.given c.turns.clock)
    (seen (g.L.Link.told c.args.link.now) (g.L.Link.faults c.args.link.now)) (g.C.Clock.given c.args.clock.now)
    c.flush_all.new.client c.flush_all.new.draw c.flush_all.new.wire (seen (g.L.Link.told c.flush_all.new.link) (g.L.Link.faults c.flush_all.new.link))
    c.in-Err-turn.end c.take_turn-next.result.0 c.take_turn-next.new.draw c.take_turn-next.new.wire
    (seen (g.L.Link.told c.take_turn-next.new.link) (g.L.Link.faults c.take_turn-next.new.link)) (g.C.Clock.given c.take_turn-next.new.clock)
    c.turns-test.true read_so (c.turns.invariant.so_far course reading opening read_so stands some opens) c.in_default.ensures.flow c.in_default.ensures.same_in
    (rw (c.in-Err-turn.is) at c.take_turn-next.ensures.turn) c.take_turn-next.ensures.same_out.0

pub returns-in-Ok-flush_all-clause-talked : goal.returns-in-Ok-flush_all-clause-talked
returns-in-Ok-flush_all-clause-talked g c course reading opening read_so stands some opens =
    turns_done g.D.Draw.step g.S.Seal.lock (g.S.Seal.keys c.args.seal.now) reading opening (began c.args.first course) c.turns._count c.turns.now
    c.turns.client c.turns.draw c.turns.wire (seen (g.L.Link.told c.turns.link) (g.L.Link.faults c.turns.link)) (g.C.Clock.given c.turns.clock)
    (seen (g.L.Link.told c.args.link.now) (g.L.Link.faults c.args.link.now)) (g.C.Clock.given c.args.clock.now)
    c.flush_all-2.new.client c.flush_all-2.new.draw c.flush_all-2.new.wire (seen (g.L.Link.told c.flush_all-2.new.link) (g.L.Link.faults c.flush_all-2.new.link))
    (omega (arith, c.turns-test.false, c.turns.auto._count-end)) (c.turns.invariant.so_far course reading opening read_so stands some opens) c.in-Ok-flush_all.ensures.flow c.in-Ok-flush_all.ensures.same_in.0

pub returns-in-Err-flush_all-clause-talked : goal.returns-in-Err-flush_all-clause-talked
returns-in-Err-flush_all-clause-talked g c course reading opening read_so stands some opens =
    stopped g.D.Draw.step g.S.Seal.lock (g.S.Seal.keys c.args.seal.now) reading opening (began c.args.first course) c.turns._count c.turns.now
    c.turns.client c.turns.draw c.turns.wire (seen (g.L.Link.told c.turns.link) (g.L.Link.faults c.turns.link)) (g.C.Clock.given c.turns.clock)
    (seen (g.L.Link.told c.args.link.now) (g.L.Link.faults c.args.link.now)) (g.C.Clock.given c.args.clock.now)
    c.in-Err-flush_all.end c.flush_all-2.new.client c.flush_all-2.new.draw c.flush_all-2.new.wire (seen (g.L.Link.told c.flush_all-2.new.link) (g.L.Link.faults c.flush_all-2.new.link))
    (omega (arith, c.turns-test.false, c.turns.auto._count-end)) (c.turns.invariant.so_far course reading opening read_so stands some opens) c.in-Err-flush_all.ensures.flow c.in-Err-flush_all.ensures.same_in.0
