use Rattle.std.proofs.Common.{inl, inr, refl, take, ◌∙◌}
use Rattle.client_node.specs.Writes.{seen}
use Rattle.client_node.proofs.Reading.{either_counts, got_piece, missed_piece, no_piece}
use Rattle.client_node.proofs.talk.take_turn.Goals as goal

pub returns-in-Ok-clause-turn : goal.returns-in-Ok-clause-turn
returns-in-Ok-clause-turn g c = (
  take c.in-Bytes.count c.read.new.into,
  got_piece g.D.Draw.step g.S.Seal.lock (g.S.Seal.keys c.args.seal.now) c.args.client c.args.draw.now c.args.wire.now (seen (g.L.Link.told c.args.link.now) (g.L.Link.faults c.args.link.now)) (g.C.Clock.given c.args.clock.now)
      c.read.new.into c.in-Bytes.count c.now-now.result _ c.take_piece-client.result.0 c.take_piece-client.new.draw c.take_piece-client.new.wire
      (seen (g.L.Link.told c.read.new.self) (g.L.Link.faults c.read.new.self)) (g.C.Clock.given c.now-now.new.self)
      (c.read.auto.into ∙ c.requires.room) c.in-Bytes.ensures.within c.in-Bytes.ensures.told c.in-Bytes.ensures.counted (record { told = c.now-now.ensures.told; goes_on = c.now-now.ensures.goes_on })
      (rw (c.in-Ok.is) at c.take_piece-client.ensures.took),
)

pub returns-in-Err-clause-turn : goal.returns-in-Err-clause-turn
returns-in-Err-clause-turn g c =
    inr (
      take c.in-Bytes.count c.read.new.into,
      c.now-now.result,
      got_piece g.D.Draw.step g.S.Seal.lock (g.S.Seal.keys c.args.seal.now) c.args.client c.args.draw.now c.args.wire.now (seen (g.L.Link.told c.args.link.now) (g.L.Link.faults c.args.link.now)) (g.C.Clock.given c.args.clock.now)
          c.read.new.into c.in-Bytes.count c.now-now.result _ c.take_piece-client.result.0 c.take_piece-client.new.draw c.take_piece-client.new.wire
          (seen (g.L.Link.told c.read.new.self) (g.L.Link.faults c.read.new.self)) (g.C.Clock.given c.now-now.new.self)
          (c.read.auto.into ∙ c.requires.room) c.in-Bytes.ensures.within c.in-Bytes.ensures.told c.in-Bytes.ensures.counted (record { told = c.now-now.ensures.told; goes_on = c.now-now.ensures.goes_on })
          (rw (c.in-Err.is) at c.take_piece-client.ensures.took),
    )

pub returns-in-End : goal.returns-in-End
returns-in-End g c =
    let none = no_piece c.read.result c.in-End.is in
    record {
      keys = λ ring has. has;
      count = refl;
      decided = tt;
      goes_on = λ is. tt;
      first_fault = c.read.ensures.first_fault;
      counted = either_counts c.read.result (g.L.Link.faults c.args.link.now) (g.L.Link.faults c.read.new.self) none c.read.ensures.counted;
      same_standing = c.read.ensures.same_standing;
      turn = inl (
        refl,
        (
          c.read.result,
          missed_piece c.args.client c.args.draw.now (seen (g.L.Link.told c.args.link.now) (g.L.Link.faults c.args.link.now)) (g.C.Clock.given c.args.clock.now) c.read.result c.read.new.into (seen (g.L.Link.told c.read.new.self) (g.L.Link.faults c.read.new.self))
              (c.read.auto.into ∙ c.requires.room) none c.read.ensures.told c.read.ensures.counted,
        ),
      );
      same_out = (refl, refl, refl);
    }
