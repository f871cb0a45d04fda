use Rattle.std.proofs.Common.{rules, refl, sym, subst, ◌∙◌, arith}
use Rattle.client_node.specs.Talks.{rules_of}
use Rattle.client_node.specs.Trace.{ClientTrace, after_all}
use Rattle.client_node.specs.declared.plan.Batch.{Batch}
use Rattle.client_node.proofs.Connecting.{none_lost, not_link_lost, one_more_lost, still_tells}
use Rattle.client_node.proofs.Counting.{more_counted, none_counted}
use Rattle.client_node.proofs.Conversing.{lost_more, none_so_far, traced}
use Rattle.client_node.proofs.Undecided.{lost_undecided}
use Rattle.client_node.proofs.batch.connect_all.Goals as goal

pub lost-init : goal.lost-init
lost-init g c =
    record {
      keys = c.requires.keys;
      calls = refl;
      room = c.requires.room;
      lost = none_lost c.args.plan.now.port (g.N.Net.calls c.args.net.now);
      tells = λ is none few. is;
      still = λ is enough. is;
      left = omega arith;
      counted = none_counted (g.N.Net.calls c.args.net.now) (g.N.Net.faults c.args.net.now);
      so_far = λ course reading read_so stands some.
          none_so_far (rules_of g.D.Draw.step g.S.Seal.lock (g.S.Seal.keys c.args.seal.now) reading) c.args.plan.now course
          (g.N.Net.calls c.args.net.now) (g.C.Clock.given c.args.clock.now) c.args.client c.args.draw.now stands;
    }

pub returns-then-not-is_lost-clause-trace : goal.returns-then-not-is_lost-clause-trace
returns-then-not-is_lost-clause-trace g c course reading read_so stands some =
    let rules_so = rules_of g.D.Draw.step g.S.Seal.lock (g.S.Seal.keys c.args.seal.now) reading in
    let before = c.lost.invariant.so_far course reading read_so stands some in
    subst (λ (end : Batch). ClientTrace rules_so c.args.plan.now course end (g.N.Net.calls c.args.net.now) (g.N.Net.calls c.connect-next.new.net) (g.C.Clock.given c.args.clock.now) (g.C.Clock.given c.connect-next.new.clock) c.connect-next.result.0 c.connect-next.new.draw)
    (sym c.batch_of.ensures)
    (traced rules_so c.args.plan.now course c.lost._count (g.N.Net.calls c.args.net.now) (g.N.Net.calls c.lost.net) (g.N.Net.calls c.connect-next.new.net)
    (g.C.Clock.given c.args.clock.now) (g.C.Clock.given c.lost.clock) (g.C.Clock.given c.connect-next.new.clock) c.lost.client c.connect-next.result.0 c.lost.draw c.connect-next.new.draw c.connect-next.result.1
    some (omega (arith, c.lost-test.true)) (not_link_lost c.connect-next.result.1 (c.is_lost.ensures.other c.if-not-is_lost.true) _)
    before (c.connect-next.ensures.tried (after_all rules_so c.args.plan.now course before.attempts) reading read_so before.stands (lost_undecided rules_so c.args.plan.now course before.attempts some before.lost)))

pub lost-preserved : goal.lost-preserved
lost-preserved g c =
    let same = c.is_lost.ensures.lost c.if-not-is_lost.false in
    record {
      keys = c.connect-next.ensures.keys;
      calls = c.connect-next.ensures.count ∙ c.lost.invariant.calls;
      room = search rules;
      lost = one_more_lost c.args.plan.now.port c.lost._count (g.N.Net.calls c.args.net.now) (g.N.Net.calls c.lost.net) (g.N.Net.calls c.connect-next.new.net) c.connect-next.result.1 same
          c.lost.invariant.lost c.connect-next.ensures.connected;
      tells = still_tells (g.N.Net.calls c.args.net.now) (g.N.Net.calls c.lost.net) (g.N.Net.calls c.connect-next.new.net)
          (g.N.Net.faults c.args.net.now) (g.N.Net.faults c.lost.net) (g.N.Net.faults c.connect-next.new.net)
          c.lost.invariant.tells c.connect-next.ensures.first_fault c.connect-next.ensures.counted;
      still = λ is enough. c.connect-next.ensures.still_tells (c.lost.invariant.still is enough) (omega (arith, enough, c.lost.invariant.left, c.lost-test.true));
      left = omega (arith, c.lost.invariant.left, c.connect-next.ensures.room);
      counted = more_counted (g.N.Net.calls c.args.net.now) (g.N.Net.calls c.lost.net) (g.N.Net.calls c.connect-next.new.net)
          (g.N.Net.faults c.args.net.now) (g.N.Net.faults c.lost.net) (g.N.Net.faults c.connect-next.new.net)
          c.lost.invariant.counted c.connect-next.ensures.faults;
      so_far = λ course reading read_so stands some.
          let before = c.lost.invariant.so_far course reading read_so stands some in
          let rules_so = rules_of g.D.Draw.step g.S.Seal.lock (g.S.Seal.keys c.args.seal.now) reading in
          lost_more rules_so c.args.plan.now course c.lost._count (g.N.Net.calls c.args.net.now) (g.N.Net.calls c.lost.net) (g.N.Net.calls c.connect-next.new.net)
          (g.C.Clock.given c.args.clock.now) (g.C.Clock.given c.lost.clock) (g.C.Clock.given c.connect-next.new.clock) c.lost.client c.connect-next.result.0 c.lost.draw c.connect-next.new.draw c.connect-next.result.1
          same before (c.connect-next.ensures.tried (after_all rules_so c.args.plan.now course before.attempts) reading read_so before.stands (lost_undecided rules_so c.args.plan.now course before.attempts some before.lost));
    }

pub returns-then-not-is_lost-clause-still_tells : goal.returns-then-not-is_lost-clause-still_tells
returns-then-not-is_lost-clause-still_tells g c is enough =
    c.connect-next.ensures.still_tells (c.lost.invariant.still is enough) (omega (arith, enough, c.lost.invariant.left, c.lost-test.true))

pub returns-then-not-is_lost-clause-faults : goal.returns-then-not-is_lost-clause-faults
returns-then-not-is_lost-clause-faults g c =
    more_counted (g.N.Net.calls c.args.net.now) (g.N.Net.calls c.lost.net) (g.N.Net.calls c.connect-next.new.net)
    (g.N.Net.faults c.args.net.now) (g.N.Net.faults c.lost.net) (g.N.Net.faults c.connect-next.new.net)
    c.lost.invariant.counted c.connect-next.ensures.faults

pub returns-clause-still_tells : goal.returns-clause-still_tells
returns-clause-still_tells g c is enough =
    c.connect-client.ensures.still_tells (c.lost.invariant.still is enough) (omega (arith, enough, c.lost.invariant.left, c.lost-test.false, c.lost.auto._count-end))

pub returns-clause-faults : goal.returns-clause-faults
returns-clause-faults g c =
    more_counted (g.N.Net.calls c.args.net.now) (g.N.Net.calls c.lost.net) (g.N.Net.calls c.connect-client.new.net)
    (g.N.Net.faults c.args.net.now) (g.N.Net.faults c.lost.net) (g.N.Net.faults c.connect-client.new.net)
    c.lost.invariant.counted c.connect-client.ensures.faults

pub returns-clause-trace : goal.returns-clause-trace
returns-clause-trace g c course reading read_so stands some =
    let rules_so = rules_of g.D.Draw.step g.S.Seal.lock (g.S.Seal.keys c.args.seal.now) reading in
    let before = c.lost.invariant.so_far course reading read_so stands some in
    subst (λ (end : Batch). ClientTrace rules_so c.args.plan.now course end (g.N.Net.calls c.args.net.now) (g.N.Net.calls c.connect-client.new.net) (g.C.Clock.given c.args.clock.now) (g.C.Clock.given c.connect-client.new.clock) c.connect-client.result.0 c.connect-client.new.draw)
    (sym c.batch_of-2.ensures)
    (traced rules_so c.args.plan.now course c.lost._count (g.N.Net.calls c.args.net.now) (g.N.Net.calls c.lost.net) (g.N.Net.calls c.connect-client.new.net)
    (g.C.Clock.given c.args.clock.now) (g.C.Clock.given c.lost.clock) (g.C.Clock.given c.connect-client.new.clock) c.lost.client c.connect-client.result.0 c.lost.draw c.connect-client.new.draw c.connect-client.result.1
    some (omega (arith, c.lost-test.false, c.lost.auto._count-end)) (λ lost. omega (arith, c.lost-test.false, c.lost.auto._count-end))
    before (c.connect-client.ensures.tried (after_all rules_so c.args.plan.now course before.attempts) reading read_so before.stands (lost_undecided rules_so c.args.plan.now course before.attempts some before.lost)))
