use Rattle.std.proofs.Common.{List, refl, sym, subst, ◌∙◌, arith}
use Rattle.auth_keys.specs.declared.ring.RingKey.{RingKey}
use Rattle.server_node.specs.Trace.{IsOutside, rules_of}
use Rattle.cmd_serve.specs.Connections.{behind_all}
use Rattle.cmd_serve.proofs.Connecting.{all-served, counts-desk, counts-going, desk-going, each-served, full-answered, left-going, none-so-far, one-more-served}
use Rattle.cmd_serve.proofs.connections.serve_all.Goals as goal

pub connections-init : goal.connections-init
connections-init g c = record {
  so_far = λ outside first is stands. none-so-far (rules_of g.K.D.Draw.step g.V.Service.step outside) first (record { desk = g.K.Desk.StandsFor c.args.desk.now; behind = g.K.Desk.Behind c.args.desk.now; drawn = g.K.Desk.drawn c.args.desk.now; service = c.args.service.now; given = g.C.Clock.given c.args.clock.now; left = c.args.left.now; calls = g.N.Net.calls c.args.net.now }) stands;
  faults = refl;
  tells = λ is none. is;
  some = c.requires.some;
  desk_count = refl;
  same_keys = refl;
  same_binding = refl;
}

pub connections-preserved : goal.connections-preserved
connections-preserved g c =
    let before = c.connections.invariant in
    let none = sym c.ending_of.ensures ∙ c.in_default.is in
    record {
      so_far = λ outside first is stands.
          let so_far = before.so_far outside first is stands in
          one-more-served (rules_of g.K.D.Draw.step g.V.Service.step outside) first c.connections._served (g.N.Net.calls c.args.net.now) (record { desk = g.K.Desk.StandsFor c.connections.desk; behind = g.K.Desk.Behind c.connections.desk; drawn = g.K.Desk.drawn c.connections.desk; service = c.connections.service; given = g.C.Clock.given c.connections.clock; left = c.connections.left; calls = g.N.Net.calls c.connections.net }) (record { desk = g.K.Desk.StandsFor c.serve_next-end.new.desk; behind = g.K.Desk.Behind c.serve_next-end.new.desk; drawn = g.K.Desk.drawn c.serve_next-end.new.desk; service = c.serve_next-end.new.service; given = g.C.Clock.given c.serve_next-end.new.clock; left = c.serve_next-end.new.left; calls = g.N.Net.calls c.serve_next-end.new.net })
          c.serve_next-end.result none so_far
          (c.serve_next-end.ensures.took outside (behind_all first so_far.connections) (subst (λ (ring : List RingKey). IsOutside g.K.S.Seal.lock ring outside) (sym before.same_keys) is) so_far.stands);
      faults = counts-going c.serve_next-end.result (g.N.Net.faults c.args.net.now) (g.N.Net.faults c.connections.net) (g.N.Net.faults c.serve_next-end.new.net) none before.faults c.serve_next-end.ensures.counted;
      tells = λ is none. c.serve_next-end.ensures.first_fault (before.tells is none) (before.faults ∙ none);
      some = left-going c.serve_next-end.result c.connections.left c.serve_next-end.new.left none before.some c.serve_next-end.ensures.left;
      desk_count = desk-going c.serve_next-end.result (g.K.Desk.fault_count c.args.desk.now) (g.K.Desk.fault_count c.connections.desk) (g.K.Desk.fault_count c.serve_next-end.new.desk) none before.desk_count c.serve_next-end.ensures.desk_counted;
      same_keys = c.serve_next-end.ensures.same_keys ∙ before.same_keys;
      same_binding = c.serve_next-end.ensures.same_binding ∙ before.same_binding;
    }

pub returns-in-Some-clause-served : goal.returns-in-Some-clause-served
returns-in-Some-clause-served g c outside first is stands =
    let before = c.connections.invariant in
    let so_far = before.so_far outside first is stands in
    all-served (rules_of g.K.D.Draw.step g.V.Service.step outside) first c.connections._served c.args.conns (g.N.Net.calls c.args.net.now) (record { desk = g.K.Desk.StandsFor c.connections.desk; behind = g.K.Desk.Behind c.connections.desk; drawn = g.K.Desk.drawn c.connections.desk; service = c.connections.service; given = g.C.Clock.given c.connections.clock; left = c.connections.left; calls = g.N.Net.calls c.connections.net }) (record { desk = g.K.Desk.StandsFor c.serve_next-end.new.desk; behind = g.K.Desk.Behind c.serve_next-end.new.desk; drawn = g.K.Desk.drawn c.serve_next-end.new.desk; service = c.serve_next-end.new.service; given = g.C.Clock.given c.serve_next-end.new.clock; left = c.serve_next-end.new.left; calls = g.N.Net.calls c.serve_next-end.new.net })
    g.K.Desk.MayAnswer c.serve_next-end.result c.in-Some.ending (λ fault server may behind. c.requires.faults fault c.serve_next-end.new.desk server may behind) c.serve_next-end.ensures.journal (omega (arith, c.connections-test.true, c.connections.auto._served-end)) (sym c.ending_of.ensures ∙ c.in-Some.is) so_far
    (c.serve_next-end.ensures.took outside (behind_all first so_far.connections) (subst (λ (ring : List RingKey). IsOutside g.K.S.Seal.lock ring outside) (sym before.same_keys) is) so_far.stands)

pub returns-clause-served : goal.returns-clause-served
returns-clause-served g c outside first is stands =
    each-served (rules_of g.K.D.Draw.step g.V.Service.step outside) first c.connections._served c.args.conns (g.N.Net.calls c.args.net.now) (record { desk = g.K.Desk.StandsFor c.connections.desk; behind = g.K.Desk.Behind c.connections.desk; drawn = g.K.Desk.drawn c.connections.desk; service = c.connections.service; given = g.C.Clock.given c.connections.clock; left = c.connections.left; calls = g.N.Net.calls c.connections.net })
    (omega (arith, c.connections-test.false, c.connections.auto._served-end)) (c.connections.invariant.so_far outside first is stands)

pub returns-in-Some-clause-desk_counted : goal.returns-in-Some-clause-desk_counted
returns-in-Some-clause-desk_counted g c outside first is stands =
    let before = c.connections.invariant in
    let so_far = before.so_far outside first is stands in
    counts-desk (rules_of g.K.D.Draw.step g.V.Service.step outside) (behind_all first so_far.connections) (g.N.Net.calls c.connections.net) (record { desk = g.K.Desk.StandsFor c.serve_next-end.new.desk; behind = g.K.Desk.Behind c.serve_next-end.new.desk; drawn = g.K.Desk.drawn c.serve_next-end.new.desk; service = c.serve_next-end.new.service; given = g.C.Clock.given c.serve_next-end.new.clock; left = c.serve_next-end.new.left; calls = g.N.Net.calls c.serve_next-end.new.net })
    g.K.Desk.MayAnswer c.serve_next-end.result c.in-Some.ending (g.K.Desk.fault_count c.args.desk.now) (g.K.Desk.fault_count c.connections.desk) (g.K.Desk.fault_count c.serve_next-end.new.desk)
    (λ fault server may behind. c.requires.faults fault c.serve_next-end.new.desk server may behind) c.serve_next-end.ensures.journal (sym c.ending_of.ensures ∙ c.in-Some.is) before.desk_count
    (c.serve_next-end.ensures.took outside (behind_all first so_far.connections) (subst (λ (ring : List RingKey). IsOutside g.K.S.Seal.lock ring outside) (sym before.same_keys) is) so_far.stands)
    c.serve_next-end.ensures.desk_counted

pub returns-in-Some-clause-full : goal.returns-in-Some-clause-full
returns-in-Some-clause-full g c = full-answered g.K.Desk.MayAnswer c.serve_next-end.result c.in-Some.ending c.serve_next-end.ensures.journal (sym c.ending_of.ensures ∙ c.in-Some.is)
