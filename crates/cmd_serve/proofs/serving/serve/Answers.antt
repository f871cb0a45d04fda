use Rattle.std.proofs.Common.{◌∙◌}
use Rattle.cmd_serve.specs.Connections.{behind_all}
use Rattle.cmd_serve.specs.Inner.{Side}
use Rattle.cmd_serve.specs.Runs.{Registers}
use Rattle.cmd_serve.proofs.ServingLemmas.{drawn-behind, gave-behind, leaves-behind}
use Rattle.cmd_serve.proofs.serving.serve.Goals as goal

pub returns-clause-serves : goal.returns-clause-serves
returns-clause-serves g c = λ outside first is stands.
    let all = c.serve_all.ensures.served outside first is (record { server = stands.server; draw = stands.draw; served = c.fresh-service.ensures ∙ stands.served; gave = stands.gave; count = stands.count }) in
    let side : Side _ Registers = record { desk = g.K.Desk.StandsFor c.serve_all.new.desk; behind = g.K.Desk.Behind c.serve_all.new.desk; drawn = g.K.Desk.drawn c.serve_all.new.desk; service = c.serve_all.new.service; given = g.C.Clock.given c.serve_all.new.clock; left = c.serve_all.new.left; calls = g.N.Net.calls c.serve_all.new.net } in
    record {
      connections = all.connections;
      are = record {
        are = all.are;
        ended = all.ended;
        moments = gave-behind c.serve_all.result side (behind_all first all.connections) all.stands;
        words = drawn-behind c.serve_all.result side (behind_all first all.connections) all.stands;
      };
      leaves = leaves-behind c.serve_all.result side (behind_all first all.connections) all.stands;
      noted = all.noted;
      counted = c.serve_all.ensures.counted;
      tells = c.serve_all.ensures.first_fault;
    }

pub returns-clause-desk_counted : goal.returns-clause-desk_counted
returns-clause-desk_counted g c = λ outside first is stands.
    c.serve_all.ensures.desk_counted outside first is (record { server = stands.server; draw = stands.draw; served = c.fresh-service.ensures ∙ stands.served; gave = stands.gave; count = stands.count })
